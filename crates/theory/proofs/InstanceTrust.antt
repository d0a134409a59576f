-- Nothing is vacuous: a value of another level's that the statement named, and one that was held before.
-- Assumes nothing.
use Prim.Native.Nat.{ℕ, zero, suc, ◌≤◌}
use mathlib.Core.Path.{◌≡◌, refl, sym, ◌∙◌}
use mathlib.Core.Logic.{◌⊎◌, inl, inr}
use native.Mathlib.Omega.{arith}
use Rattle.model.specs.Tables.{cell, nocell}
use Rattle.model.specs.Ledger.{Ledger}
use Rattle.model.proofs.Computed.{computed}
use Rattle.model.proofs.Build.{laid}
use Rattle.model.proofs.Worked.{five, no₁, no₂, X, p₁, p₃}
use Rattle.theory.specs.Theorems.{Yes, tables, leaves, Held, Named}
use Rattle.theory.proofs.Fine.{value_of}
use Rattle.theory.proofs.Calls.{yes-says}
use Rattle.theory.proofs.Trust.{trust-is-named}
use Rattle.theory.proofs.Instance.{start, start-legal}

-- ---- P1: level 3 had no row, and shows level 1's 21

abbrev before : Ledger
before = laid five (X no₁ no₂ no₂)

before-legal : Yes five before
unfolding computed
before-legal = refl

none_before : (i : ℕ) → tables five before 1 3 i 1 ≡ nocell
unfolding computed
none_before zero = refl
none_before (suc zero) = refl
none_before (suc (suc n)) = (yes-says five before before-legal).legal.outside 1 3 (suc (suc n)) 1 (let h : 2 ≤ suc (suc n) = omega arith in h)

pub named-shown : tables five (leaves five p₁ before) 1 3 0 2 ≡ cell 21 1
unfolding computed
named-shown = refl

pub named : Named five before p₁ 1 3 (cell 7 0) 2 1
unfolding computed
named =
    go (trust-is-named five before p₁ before-legal 1 3 0 2 (λ e. let z : ◌≡◌ {A = ℕ} 2 1 = e in omega (arith, z))
    (λ e. let z : ◌≡◌ {A = ℕ} 21 0 = e in omega (arith, z)) (λ e. let z : ◌≡◌ {A = ℕ} 1 3 = e in omega (arith, z)))
  where
    go : Held (tables five before) 1 3 (cell 7 0) 2 1 ⊎ Named five before p₁ 1 3 (cell 7 0) 2 1 → Named five before p₁ 1 3 (cell 7 0) 2 1
    go (inl h) = absurd (let z : ◌≡◌ {A = ℕ} 0 7 = value_of (sym (none_before h.row) ∙ h.one) in omega (arith, z))
    go (inr h) = h

-- ---- P3 on P1's row: level 3 shows level 1's 22, and had level 1's 21

pub held-shown : tables five (leaves five p₃ start) 1 3 0 2 ≡ cell 22 1
unfolding computed
held-shown = refl

pub held : Held (tables five start) 1 3 (cell 7 0) 2 1
unfolding computed
held =
    go (trust-is-named five start p₃ start-legal 1 3 0 2 (λ e. let z : ◌≡◌ {A = ℕ} 2 1 = e in omega (arith, z))
    (λ e. let z : ◌≡◌ {A = ℕ} 22 0 = e in omega (arith, z)) (λ e. let z : ◌≡◌ {A = ℕ} 1 3 = e in omega (arith, z)))
  where
    go : Held (tables five start) 1 3 (cell 7 0) 2 1 ⊎ Named five start p₃ 1 3 (cell 7 0) 2 1 → Held (tables five start) 1 3 (cell 7 0) 2 1
    go (inl h) = h
    go (inr h) = absurd (let z : ◌≡◌ {A = ℕ} 1 3 = h.level in omega (arith, z))
