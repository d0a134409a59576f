-- A search that adds up the numbers of the rows that were met: as the key stands at most once, the sum is the row that has it.
-- Assumes nothing.
use Rattle.std.specs.Prelude.{if◌then◌else◌, Option, Some, None, is_some}
use mathlib.Core.Path.{◌≡◌, refl, sym, ap, ◌∙◌}
use mathlib.Core.Bool.{Bool, true, false, not}
use mathlib.Core.Logic.{◌⊎◌, inl, inr, ⊎_elim}
use Prim.Native.Nat.{ℕ, ◌+◌, ◌-◌, ◌≤◌, ◌<◌}
use native.Mathlib.Nat.{le_antisymm, lt_irrefl}
use native.Mathlib.Numerals.{add-one}
use native.Mathlib.Omega.{arith}
use lib.Dec.{eqb, ltb}
use borrow.Author.Tests.{lt-ltb, ltb-true, ltb-false, eq-eqb, ne_eqb, not-true, not-false}
use Rattle.bounded.specs.Bounded.{first_below, some_below}
use Rattle.bounded.proofs.Cases.{cases, clash}
use Rattle.bounded.proofs.Found.{below-some, below-none}
use Rattle.bounded.proofs.First.{first_more, first-here, first-start, first_holds, first-le}

pub first-none : (n : ℕ) (p : ℕ → Bool) → ((j : ℕ) → j < n → p j ≡ false) → first_below n p ≡ n
first-none n p h =
    cases (ltb (first_below n p) n)
    (λ t. clash (first_holds n p (ltb-true _ _ t)) (h (first_below n p) (ltb-true _ _ t)))
    (λ t. le_antisymm (first-le n p) (ltb-false _ _ t))

pub Sought : ℕ → (ℕ → Bool) → ℕ → Type 0
Sought n p f = ((f ≡ 0) × (first_below n p ≡ n)) ⊎ ((f ≡ first_below n p + 1) × (first_below n p < n))

first-keep : (n : ℕ) (p : ℕ → Bool) → first_below n p < n → first_below (n + 1) p ≡ first_below n p
unfolding first_below
first-keep n p h = rw (add-one, first_below, lt-ltb (first_below n p) n h)

pub sought-none : (p : ℕ → Bool) → Sought 0 p 0
unfolding Sought
sought-none p = inl (refl, first-start p)

pub sought-le : (n : ℕ) (p : ℕ → Bool) (f : ℕ) → Sought n p f → f ≤ n
unfolding Sought
sought-le n p f s = ⊎_elim (λ a. omega arith) (λ a. omega arith) s

pub sought-more : (n m : ℕ) (p : ℕ → Bool) (f : ℕ) {x : ℕ} → n < m → ((i j : ℕ) → i < m → j < m → p i ≡ true → p j ≡ true → i ≡ j) → Sought n p f → x ≡ (if p n then n + 1 else 0) → Sought (n + 1) p (f + x)
unfolding Sought
sought-more n m p f {x} h one s e =
    cases (p n)
    (λ t. let q : x ≡ n + 1 = e ∙ rw t in
    ⊎_elim
    (λ a. let k = first-here (n + 1) n p a.1 {b = p n} refl t (omega arith) in inr (omega arith, omega arith))
    (λ a. let k = one (first_below n p) n (omega arith) h (first_holds n p a.1) t in absurd (omega arith))
    s)
    (λ t. let q : x ≡ 0 = e ∙ rw t in
    ⊎_elim
    (λ a. inl (omega arith, first_more n p a.1 {b = p n} refl t))
    (λ a. let k = first-keep n p a.1 in inr (omega arith, omega arith))
    s)

pub sought-zero : (n : ℕ) (p : ℕ → Bool) (f : ℕ) → Sought n p f → f ≡ 0 → None ≡ some_below n (first_below n p)
unfolding Sought
sought-zero n p f s e = sym (below-none n (first_below n p) (⊎_elim (λ a. omega arith) (λ a. absurd (omega arith)) s))

pub sought-some : (n : ℕ) (p : ℕ → Bool) (f : ℕ) → Sought n p f → (f ≡ 0 → ⊥) → Some (f - 1) ≡ some_below n (first_below n p)
unfolding Sought
sought-some n p f s e =
    ⊎_elim (λ a. absurd (e a.0)) (λ a. let q : f - 1 ≡ first_below n p = omega arith in ap Some q ∙ sym (below-some n (first_below n p) a.1)) s

-- none of the first n is the first at which it holds
pub sought-first : (n : ℕ) (p : ℕ → Bool) {x : Option ℕ} {b : Bool} → x ≡ some_below n (first_below n p) → is_some x ≡ not b → b ≡ eqb (first_below n p) n
sought-first n p {x} {b} e q =
    cases (ltb (first_below n p) n)
    (λ t. let h = ltb-true _ _ t in
    let y : true ≡ not b = rw (e, below-some n (first_below n p) h) at q in
    not-true b (sym y) ∙ sym (ne_eqb (first_below n p) n (λ z. lt_irrefl n (rw z at h))))
    (λ t. let h = ltb-false _ _ t in
    let y : false ≡ not b = rw (e, below-none n (first_below n p) h) at q in
    not-false b (sym y) ∙ sym (eq-eqb (first_below n p) n (le_antisymm (first-le n p) h)))
