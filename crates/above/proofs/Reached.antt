-- One level as it is reached, way by way, and what the functions of a level are told.
-- Assumes nothing.
use Prim.Native.Nat.{ℕ, suc, ◌≤◌}
use mathlib.Core.Path.{◌≡◌, sym, ap, ap₂, ◌∙◌}
use mathlib.Core.Bool.{Bool, true, false}
use mathlib.Core.Logic.{◌≢◌}
use mathlib.Core.List.{List}
use native.Mathlib.Omega.{arith}
use Rattle.bounded.proofs.Reflection.{of-true}
use Rattle.model.specs.declared.Description.{Description}
use Rattle.model.specs.Description.{over, row_count, column_count}
use Rattle.model.specs.Tables.{Cell, Row, Level, State}
use Rattle.model.proofs.Sound.{sound-r}
use Rattle.model.specs.Buffers.{holding, state_of}
use Rattle.cells.specs.Changed.{value_at, change_level}
use Rattle.cells.proofs.Cells.{state-cell}
use Rattle.cells.proofs.Changes.{change-same, change-here, change-other, change-on}
use Rattle.above.specs.declared.plan.Plan.{Plan}
use Rattle.above.specs.Facts.{carried, row_after, with_rows, with_referrers, given_by, OneRow, Apart, Working, Planned}
use Rattle.above.proofs.Referred.{done-named}
use Rattle.above.proofs.Carried.{carried-own, carried-aside, not-self, carried-above}

-- ---- one level, way by way

module _ (d : Description) (c r l : ℕ) (P : Plan) (S : State) where
  pub reached-own : l ≡ c → S ≡ change_level l (λ B. carried d c r P S l) S
  reached-own e = change-same l (λ B. carried d c r P S l) S (rw e (carried-own d c r P S))

  pub reached-aside : l ≢ c → {b : Bool} → b ≡ over d l c → b ≡ false → S ≡ change_level l (λ B. carried d c r P S l) S
  reached-aside n p t = change-same l (λ B. carried d c r P S l) S (carried-aside d c r P S l n (sym p ∙ t))

  abbrev referred : Level → Level
  referred = with_referrers (suc d.relations) d r P c S l

  -- the relation's rows as they become, where F are those of the level and G those of the subject
  abbrev after : Plan → (ℕ → Row) → (ℕ → Row) → Level → Level
  after X G F = with_rows (row_count d r) (column_count d r) r (λ i. row_after (row_count d r) X c G (F i))

  -- the references first, and then the rows
  pub reached-above : l ≢ c → {b : Bool} → b ≡ over d l c → b ≡ true → Working d r c S → Planned d r c P ((S c).rows r)
      → {G : Plan} {S₁ S₂ : State} → G ≡ given_by d r P c S l
      → S₁ ≡ change_level l referred S
      → S₂ ≡ change_level l (after G ((S₁ c).rows r) ((S₁ l).rows r)) S₁
      → S₂ ≡ change_level l (λ B. carried d c r P S l) S
  reached-above n {b} p t W Q {G} {S₁} {S₂} g e f =
      change-on l (after G ((S₁ c).rows r) ((S₁ l).rows r)) referred (λ B. carried d c r P S l) S e f
      (ap₂ (λ (X : Plan) (F : ℕ → Row). after X ((S₁ c).rows r) F (referred (S l))) g here
      ∙ ap (λ (F : ℕ → Row). after (given_by d r P c S l) F ((S l).rows r) (referred (S l))) own
      ∙ sym (carried-above d r c l P S n (sym p ∙ t) W Q))
    where
      own : (S₁ c).rows r ≡ (S c).rows r
      own = ap (λ (T : State). (T c).rows r) e ∙ ap (λ (B : Level). B.rows r) (change-other l c referred S n)

      here : (S₁ l).rows r ≡ (S l).rows r
      here =
          ap (λ (T : State). (T l).rows r) e
          ∙ ap (λ (B : Level). B.rows r) (change-here l referred S)
          ∙ done-named d r P c S l (suc d.relations) (S l) (not-self d r c P S W Q)

-- no key stands in two rows of a level that another's change left alone
pub one-row-kept : (d : Description) (r c l : ℕ) (f : Level → Level) (S : State) (vs cs : List ℕ)
    → Working d r c S → l ≢ c → state_of d (holding vs cs) ≡ change_level l f S → OneRow d vs r c
one-row-kept d r c l f S vs cs W n e = record { one = λ i j h g m q. W.one-row r c i j (λ z. m (sym (is i) ∙ z)) (is i ∙ q ∙ sym (is j)) }
  where
    is : (i : ℕ) → ((S c).rows r i 1).value ≡ value_at d vs r c i 1
    is i =
        ap (λ (B : Level). (B.rows r i 1).value) (sym (change-other l c f S n))
        ∙ ap (λ (T : State). ((T c).rows r i 1).value) (sym e)
        ∙ ap (λ (x : Cell). x.value) (state-cell d vs cs r c i 1)

-- ---- what a level's functions are told

module _ {d : Description} {r c : ℕ} {S : State} (W : Working d r c S) where
  pub few-levels : d.levels ≤ 16
  few-levels = (of-true (sound-r d) W.sound-is).few-levels

  pub apart : (l : ℕ) → l ≢ c → Apart c l
  apart l n = record { few = omega (arith, W.level, few-levels); other = n }
