-- One level of the tables changed: what the change leaves at that level and at another, and two changes as one.
-- Assumes nothing.
use Prim.Native.Nat.{ℕ}
use mathlib.Core.Path.{◌≡◌, refl, sym, ap, ◌∙◌, fun_ext}
use mathlib.Core.Logic.{◌≢◌}
use lib.Dec.{eqb}
use borrow.Author.Tests.{eq-eqb, ne_eqb, eqb-true}
use Rattle.bounded.proofs.Cases.{cases}
use Rattle.model.specs.Tables.{Row, Level, State}
use Rattle.cells.specs.Changed.{change_level}

pub level-path : {B C : Level} → ((r i k : ℕ) → B.rows r i k ≡ C.rows r i k) → B ≡ C
level-path h = ap (λ (D : ℕ → ℕ → Row). record { rows = D }) (fun_ext (λ r. fun_ext (λ i. fun_ext (λ k. h r i k))))

pub change-as : (l : ℕ) (f g : Level → Level) (S : State) → f (S l) ≡ g (S l) → change_level l f S ≡ change_level l g S
unfolding change_level
change-as l f g S e = fun_ext (λ m. cases (eqb l m) (λ q. rw (← (eqb-true l m q), eq-eqb l l refl) e) (λ q. rw q))

pub change-same : (l : ℕ) (f : Level → Level) (S : State) → f (S l) ≡ S l → S ≡ change_level l f S
unfolding change_level
change-same l f S e = fun_ext (λ m. cases (eqb l m) (λ q. rw (← (eqb-true l m q), eq-eqb l l refl) (sym e)) (λ q. rw q))

pub change-twice : (l : ℕ) (f g : Level → Level) (S : State) → change_level l f (change_level l g S) ≡ change_level l (λ B. f (g B)) S
unfolding change_level
change-twice l f g S = fun_ext (λ m. cases (eqb l m) (λ q. rw q) (λ q. rw q))

pub change-here : (l : ℕ) (f : Level → Level) (S : State) → change_level l f S l ≡ f (S l)
unfolding change_level
change-here l f S = rw (eq-eqb l l refl)

pub change-other : (l m : ℕ) (f : Level → Level) (S : State) → l ≢ m → change_level l f S m ≡ S m
unfolding change_level
change-other l m f S n = rw (ne_eqb l m n)

-- a change of what a change left, as one
pub change-on : (l : ℕ) (f g h : Level → Level) (S₀ : State) {S S' : State} → S ≡ change_level l g S₀ → S' ≡ change_level l f S → f (g (S₀ l)) ≡ h (S₀ l) → S' ≡ change_level l h S₀
change-on l f g h S₀ p q e = q ∙ (ap (change_level l f) p ∙ (change-twice l f g S₀ ∙ change-as l (λ B. f (g B)) h S₀ e))
