-- The list of what a function gives at 0, 1, .., and a list that a loop has filled with that.
-- Assumes nothing.
use mathlib.Core.Path.{◌≡◌, refl, sym, ap, ◌∙◌}
use mathlib.Core.List.{List}
use Prim.Native.Nat.{ℕ, zero, suc, ◌<◌}
use native.Mathlib.Nat.{le_of_suc-le-suc, not-suc-le-zero}
use native.Mathlib.Omega.{arith}
use lib.ListN.{length, get_or}
use lib.Seq.{ext_get_or}
use Rattle.level.specs.Order.{up_to}

module _ {A : Type 0} where
  pub length-up_to : (n : ℕ) (f : ℕ → A) → length (up_to n f) ≡ n
  unfolding up_to
  length-up_to zero f = refl
  length-up_to (suc n) f = ap suc (length-up_to n (λ i. f (suc i)))

  pub get_or-up_to : (n : ℕ) (f : ℕ → A) (i : ℕ) (d : A) → i < n → get_or (up_to n f) i d ≡ f i
  unfolding up_to
  get_or-up_to zero f i d h = absurd (not-suc-le-zero h)
  get_or-up_to (suc n) f zero d h = refl
  get_or-up_to (suc n) f (suc i) d h = get_or-up_to n (λ i. f (suc i)) i d (le_of_suc-le-suc h)

  pub filled : (n : ℕ) (f : ℕ → A) (d : A) (l : List A) → length l ≡ n → ((k : ℕ) → k < n → get_or l k d ≡ f k) → l ≡ up_to n f
  filled n f d l e same =
      ext_get_or d l (up_to n f) (e ∙ sym (length-up_to n f))
      (λ i h. let m : i < n = omega arith in same i m ∙ sym (get_or-up_to n f i d m))
