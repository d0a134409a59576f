-- By cases: on a truth value, on the order of two numbers, on an index below a successor, at a loop's end.
-- Assumes nothing.
use mathlib.Core.Path.{◌≡◌, refl, sym, subst, ◌∙◌}
use mathlib.Core.Bool.{Bool, true, false, ◌&&◌, ◌||◌, true≢false}
use mathlib.Core.Logic.{⊎_elim}
use Prim.Native.Nat.{ℕ, suc, ◌≤◌, ◌<◌}
use native.Mathlib.Nat.{le_of_suc-le-suc, eq-or-lt_of_le, le_antisymm}
use lib.Dec.{ltb}
use borrow.Author.Tests.{ltb-true, ltb-false}

-- a truth value, with what is known of it
pub cases {ℓ} : {P : Type ℓ} (b : Bool) → (b ≡ true → P) → (b ≡ false → P) → P
cases true f g = f refl
cases false f g = g refl

-- a truth value is not both
pub clash {ℓ} : {P : Type ℓ} {b : Bool} → b ≡ true → b ≡ false → P
clash p q = absurd (true≢false (sym p ∙ q))

pub and_i : {a b : Bool} → a ≡ true → b ≡ true → (a && b) ≡ true
and_i p q = rw (p, q)

pub and_left : (a b : Bool) → (a && b) ≡ true → a ≡ true
and_left true b e = refl
and_left false b e = e

pub and_right : (a b : Bool) → (a && b) ≡ true → b ≡ true
and_right true b e = e
and_right false b e = clash e refl

pub and-false-right : (a b : Bool) → b ≡ false → (a && b) ≡ false
and-false-right true b e = e
and-false-right false b e = refl

pub or_true_right : (a b : Bool) → b ≡ true → (a || b) ≡ true
or_true_right true b e = refl
or_true_right false b e = e

-- below, at, above
pub order {ℓ} : {P : Type ℓ} (a b : ℕ) → (a < b → P) → (a ≡ b → P) → (b < a → P) → P
order a b f g h =
    cases (ltb a b)
    (λ t. f (ltb-true a b t))
    (λ t. cases (ltb b a) (λ u. h (ltb-true b a u)) (λ u. g (le_antisymm (ltb-false b a u) (ltb-false a b t))))

-- an index below a successor
pub split-last {ℓ} : {P : Type ℓ} {k n : ℕ} → k < suc n → (k < n → P) → (k ≡ n → P) → P
split-last h f g = ⊎_elim (λ e. g e) (λ l. f l) (eq-or-lt_of_le (le_of_suc-le-suc h))

-- what holds at a loop's counter holds at its bound, where the counter has come to it
pub at-end {ℓ} : (P : ℕ → Type ℓ) {i n : ℕ} → i ≤ n → n ≤ i → P i → P n
at-end P h k x = subst P (le_antisymm h k) x
