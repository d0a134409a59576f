-- The laws of `count_below`.
-- Assumes nothing.
use Rattle.std.specs.Prelude.{if◌then◌else◌}
use mathlib.Core.Path.{◌≡◌, refl, ap₂}
use mathlib.Core.Bool.{Bool, true, false}
use Prim.Native.Nat.{ℕ, zero, suc, ◌+◌, ◌≤◌, ◌<◌}
use native.Mathlib.Nat.{le_refl}
use native.Mathlib.Numerals.{add-one}
use native.Mathlib.Omega.{arith}
use Rattle.bounded.specs.Bounded.{count_below}
use Rattle.bounded.proofs.Cases.{cases, at-end}

counted : (i : ℕ) (p : ℕ → Bool) {b : Bool} → b ≡ p i → count_below (i + 1) p ≡ count_below i p + (if b then 1 else 0)
unfolding count_below
counted i p a = rw (add-one, count_below, a)

-- ---- as a loop has it

pub count-start : (p : ℕ → Bool) → 0 ≡ count_below 0 p
unfolding count_below
count-start p = refl

pub count-more : (i : ℕ) (p : ℕ → Bool) {k : ℕ} {b : Bool} → k ≡ count_below i p → b ≡ p i → b ≡ true → k + 1 ≡ count_below (i + 1) p
count-more i p {k} {b} e a t = let q : count_below (i + 1) p ≡ count_below i p + 1 = rw t at (counted i p a) in omega arith

pub count_same : (i : ℕ) (p : ℕ → Bool) {k : ℕ} {b : Bool} → k ≡ count_below i p → b ≡ p i → b ≡ false → k ≡ count_below (i + 1) p
count_same i p {k} {b} e a t = let q : count_below (i + 1) p ≡ count_below i p + 0 = rw t at (counted i p a) in omega arith

pub count-end : (n i : ℕ) (p : ℕ → Bool) {k : ℕ} → k ≡ count_below i p → i ≤ n → n ≤ i → k ≡ count_below n p
count-end n i p {k} e h g = at-end (λ m. k ≡ count_below m p) h g e

-- ---- as a theorem has it

pub count-le : (n : ℕ) (p : ℕ → Bool) → count_below n p ≤ n
unfolding count_below
count-le zero p = le_refl 0
count-le (suc n) p =
    let h = count-le n p in
    cases (p n) (λ q. rw q (omega arith)) (λ q. rw q (omega arith))

pub count-cong : (n : ℕ) (p q : ℕ → Bool) → ((k : ℕ) → k < n → p k ≡ q k) → count_below n p ≡ count_below n q
unfolding count_below
count-cong zero p q h = refl
count-cong (suc n) p q h =
    ap₂ (λ (k : ℕ) (b : Bool). k + (if b then 1 else 0)) (count-cong n p q (λ k l. h k (omega arith))) (h n (omega arith))
