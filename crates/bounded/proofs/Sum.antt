-- The laws of `sum_below`.
-- Assumes nothing.
use mathlib.Core.Path.{◌≡◌, refl, ap₂}
use Prim.Native.Nat.{ℕ, zero, suc, ◌+◌, ◌≤◌, ◌<◌}
use native.Mathlib.Nat.{not-suc-le-zero, le_refl}
use native.Mathlib.Numerals.{add-one}
use native.Mathlib.Omega.{arith}
use Rattle.bounded.specs.Bounded.{sum_below}
use Rattle.bounded.proofs.Cases.{split-last, at-end}

-- ---- as a loop has it

pub sum-start : (f : ℕ → ℕ) → 0 ≡ sum_below 0 f
unfolding sum_below
sum-start f = refl

pub sum-next : (i : ℕ) (f : ℕ → ℕ) → sum_below (i + 1) f ≡ sum_below i f + f i
unfolding sum_below
sum-next i f = rw add-one

pub sum_more : (i : ℕ) (f : ℕ → ℕ) {s x : ℕ} → s ≡ sum_below i f → x ≡ f i → s + x ≡ sum_below (i + 1) f
sum_more i f e a = omega (arith, sum-next i f)

pub sum-end : (n i : ℕ) (f : ℕ → ℕ) {s : ℕ} → s ≡ sum_below i f → i ≤ n → n ≤ i → s ≡ sum_below n f
sum-end n i f {s} e h k = at-end (λ m. s ≡ sum_below m f) h k e

-- ---- as a theorem has it

-- what stands before m and at m is part of the whole
pub sum_mono : (f : ℕ → ℕ) (m n : ℕ) → m < n → sum_below m f + f m ≤ sum_below n f
unfolding sum_below
sum_mono f m zero h = absurd (not-suc-le-zero h)
sum_mono f m (suc n) h =
    split-last h
    (λ l. let k = sum_mono f m n l in omega arith)
    (λ e. rw e (le_refl (sum_below n f + f n)))

pub sum-cong : (n : ℕ) (f g : ℕ → ℕ) → ((k : ℕ) → k < n → f k ≡ g k) → sum_below n f ≡ sum_below n g
unfolding sum_below
sum-cong zero f g h = refl
sum-cong (suc n) f g h = ap₂ ◌+◌ (sum-cong n f g (λ k l. h k (omega arith))) (h n (omega arith))
