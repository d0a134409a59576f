-- The laws of `all_below`.
-- Assumes nothing.
use mathlib.Core.Path.{◌≡◌, refl, sym, ap₂, ◌∙◌}
use mathlib.Core.Bool.{Bool, true, false, ◌&&◌}
use Prim.Native.Nat.{ℕ, zero, suc, ◌+◌, ◌≤◌, ◌<◌}
use native.Mathlib.Nat.{not-suc-le-zero}
use native.Mathlib.Numerals.{add-one}
use native.Mathlib.Omega.{arith}
use Rattle.bounded.specs.Bounded.{all_below}
use Rattle.bounded.proofs.Cases.{and_i, and_left, and_right, and-false-right, split-last, at-end}

-- ---- as a loop has it

pub all_start : (p : ℕ → Bool) → all_below 0 p ≡ true
unfolding all_below
all_start p = refl

pub all_more : (i : ℕ) (p : ℕ → Bool) → all_below i p ≡ true → {b : Bool} → b ≡ p i → b ≡ true → all_below (i + 1) p ≡ true
unfolding all_below
all_more i p e a t = rw add-one (and_i e (sym a ∙ t))

not-all : (n i : ℕ) (p : ℕ → Bool) → p i ≡ false → i < n → all_below n p ≡ false
unfolding all_below
not-all zero i p q h = absurd (not-suc-le-zero h)
not-all (suc n) i p q h =
    split-last h (λ l. rw (not-all n i p q l)) (λ e. and-false-right (all_below n p) (p n) (rw e at q))

pub all-fails : (n i : ℕ) (p : ℕ → Bool) {b : Bool} → b ≡ p i → b ≡ false → i < n → all_below n p ≡ false
all-fails n i p a f h = not-all n i p (sym a ∙ f) h

pub all_end : (n i : ℕ) (p : ℕ → Bool) → all_below i p ≡ true → i ≤ n → n ≤ i → all_below n p ≡ true
all_end n i p e h k = at-end (λ m. all_below m p ≡ true) h k e

-- ---- as a theorem has it

pub all-at : (n : ℕ) (p : ℕ → Bool) → all_below n p ≡ true → (i : ℕ) → i < n → p i ≡ true
unfolding all_below
all-at zero p e i h = absurd (not-suc-le-zero h)
all-at (suc n) p e i h =
    split-last h
    (λ l. all-at n p (and_left (all_below n p) (p n) e) i l)
    (λ s. rw s (and_right (all_below n p) (p n) e))

pub all_of : (n : ℕ) (p : ℕ → Bool) → ((i : ℕ) → i < n → p i ≡ true) → all_below n p ≡ true
unfolding all_below
all_of zero p h = refl
all_of (suc n) p h = and_i (all_of n p (λ i l. h i (omega arith))) (h n (omega arith))

pub all-cong : (n : ℕ) (p q : ℕ → Bool) → ((k : ℕ) → k < n → p k ≡ q k) → all_below n p ≡ all_below n q
unfolding all_below
all-cong zero p q h = refl
all-cong (suc n) p q h = ap₂ ◌&&◌ (all-cong n p q (λ k l. h k (omega arith))) (h n (omega arith))
