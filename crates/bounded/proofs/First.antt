-- The laws of `first_below`. A loop asks its test at i and has the answer b: `b ≡ p i` is what the callee ensures, `b ≡ true` the branch.
-- Assumes nothing.
use Rattle.std.specs.Prelude.{if◌then◌else◌}
use mathlib.Core.Path.{◌≡◌, refl, sym, ap₂, ◌∙◌}
use mathlib.Core.Bool.{Bool, true, false}
use Prim.Native.Nat.{ℕ, zero, suc, ◌+◌, ◌≤◌, ◌<◌}
use native.Mathlib.Nat.{not-suc-le-zero, lt_irrefl, le_refl, eq-or-lt_of_le}
use native.Mathlib.Numerals.{add-one}
use native.Mathlib.Omega.{arith}
use mathlib.Core.Logic.{⊎_elim}
use lib.Dec.{ltb}
use borrow.Author.Tests.{lt-ltb, le-ltb, ltb-true, ltb-false}
use Rattle.bounded.specs.Bounded.{first_below}
use Rattle.bounded.proofs.Cases.{cases, split-last, at-end}

-- ---- as a loop has it

pub first-start : (p : ℕ → Bool) → first_below 0 p ≡ 0
unfolding first_below
first-start p = refl

pub first_more : (i : ℕ) (p : ℕ → Bool) → first_below i p ≡ i → {b : Bool} → b ≡ p i → b ≡ false → first_below (i + 1) p ≡ i + 1
unfolding first_below
first_more i p e a f = let q : p i ≡ false = sym a ∙ f in rw (add-one, first_below, e, q, le-ltb i i (le_refl i))

is-first : (n i : ℕ) (p : ℕ → Bool) → first_below i p ≡ i → p i ≡ true → i < n → first_below n p ≡ i
unfolding first_below
is-first zero i p e q h = absurd (not-suc-le-zero h)
is-first (suc n) i p e q h =
    split-last h
    (λ l. rw (is-first n i p e q l, lt-ltb i n l))
    (λ s. rw (← s, e, q, le-ltb i i (le_refl i)))

pub first-here : (n i : ℕ) (p : ℕ → Bool) → first_below i p ≡ i → {b : Bool} → b ≡ p i → b ≡ true → i < n → first_below n p ≡ i
first-here n i p e a t h = is-first n i p e (sym a ∙ t) h

pub first-end : (n i : ℕ) (p : ℕ → Bool) → first_below i p ≡ i → i ≤ n → n ≤ i → first_below n p ≡ n
first-end n i p e h k = at-end (λ m. first_below m p ≡ m) h k e

-- ---- as a theorem has it

pub first-le : (n : ℕ) (p : ℕ → Bool) → first_below n p ≤ n
unfolding first_below
first-le zero p = le_refl 0
first-le (suc n) p =
    cases (ltb (first_below n p) n)
    (λ t. let h = first-le n p in rw t (omega arith))
    (λ t. cases (p n) (λ q. rw (t, q) (omega arith)) (λ q. rw (t, q) (omega arith)))

pub first_holds : (n : ℕ) (p : ℕ → Bool) → first_below n p < n → p (first_below n p) ≡ true
unfolding first_below
first_holds zero p h = absurd (not-suc-le-zero h)
first_holds (suc n) p h =
    cases (ltb (first_below n p) n)
    (λ t. rw t (first_holds n p (ltb-true (first_below n p) n t)))
    (λ t. cases (p n) (λ q. rw (t, q) q) (λ q. absurd (lt_irrefl (suc n) (rw (t, q) at h))))

pub first-before : (n : ℕ) (p : ℕ → Bool) (k : ℕ) → k < first_below n p → p k ≡ false
unfolding first_below
first-before zero p k h = absurd (not-suc-le-zero h)
first-before (suc n) p k h =
    cases (ltb (first_below n p) n)
    (λ t. first-before n p k (rw t at h))
    (λ t. cases (p n)
    (λ q. let l : k < n = rw (t, q) at h in first-before n p k (omega (arith, ltb-false (first_below n p) n t)))
    (λ q. let l : k < suc n = rw (t, q) at h in
    split-last l
    (λ m. first-before n p k (omega (arith, ltb-false (first_below n p) n t)))
    (λ e. rw e q)))

pub first_cong : (n : ℕ) (p q : ℕ → Bool) → ((k : ℕ) → k < n → p k ≡ q k) → first_below n p ≡ first_below n q
unfolding first_below
first_cong zero p q h = refl
first_cong (suc n) p q h =
    ap₂ (λ (k : ℕ) (b : Bool). if ltb k n then k else if b then n else suc n)
    (first_cong n p q (λ k l. h k (omega arith)))
    (h n (omega arith))

-- what a search came to: it met the test at i and not before, or nowhere
pub data First (n : ℕ) (p : ℕ → Bool) (i : ℕ) : Type 0 where
  found : i < n → p i ≡ true → ((j : ℕ) → j < i → p j ≡ false) → First n p i
  absent : i ≡ n → ((j : ℕ) → j < n → p j ≡ false) → First n p i

pub first-cases : (n : ℕ) (p : ℕ → Bool) → First n p (first_below n p)
first-cases n p =
    ⊎_elim
    (λ e. absent e (λ j h. first-before n p j (rw e h)))
    (λ h. found h (first_holds n p h) (first-before n p))
    (eq-or-lt_of_le (first-le n p))
