-- The laws of `some_below`, as a search answers and as a `match` on its answer reads it.
-- Assumes nothing.
use Rattle.std.specs.Prelude.{Some, None}
use mathlib.Core.Path.{◌≡◌, sym, ap, ◌∙◌}
use Prim.Native.Nat.{ℕ, ◌≤◌, ◌<◌}
use mathlib.Core.Bool.{Bool, true}
use native.Mathlib.Omega.{arith}
use lib.Dec.{ltb}
use borrow.Author.Tests.{lt-ltb, le-ltb, ltb-true, ltb-false}
use Rattle.bounded.specs.Bounded.{first_below, some_below}
use Rattle.bounded.proofs.Cases.{cases}
use Rattle.bounded.proofs.First.{first-here, first-end}

-- ---- as a search answers

pub below-some : (n k : ℕ) → k < n → some_below n k ≡ Some k
unfolding some_below
below-some n k h = rw (lt-ltb k n h)

pub below-none : (n k : ℕ) → n ≤ k → some_below n k ≡ None
unfolding some_below
below-none n k h = rw (le-ltb k n h)

pub some-found : {n k i : ℕ} → i ≡ k → i < n → Some i ≡ some_below n k
some-found {n} {k} e h = ap Some e ∙ sym (below-some n k (rw e at h))

pub none-found : {n k : ℕ} → n ≤ k → None ≡ some_below n k
none-found h = sym (below-none _ _ h)

pub none-at : {n k : ℕ} → k ≡ n → None ≡ some_below n k
none-at e = none-found (omega arith)

-- ---- as a loop over the numbers below n answers: at i, where nothing before has p, and at its end

pub first-some : (n i : ℕ) (p : ℕ → Bool) → first_below i p ≡ i → {b : Bool} → b ≡ p i → b ≡ true → i < n → Some i ≡ some_below n (first_below n p)
first-some n i p e a t h = some-found (sym (first-here n i p e a t h)) h

pub first-none : (n i : ℕ) (p : ℕ → Bool) → first_below i p ≡ i → i ≤ n → n ≤ i → None ≡ some_below n (first_below n p)
first-none n i p e h k = let f = (first-end n i p e h k) in none-found (omega (arith, f))

-- ---- as its answer is read

pub some-below : (n k : ℕ) {i : ℕ} → Some i ≡ some_below n k → (i ≡ k) × (k < n)
unfolding some_below
some-below n k {i} e = cases (ltb k n)
    (λ t. let f : Some i ≡ Some k = (rw t at e) in (cc, ltb-true k n t))
    (λ t. let f : Some i ≡ None = (rw t at e) in cc)

pub none-below : (n k : ℕ) → None ≡ some_below n k → n ≤ k
unfolding some_below
none-below n k e = cases (ltb k n)
    (λ t. let f : None ≡ Some k = (rw t at e) in cc)
    (λ t. ltb-false k n t)
