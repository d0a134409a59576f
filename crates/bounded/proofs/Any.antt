-- The laws of `any_below`: it is that not all fail, so each follows from a law of `all_below`.
-- Assumes nothing.
use mathlib.Core.Path.{◌≡◌, refl, sym, ap, ◌∙◌}
use mathlib.Core.Bool.{Bool, true, false, not, ◌&&◌, ◌||◌}
use Prim.Native.Nat.{ℕ, zero, suc, ◌+◌, ◌≤◌, ◌<◌}
use lib.Dec.{ltb}
use borrow.Author.Tests.{lt-ltb, le-ltb, not-true, not-false}
use native.Mathlib.Nat.{le_refl}
use Rattle.bounded.specs.Bounded.{all_below, any_below, first_below}
use Rattle.bounded.proofs.Cases.{at-end}
use Rattle.bounded.proofs.All.{all_more, all-fails, all-at, all_of, all-cong}
use Rattle.bounded.proofs.First.{First, found, absent, first-cases}

some-fails : (a b : Bool) → (not a || b) ≡ not (a && not b)
some-fails true true = refl
some-fails true false = refl
some-fails false b = refl

pub any-not-all : (n : ℕ) (p : ℕ → Bool) → any_below n p ≡ not (all_below n (λ i. not (p i)))
unfolding any_below all_below
any-not-all zero p = refl
any-not-all (suc n) p = ap (λ (b : Bool). b || p n) (any-not-all n p) ∙ some-fails (all_below n (λ i. not (p i))) (p n)

-- ---- as a loop has it

none : (n : ℕ) (p : ℕ → Bool) → any_below n p ≡ false → all_below n (λ i. not (p i)) ≡ true
none n p e = not-false (all_below n (λ i. not (p i))) (sym (any-not-all n p) ∙ e)

pub any-start : (p : ℕ → Bool) → any_below 0 p ≡ false
unfolding any_below
any-start p = refl

pub any-more : (i : ℕ) (p : ℕ → Bool) → any_below i p ≡ false → {b : Bool} → b ≡ p i → b ≡ false → any_below (i + 1) p ≡ false
any-more i p e a f =
    any-not-all (i + 1) p ∙ ap not (all_more i (λ i. not (p i)) (none i p e) (ap not a) (ap not f))

pub any_here : (n i : ℕ) (p : ℕ → Bool) {b : Bool} → b ≡ p i → b ≡ true → i < n → any_below n p ≡ true
any_here n i p a t h = any-not-all n p ∙ ap not (all-fails n i (λ i. not (p i)) (ap not a) (ap not t) h)

pub any-end : (n i : ℕ) (p : ℕ → Bool) → any_below i p ≡ false → i ≤ n → n ≤ i → any_below n p ≡ false
any-end n i p e h k = at-end (λ m. any_below m p ≡ false) h k e

-- ---- as a theorem has it

pub any_none : (n : ℕ) (p : ℕ → Bool) → any_below n p ≡ false → (i : ℕ) → i < n → p i ≡ false
any_none n p e i h = not-true (p i) (all-at n (λ i. not (p i)) (none n p e) i h)

pub any-of-none : (n : ℕ) (p : ℕ → Bool) → ((i : ℕ) → i < n → p i ≡ false) → any_below n p ≡ false
any-of-none n p h = any-not-all n p ∙ ap not (all_of n (λ i. not (p i)) (λ i l. ap not (h i l)))

pub any-cong : (n : ℕ) (p q : ℕ → Bool) → ((k : ℕ) → k < n → p k ≡ q k) → any_below n p ≡ any_below n q
any-cong n p q h =
    any-not-all n p ∙ ap not (all-cong n (λ i. not (p i)) (λ i. not (q i)) (λ k l. ap not (h k l))) ∙ sym (any-not-all n q)

-- one at which it holds, or that there is none
pub data Any (n : ℕ) (p : ℕ → Bool) (b : Bool) : Type 0 where
  some-does : b ≡ true → (i : ℕ) → i < n → p i ≡ true → Any n p b
  none-does : b ≡ false → ((i : ℕ) → i < n → p i ≡ false) → Any n p b

pub any-cases : (n : ℕ) (p : ℕ → Bool) → Any n p (any_below n p)
any-cases n p = go (first_below n p) (first-cases n p)
  where
    go : (i : ℕ) → First n p i → Any n p (any_below n p)
    go i (found h t _) = some-does (any_here n i p refl t h) i h t
    go i (absent _ f) = none-does (any-of-none n p f) f

-- it is that the first is below the bound
pub any-first : (n : ℕ) (p : ℕ → Bool) → any_below n p ≡ ltb (first_below n p) n
any-first n p = go (first-cases n p)
  where
    go : First n p (first_below n p) → any_below n p ≡ ltb (first_below n p) n
    go (found h t _) = any_here n (first_below n p) p refl t h ∙ sym (lt-ltb (first_below n p) n h)
    go (absent e f) = any-of-none n p f ∙ sym (le-ltb (first_below n p) n (rw e (le_refl n)))
