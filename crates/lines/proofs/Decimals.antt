-- The laws of a number's decimal digits: how they go on from those of a tenth, and how many they are.
-- Assumes nothing.
use mathlib.Core.Path.{◌≡◌}
use mathlib.Core.List.{[], ◌∷◌, ◌++◌}
use Prim.Native.Nat.{ℕ, zero, suc, ◌/◌, ◌%◌, ◌≤◌, ◌<◌, ◌^◌}
use native.Mathlib.Nat.{not-suc-le-zero, pow-suc}
use native.Mathlib.Omega.{arith}
use borrow.Author.Tests.{lt-ltb, le-ltb, ltb-true, ltb-false}
use lib.Dec.{ltb}
use lib.ListN.{length, length-append}
use Rattle.bounded.proofs.Cases.{cases}
use Rattle.lines.specs.Text.{digit, digits_in, decimal}

-- any number of turns that is enough gives the same digits
enough : (t u n : ℕ) → n < t → n < u → digits_in t n ≡ digits_in u n
unfolding digits_in
enough zero u n h k = absurd (not-suc-le-zero h)
enough (suc t) zero n h k = absurd (not-suc-le-zero k)
enough (suc t) (suc u) n h k =
    cases (ltb n 10)
    (λ p. rw p)
    (λ p.
    let m : 10 ≤ n = ltb-false n 10 p in
    rw (p, enough t u (n / 10) (omega arith) (omega arith)))

pub decimal-one : (n : ℕ) → n < 10 → decimal n ≡ digit n ∷ []
unfolding decimal digits_in
decimal-one n h = simp (lt-ltb n 10 h)

pub decimal-more : (n : ℕ) → 10 ≤ n → decimal n ≡ decimal (n / 10) ++ (digit (n % 10) ∷ [])
unfolding decimal digits_in
decimal-more n h =
    simp (le-ltb n 10 h, enough n (suc (n / 10)) (n / 10) (omega arith) (omega arith))

-- as many turns as there are digits are enough
pub turns : (k n : ℕ) → n < 10 ^ suc k → decimal n ≡ digits_in (suc k) n
unfolding digits_in
turns zero n h = let l : n < 10 = omega arith in rw (lt-ltb n 10 l) (decimal-one n l)
turns (suc k) n h =
    cases (ltb n 10)
    (λ p. rw p (decimal-one n (ltb-true n 10 p)))
    (λ p.
    let q : n / 10 < 10 ^ suc k = omega (arith, pow-suc 10 (suc k)) in
    let i : decimal (n / 10) ≡ digits_in (suc k) (n / 10) = turns k (n / 10) q in
    rw p (rw i at (decimal-more n (ltb-false n 10 p))))

few : (t n : ℕ) → length (digits_in t n) ≤ t
unfolding digits_in
few zero n = omega arith
few (suc t) n =
    cases (ltb n 10)
    (λ p. rw p (omega arith))
    (λ p.
    let h = few t (n / 10) in
    rw p (omega (arith, length-append (digits_in t (n / 10)) (digit (n % 10) ∷ []))))

-- a number of 64 bits has at most 20 digits
pub decimal-short : (n : ℕ) → n < 2 ^ 64 → length (decimal n) ≤ 20
decimal-short n h = rw (turns 19 n (omega arith)) (few 20 n)
