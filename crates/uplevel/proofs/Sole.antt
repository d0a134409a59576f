-- The only number below a bound that a test holds at, as a loop looks for it.
-- Assumes nothing.
use Rattle.std.specs.Prelude.{Option, Some, None, is_some, if◌then◌else◌}
use Prim.Native.Nat.{ℕ, zero, suc, ◌+◌, ◌≤◌, ◌<◌}
use mathlib.Core.Path.{◌≡◌, refl, sym, ◌∙◌}
use mathlib.Core.Bool.{Bool, true, false}
use native.Mathlib.Nat.{le_refl}
use native.Mathlib.Numerals.{add-one}
use native.Mathlib.Omega.{arith}
use lib.Dec.{ltb}
use borrow.Author.Tests.{lt-ltb, ltb-true, ltb-false}
use Rattle.bounded.specs.Bounded.{first_below, count_below, some_below}
use Rattle.bounded.proofs.Cases.{cases, clash, at-end}
use Rattle.bounded.proofs.Count.{count-start, count-more, count_same}
use Rattle.bounded.proofs.First.{First, found, absent, first-cases, first-le, first_more, first-here}
use Rattle.bounded.proofs.Found.{below-some, below-none, some-found, none-below}

-- what was found below n: the first, and how many there are
pub record Sole (n : ℕ) (p : ℕ → Bool) (o : Option ℕ) : Type 0 where
  pub first : o ≡ some_below n (first_below n p)
  pub many : (if is_some o then 1 else 0) ≡ count_below n p

pub sole-start : (p : ℕ → Bool) → Sole 0 p None
unfolding first_below some_below
sole-start p = record { first = refl; many = count-start p }

-- the first below n stays the first
first-kept : (n : ℕ) (p : ℕ → Bool) → first_below n p < n → first_below (n + 1) p ≡ first_below n p
unfolding first_below
first-kept n p h = rw (add-one, first_below, lt-ltb _ _ h)

same-first : (n : ℕ) (p : ℕ → Bool) → p n ≡ false → some_below n (first_below n p) ≡ some_below (n + 1) (first_below (n + 1) p)
same-first n p f =
    cases (ltb (first_below n p) n)
    (λ t. let h = ltb-true _ _ t in rw (below-some n _ h, first-kept n p h) (sym (below-some (n + 1) _ (omega (arith, h)))))
    (λ t. let h = ltb-false _ _ t in
    let g = first-le n p in
    let e : first_below (n + 1) p ≡ n + 1 = first_more n p (omega (arith, g, h)) refl f in
    rw (below-none n _ h, e) (sym (below-none (n + 1) (n + 1) (omega arith))))

nothing : (o : Option ℕ) → is_some o ≡ false → o ≡ None
nothing None z = refl
nothing (Some x) z = cc

count-mono : (n m : ℕ) (p : ℕ → Bool) → n ≤ m → count_below n p ≤ count_below m p
unfolding count_below
count-mono n zero p h = let e : n ≡ 0 = omega arith in rw e (le_refl 0)
count-mono n (suc m) p h =
    cases (ltb n (suc m))
    (λ t. let l = ltb-true _ _ t in
    let g = count-mono n m p (omega (arith, l)) in omega (arith, g))
    (λ t. let l = ltb-false _ _ t in
    let e : n ≡ suc m = omega (arith, l) in rw e (le_refl _))

module _ {n : ℕ} {p : ℕ → Bool} {o : Option ℕ} (S : Sole n p o) {b : Bool} (a : b ≡ p n) where
  pub sole-same : b ≡ false → Sole (n + 1) p o
  sole-same f = record { first = S.first ∙ same-first n p (sym a ∙ f); many = count_same n p S.many a f }

  module _ (t : b ≡ true) where
    pub sole-more : is_some o ≡ false → Sole (n + 1) p (Some n)
    sole-more z =
        let g = first-le n p in
        let h = none-below _ _ (sym (nothing o z) ∙ S.first) in
        let m = count-more n p S.many a t in
        record { first = some-found (sym (first-here (n + 1) n p (omega (arith, g, h)) a t (omega arith))) (omega arith); many = rw z at m }

    -- where there was one already, there are several
    pub sole-several : is_some o ≡ true → {m : ℕ} → n < m → (first_below m p < m) × (2 ≤ count_below m p)
    sole-several z {m} h =
        let k = count-more n p S.many a t in
        let q : 2 ≡ count_below (n + 1) p = rw z at k in
        let r = count-mono (n + 1) m p (omega arith) in (go (first-cases m p), omega (arith, q, r))
      where
        go : First m p (first_below m p) → first_below m p < m
        go (found l _ _) = l
        go (absent e f) = clash (sym a ∙ t) (f n h)

pub sole-end : {n m : ℕ} {p : ℕ → Bool} {o : Option ℕ} → n ≤ m → m ≤ n → Sole n p o → Sole m p o
sole-end {p = p} {o = o} h g S = at-end (λ k. Sole k p o) h g S
