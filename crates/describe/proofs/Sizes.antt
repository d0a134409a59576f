-- The numbers of a relation, and how many cells it has.
-- Assumes nothing.
use mathlib.Core.Path.{◌≡◌, refl, sym, ◌∙◌}
use mathlib.Core.Bool.{true, false}
use mathlib.Core.List.{List}
use Prim.Native.Nat.{ℕ, zero, suc, ◌*◌, ◌≤◌, ◌<◌, zero-le}
use native.Mathlib.Nat.{mul-le-mul, le_of_suc-le-suc}
use native.Mathlib.Omega.{arith}
use lib.Dec.{leb}
use lib.ListN.{length, get_or, get_or-eq_default}
use borrow.Author.Tests.{le-leb, leb-true, leb-false}
use Rattle.bounded.specs.Bounded.{sum_below}
use Rattle.bounded.proofs.Cases.{cases, order, at-end}
use Rattle.bounded.proofs.Reflection.{of-true, is_false}
use Rattle.model.specs.declared.Description.{Description}
use Rattle.model.specs.Description.{between, is_relation, of_relation, column_count, row_count, foreign_of, refers_of, size_of, start_of, total_of, sound}
use Rattle.model.proofs.Sound.{relation-r, sound-says, relation-of}

-- what is 0 from n on adds nothing
sum-behind : (f : ℕ → ℕ) (n m : ℕ) → n ≤ m → ((k : ℕ) → n ≤ k → f k ≡ 0) → sum_below m f ≡ sum_below n f
unfolding sum_below
sum-behind f n zero h z = at-end (λ k. sum_below 0 f ≡ sum_below k f) zero-le h refl
sum-behind f n (suc m) h z =
    order n (suc m)
    (λ l. let k : n ≤ m = omega arith in omega (arith, sum-behind f n m k z, z m k))
    (λ e. rw e)
    (λ l. absurd (omega arith))

-- three numbers of 16 bits
pub small : {l n m : ℕ} → l < 65536 → n < 65536 → m < 65536 → l * n * m ≤ 65535 * 65535 * 65535
small x y z = mul-le-mul (mul-le-mul (le_of_suc-le-suc x) (le_of_suc-le-suc y)) (le_of_suc-le-suc z)

module _ (d : Description) where
  pub of-relation : (numbers : List ℕ) (q : ℕ) → 0 < q → q ≤ d.relations → get_or numbers q 0 ≡ of_relation d numbers q
  unfolding of_relation is_relation between
  of-relation numbers q h g = rw (le-leb 1 q h, le-leb q d.relations g)

  module _ (q : ℕ) (h : 0 < q) (g : q ≤ d.relations) where
    pub row_count_lem : get_or d.rows q 0 ≡ row_count d q
    unfolding row_count
    row_count_lem = of-relation d.rows q h g

    pub column-count : get_or d.columns q 0 ≡ column_count d q
    unfolding column_count
    column-count = of-relation d.columns q h g

    pub foreign-of : get_or d.foreign q 0 ≡ foreign_of d q
    unfolding foreign_of
    foreign-of = of-relation d.foreign q h g

    pub refers-of : get_or d.refers q 0 ≡ refers_of d q
    unfolding refers_of
    refers-of = of-relation d.refers q h g

  -- ---- how many cells a relation has

  pub size_is : (q : ℕ) → 0 < q → q ≤ d.relations → {l n m : ℕ} → l ≡ d.levels → n ≡ get_or d.rows q 0 → m ≡ get_or d.columns q 0 → l * n * m ≡ size_of d q
  unfolding size_of
  size_is q h g x y z = rw (x, y, z, row_count_lem q h g, column-count q h g)

  size_none : (q : ℕ) → column_count d q ≡ 0 → size_of d q ≡ 0
  unfolding size_of
  size_none q e = rw e (omega arith)

  -- a relation that doesn't exist
  absent : (q : ℕ) → is_relation d q ≡ false → size_of d q ≡ 0
  unfolding column_count of_relation
  absent q e = size_none q (rw e)

  pub size-absent : (q : ℕ) → ((0 < q) × (q ≤ d.relations) → ⊥) → 0 ≡ size_of d q
  size-absent q n = sym (absent q (is_false (relation-r d q) n))

  pub size-le : sound d ≡ true → (q : ℕ) → size_of d q ≤ 8192
  unfolding size_of
  size-le e q =
      let s = sound-says d e in
      cases (is_relation d q)
      (λ t. let R = relation-of d s q t in mul-le-mul (mul-le-mul s.few-levels R.few) R.narrow)
      (λ t. rw (absent q t) zero-le)

  -- ---- how many cells there are

  module _ (few : length d.columns ≡ 9) where
    behind : (q : ℕ) → 9 ≤ q → size_of d q ≡ 0
    behind q h =
        cases (is_relation d q)
        (λ t. let k = of-true (relation-r d q) t in size_none q (sym (column-count q k.0 k.1) ∙ get_or-eq_default d.columns 0 {n = q} (omega arith)))
        (absent q)

    -- nine places are all that there is to add up
    pub total-nine : (n : ℕ) → n ≡ sum_below 9 (size_of d) → n ≡ total_of d
    unfolding total_of start_of
    total-nine n e =
        cases (leb d.relations 8)
        (λ t. e ∙ sum-behind (size_of d) (suc d.relations) 9 (omega (arith, leb-true d.relations 8 t)) (λ k h. absent k (is_false (relation-r d k) (λ x. omega (arith, x.1)))))
        (λ t. e ∙ sym (sum-behind (size_of d) 9 (suc d.relations) (omega (arith, leb-false d.relations 8 t)) behind))
