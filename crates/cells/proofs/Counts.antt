-- The numbers of a relation of a sound description, the relation that it refers to, and that sums of the numbers stay small.
-- Assumes nothing.
use Prim.Native.Nat.{ℕ, suc, ◌+◌, ◌*◌, ◌≤◌, ◌<◌}
use mathlib.Core.Bool.{true}
use mathlib.Core.Path.{◌≡◌, refl}
use mathlib.Core.Logic.{◌≢◌}
use native.Mathlib.Nat.{mul-le-mul, le_trans}
use native.Mathlib.Omega.{arith}
use lib.ListN.{get_or}
use Rattle.bounded.specs.Bounded.{sum_below}
use Rattle.bounded.proofs.Sum.{sum-next, sum_mono}
use Rattle.bounded.proofs.Reflection.{is_true, of-true}
use Rattle.model.specs.declared.Description.{Description}
use Rattle.model.specs.Description.{between, sound, is_relation, of_relation, row_count, column_count, foreign_of, refers_of, size_of, start_of, total_of}
use Rattle.model.proofs.Sound.{relation-r, Relation, Reference, relation-of}
pub use Rattle.model.proofs.Sound.{sound-says}
use Rattle.cells.specs.Layout.{InLevel}

pub foreign-is : (d : Description) (r : ℕ) → is_relation d r ≡ true → get_or d.foreign r 0 ≡ foreign_of d r
unfolding foreign_of of_relation
foreign-is d r h = rw h

pub refers-is : (d : Description) (r : ℕ) → is_relation d r ≡ true → get_or d.refers r 0 ≡ refers_of d r
unfolding refers_of of_relation
refers-is d r h = rw h

module _ (d : Description) (s : sound d ≡ true) (r : ℕ) (h : is_relation d r ≡ true) where
  pub relation-is : Relation d r
  relation-is = relation-of d (sound-says d s) r h

  pub relation-few : r ≤ 8
  relation-few = omega (arith, (of-true (relation-r d r) h).1, (sound-says d s).few-relations)

  pub row_count_lem : get_or d.rows r 0 ≡ row_count d r
  unfolding row_count of_relation
  row_count_lem = rw h

  pub column-count : get_or d.columns r 0 ≡ column_count d r
  unfolding column_count of_relation
  column-count = rw h

  pub rows_few : row_count d r ≤ 64
  rows_few = relation-is.few

  pub columns-few : column_count d r ≤ 8
  columns-few = relation-is.narrow

  pub rows-small : d.levels * row_count d r ≤ 1024
  rows-small = mul-le-mul (sound-says d s).few-levels rows_few

  pub size_small : d.levels * row_count d r * column_count d r ≤ 8192
  size_small = mul-le-mul rows-small columns-few

  pub in-level : (l : ℕ) → l < d.levels → InLevel d r l
  in-level l g = record { relation = omega (arith, (of-true (relation-r d r) h).1); level = g; keyed = relation-is.keyed }

  -- the relation that it refers to
  pub refers-relation : foreign_of d r ≢ 0 → is_relation d (refers_of d r) ≡ true
  refers-relation n =
      let f : Reference d r = relation-is.referring n in
      is_true (relation-r d (refers_of d r)) (f.some, omega (arith, f.lower, (of-true (relation-r d r) h).1))

  pub target-relation : foreign_of d r ≢ 0 → is_relation d (get_or d.refers r 0) ≡ true
  target-relation n = rw (refers-is d r h) (refers-relation n)

  -- what is before a relation, and the relation, are part of the whole
  pub start_small : start_of d r + size_of d r ≤ 8192
  unfolding start_of total_of
  start_small =
      let m : sum_below r (size_of d) + size_of d r ≤ total_of d = sum_mono (size_of d) r (suc d.relations) (omega (arith, (of-true (relation-r d r) h).1)) in
      le_trans m (sound-says d s).total

-- before relation 1 stands nothing
no-columns : (d : Description) → column_count d 0 ≡ 0
unfolding column_count of_relation is_relation between
no-columns d = refl

pub start_first : (d : Description) → 0 ≡ start_of d 1
unfolding start_of sum_below size_of
start_first d = rw no-columns (omega arith)

pub start-next : (d : Description) (r : ℕ) → start_of d (r + 1) ≡ start_of d r + size_of d r
unfolding start_of
start-next d r = sum-next r (size_of d)

-- a number from 1 up to a relation's is a relation
pub relation-before : (d : Description) (r q : ℕ) → is_relation d r ≡ true → 0 < q → q < r → is_relation d q ≡ true
relation-before d r q h z l = is_true (relation-r d q) (z, omega (arith, (of-true (relation-r d r) h).1))
