-- What the tests of a description say: of relations and columns, and when it is sound. What a sound description gives is said here alone: a test
-- more of `sound` is a field of `Sound` and a clause of `sound-r`, which names it once more where it makes the record.
-- Assumes nothing.
use Prim.Native.Nat.{ℕ, zero, suc, ◌<◌, ◌≤◌, zero-le}
use mathlib.Core.Bool.{Bool, true, ◌&&◌}
use mathlib.Core.List.{List}
use mathlib.Core.Logic.{◌≢◌, ⊎_elim}
use mathlib.Core.Path.{◌≡◌, sym}
use native.Mathlib.Nat.{lt_irrefl}
use native.Mathlib.Omega.{arith}
use lib.Dec.{ltb}
use Rattle.bounded.specs.Tests.{Reflects}
use Rattle.bounded.proofs.Cases.{cases, order, and_left, and_right}
use Rattle.bounded.proofs.Reflection.{is_true, of-true, decide, bool-r, not-r, and_r, if-r, all-r, eqb-r, ltb-r, leb-r, reflects-as}
use Rattle.level.specs.Laws.{Distinct, LevelLaws}
use Rattle.level.proofs.Levels.{level-laws}
use Rattle.model.specs.declared.Description.{Description}
use Rattle.model.specs.Description.{between, distinct_below, over, label_of, is_relation, of_relation, column_count, row_count, foreign_of, refers_of, is_column, low_of, high_of, total_of, labels_sound, foreign_sound, relation_sound, sound}

pub between-r : (low high n : ℕ) → Reflects ((low ≤ n) × (n ≤ high)) (between low high n)
unfolding between
between-r low high n = and_r (leb-r low n) (leb-r n high)

pub relation-r : (d : Description) (r : ℕ) → Reflects ((0 < r) × (r ≤ d.relations)) (is_relation d r)
unfolding is_relation
relation-r d r = between-r 1 d.relations r

pub column-r : (d : Description) (r k : ℕ) → Reflects ((0 < k) × (k ≤ column_count d r)) (is_column d r k)
unfolding is_column
column-r d r k = between-r 1 (column_count d r) k

-- what has a number by relation is a relation
pub some_of : (d : Description) (numbers : List ℕ) (r : ℕ) → of_relation d numbers r ≢ 0 → is_relation d r ≡ true
unfolding of_relation
some_of d numbers r n = cases (is_relation d r) (λ e. e) (λ e. absurd (n (rw e)))

-- ---- what a sound description gives, test by test

pub record Reference (d : Description) (r : ℕ) : Type 0 where
  pub after-key : 2 ≤ foreign_of d r
  pub column : foreign_of d r ≤ column_count d r
  pub some : 0 < refers_of d r
  pub lower : refers_of d r < r

pub record Relation (d : Description) (r : ℕ) : Type 0 where
  pub keyed : 1 ≤ column_count d r
  pub narrow : column_count d r ≤ 8
  pub some : 1 ≤ row_count d r
  pub few : row_count d r ≤ 64
  pub ranges : (k : ℕ) → k < column_count d r → over d (high_of d r (suc k)) (low_of d r (suc k)) ≡ true
  pub unreferring : foreign_of d r ≡ 0 → refers_of d r ≡ 0
  pub referring : foreign_of d r ≢ 0 → Reference d r

pub record Sound (d : Description) : Type 0 where
  pub some-levels : 1 ≤ d.levels
  pub few-levels : d.levels ≤ 16
  pub labels : (l : ℕ) → l < d.levels → label_of d l ≤ 4095
  pub distinct : (a : ℕ) → a < d.levels → (b : ℕ) → b < a → label_of d a ≢ label_of d b
  pub some-relations : 1 ≤ d.relations
  pub few-relations : d.relations ≤ 8
  pub relations : (r : ℕ) → r < d.relations → Relation d (suc r)
  pub total : total_of d ≤ 8192

-- ---- the tests say it

-- A record S against a conjunction of tests, a clause for each test: what the test says, and where the record has it. K is the type of what
-- makes the record of all that the tests say.
record Clauses (S K : Type 0) (test : Bool) : Type 0 where
  make : test ≡ true → K → S
  passes : S → test ≡ true

clause : {S P K : Type 0} {a b : Bool} → Reflects P a → (S → P) → Clauses S K b → Clauses S (P → K) (a && b)
clause {a = a} {b = b} r f rest =
    record {
      make = λ e k. rest.make (and_right a b e) (k (of-true r (and_left a b e)));
      passes = λ s. rw (is_true r (f s)) (rest.passes s);
    }

last-clause : {S P : Type 0} {b : Bool} → Reflects P b → (S → P) → Clauses S (P → S) b
last-clause r f = record { make = λ e k. k (of-true r e); passes = λ s. is_true r (f s) }

by-clauses : {S K : Type 0} {b : Bool} → Clauses S K b → K → Reflects S b
by-clauses {b = b} all k = reflects-as (λ e. all.make e k) all.passes (bool-r b)

reference-r : (d : Description) (r : ℕ)
    → Reflects (Reference d r) (between 2 (column_count d r) (foreign_of d r) && (ltb 0 (refers_of d r) && ltb (refers_of d r) r))
reference-r d r =
    by-clauses
    (clause (between-r 2 (column_count d r) (foreign_of d r)) (λ s. (s.after-key, s.column))
    (clause (ltb-r 0 (refers_of d r)) (λ s. s.some)
    (last-clause (ltb-r (refers_of d r) r) (λ s. s.lower))))
    (λ column some lower. record { after-key = column.0; column = column.1; some = some; lower = lower })

relation-sound-r : (d : Description) (r : ℕ) → Reflects (Relation d r) (relation_sound d r)
unfolding relation_sound foreign_sound
relation-sound-r d r =
    by-clauses
    (clause (between-r 1 8 (column_count d r)) (λ s. (s.keyed, s.narrow))
    (clause (between-r 1 64 (row_count d r)) (λ s. (s.some, s.few))
    (clause (all-r (column_count d r) (λ k. bool-r (over d (high_of d r (suc k)) (low_of d r (suc k))))) (λ s. s.ranges)
    (last-clause (if-r (eqb-r (foreign_of d r) 0) (eqb-r (refers_of d r) 0) (reference-r d r)) (λ s. (s.unreferring, s.referring))))))
    (λ columns rows ranges foreign. record {
      keyed = columns.0;
      narrow = columns.1;
      some = rows.0;
      few = rows.1;
      ranges = ranges;
      unreferring = foreign.0;
      referring = foreign.1;
    })

distinct-r : (d : Description) → Reflects ((a : ℕ) → a < d.levels → (b : ℕ) → b < a → label_of d a ≢ label_of d b) (distinct_below d.levels (label_of d))
unfolding distinct_below
distinct-r d = all-r d.levels (λ a. all-r a (λ b. not-r (eqb-r (label_of d a) (label_of d b))))

pub sound-r : (d : Description) → Reflects (Sound d) (sound d)
unfolding sound labels_sound
sound-r d =
    by-clauses
    (clause (between-r 1 16 d.levels) (λ s. (s.some-levels, s.few-levels))
    (clause (and_r (all-r d.levels (λ l. leb-r (label_of d l) 4095)) (distinct-r d)) (λ s. (s.labels, s.distinct))
    (clause (between-r 1 8 d.relations) (λ s. (s.some-relations, s.few-relations))
    (clause (all-r d.relations (λ r. relation-sound-r d (suc r))) (λ s. s.relations)
    (last-clause (leb-r (total_of d) 8192) (λ s. s.total))))))
    (λ levels labels count relations total. record {
      some-levels = levels.0;
      few-levels = levels.1;
      labels = labels.0;
      distinct = labels.1;
      some-relations = count.0;
      few-relations = count.1;
      relations = relations;
      total = total;
    })

pub sound-says : (d : Description) → sound d ≡ true → Sound d
sound-says d = of-true (sound-r d)

-- ---- what follows

-- of a relation by its number
pub relation-of : (d : Description) → Sound d → (r : ℕ) → is_relation d r ≡ true → Relation d r
relation-of d s zero h = absurd (lt_irrefl 0 (of-true (relation-r d 0) h).0)
relation-of d s (suc r) h = s.relations r (of-true (relation-r d (suc r)) h).1

-- only a relation refers
pub reference-of : (d : Description) → Sound d → (r : ℕ) → foreign_of d r ≢ 0 → Reference d r
unfolding foreign_of
reference-of d s r n = (relation-of d s r (some_of d d.foreign r n)).referring n

module _ (d : Description) (r : ℕ) (R : Relation d (suc r)) where
  -- whether or not it refers
  pub foreign-column : foreign_of d (suc r) ≤ column_count d (suc r)
  foreign-column = ⊎_elim (λ z. rw z zero-le) (λ n. (R.referring n).column) (decide (eqb-r (foreign_of d (suc r)) 0))

  pub refers-lower : refers_of d (suc r) ≤ r
  refers-lower = ⊎_elim (λ z. rw (R.unreferring z) zero-le) (λ n. omega (arith, (R.referring n).lower)) (decide (eqb-r (foreign_of d (suc r)) 0))

-- the order of the levels is one
pub levels-of : (d : Description) → Sound d → LevelLaws d.labels d.levels
unfolding label_of
levels-of d s = level-laws d.labels d.levels distinct
  where
    distinct : Distinct d.labels d.levels
    distinct = record {
      one = λ a b h g e. order a b (λ l. absurd (s.distinct b g a l (sym e))) (λ q. q) (λ l. absurd (s.distinct a h b l e));
    }

-- only levels dominate and are dominated
pub over-levels : (d : Description) → Sound d → (a b : ℕ) → over d a b ≡ true → (a < d.levels) × (b < d.levels)
unfolding over
over-levels d s = (levels-of d s).within
