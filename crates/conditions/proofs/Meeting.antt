-- The laws of conditions: when they are well formed, and what meets one.
-- Assumes nothing.
use Rattle.std.specs.Prelude.{if◌then◌else◌, Option, Some, None, IsSome}
use mathlib.Core.Path.{◌≡◌, refl, sym, ap, ◌∙◌}
use mathlib.Core.Bool.{Bool, true, false, ◌&&◌, and_assoc, and-false}
use mathlib.Core.List.{List, []}
use Prim.Native.Nat.{ℕ, ◌+◌, ◌*◌, ◌/◌, ◌%◌, ◌≤◌, ◌<◌}
use native.Mathlib.Omega.{arith}
use lib.Dec.{eqb, ltb, leb}
use lib.ListN.{length, get_or, replicate, get_or-replicate, get_or-eq_default}
use borrow.Author.Rules.{rules}
use Rattle.std.proofs.lemmas.List.{get_or_default}
use borrow.Author.Tests.{ltb-true, ltb-false, le-leb, lt-leb, eq-eqb, ne_eqb}
use Rattle.std.specs.List.{list_all}
use Rattle.std.specs.Simd.{first_chunks}
use Rattle.bounded.specs.Bounded.{all_below}
use Rattle.bounded.proofs.Cases.{cases, clash, and-false-right}
use Rattle.bounded.proofs.Reflection.{of-true, bool-r, and_r, all-r, leb-r}
use Rattle.level.proofs.Levels.{order-laws}
use Rattle.model.specs.declared.Description.{Description}
use Rattle.model.specs.Description.{between, is_column, column_count, over}
use Rattle.model.specs.Listed.{whole}
use Rattle.model.specs.Conditions.{Condition, condition_at, condition_count, constant_formed, condition_formed, conditions_formed, passes, meets_test, meets}
use Rattle.model.specs.Buffers.{holding, state_of}
use Rattle.model.proofs.Sound.{column-r}
use Rattle.cells.specs.Changed.{value_at, class_at}
use Rattle.cells.proofs.Cells.{state-cell}
use Rattle.asked.specs.Known.{Ordered}
use Rattle.conditions.specs.declared.condition.Asked.{Asked}
use Rattle.conditions.specs.declared.condition.Test.{Test}
use Rattle.conditions.specs.declared.condition.Test.TheVariants as Tests
use Rattle.conditions.specs.Facts.{Read, asks, condition_of, number_of, passes_by, Line, Tested}
use Rattle.asked.proofs.Levelled.{over-entry}
use Rattle.asked.proofs.Lists.{entry-at, all-entries}

-- ---- whether one is well formed

module _ (d : Description) (r k : ℕ) where
  pub column-there : {columns : ℕ} → columns ≡ column_count d r → 1 ≤ k → {b : Bool} → b ≡ leb k columns → b ≡ is_column d r k
  unfolding is_column between
  column-there e h x = x ∙ rw (← e, le-leb 1 k h)

  pub column-zero : k < 1 → {b : Bool} → b ≡ leb 1 k → b ≡ is_column d r k
  unfolding is_column between
  column-zero h x = x ∙ rw (lt-leb 1 k h)

module _ (d : Description) (r : ℕ) (a : Asked) where
  mark-few : (b : Bool) → leb (if b then 1 else 0) 1 ≡ true
  mark-few true = refl
  mark-few false = refl

  test-known : (t : Test) → between 1 5 (number_of t) ≡ true
  unfolding number_of between
  test-known Tests.Equal = refl
  test-known Tests.NotEqual = refl
  test-known Tests.Less = refl
  test-known Tests.AtMost = refl
  test-known Tests.Null = refl

  -- what was read is well formed where its column exists and its constant fits
  formed-as : condition_formed d r (asks a) ≡ (is_column d r a.column && constant_formed d (asks a))
  unfolding condition_formed
  formed-as = rw (mark-few a.of_class, test-known a.test)

  module _ {b : Bool} (x : b ≡ is_column d r a.column) where
    pub formed-some : b ≡ true → {f : Bool} → f ≡ constant_formed d (asks a) → f ≡ condition_formed d r (asks a)
    formed-some t e = e ∙ sym (formed-as ∙ rw (← x, t))

    pub formed-none : b ≡ false → b ≡ condition_formed d r (asks a)
    formed-none f = f ∙ sym (formed-as ∙ rw (← x, f))

-- what is read as nothing is not well formed
pub unread : (d : Description) (r : ℕ) (q : Condition) → (leb q.mark 1 && between 1 5 q.test) ≡ false → false ≡ condition_formed d r q
unfolding condition_formed
unread d r q e = sym (rw (← and_assoc (leb q.mark 1) (between 1 5 q.test) (constant_formed d q), e) (and-false (is_column d r q.column)))

-- ---- what passes a test

pub meets-by : (most : ℕ → ℕ → Bool) (null : ℕ) (q : Condition) (x : ℕ) → meets_test most null q x ≡ passes_by q.test (eqb x null) (eqb x q.constant) (most x q.constant)
unfolding meets_test passes passes_by
meets-by most null q x = refl

-- ---- whether all are

-- an entry of the list is the condition that stands there
pub entry-asks : (q : List ℕ) (i : ℕ) → i < length q / 4 → condition_of (get_or (first_chunks 4 (length q / 4) q) i []) ≡ condition_at q i
unfolding condition_at
entry-asks q i h =
    let at : (k m : ℕ) → k < 4 → m ≡ 4 * i + k → get_or (get_or (first_chunks 4 (length q / 4) q) i []) k 0 ≡ get_or q m 0 = λ k m l e. entry-at 4 (length q / 4) q i k h l e in
    λ j. record {
      column = at 0 (4 * i) (omega arith) (omega arith) j;
      mark = at 1 (4 * i + 1) (omega arith) (omega arith) j;
      test = at 2 (4 * i + 2) (omega arith) (omega arith) j;
      constant = at 3 (4 * i + 3) (omega arith) (omega arith) j;
    }

module _ (d : Description) (r : ℕ) (q : List ℕ) where
  abbrev pub formed_at : ℕ → Bool
  formed_at i = condition_formed d r (condition_at q i)

  pub cut-fails : (length q % 4 ≡ 0 → ⊥) → conditions_formed d r q ≡ false
  unfolding conditions_formed whole
  cut-fails n = rw (ne_eqb (length q % 4) 0 n)

  pub many-fails : 4 < length q / 4 → conditions_formed d r q ≡ false
  unfolding conditions_formed condition_count
  many-fails l = and-false-right (whole 4 q) _ (rw (lt-leb (length q / 4) 4 l))

  pub all-formed : length q % 4 ≡ 0 → length q / 4 ≤ 4 → all_below (length q / 4) formed_at ≡ conditions_formed d r q
  unfolding conditions_formed condition_count whole
  all-formed e l = rw (eq-eqb (length q % 4) 0 e, le-leb (length q / 4) 4 l)

  pub each-formed : list_all (λ x. condition_formed d r (condition_of x)) (first_chunks 4 (length q / 4) q) ≡ all_below (length q / 4) formed_at
  each-formed = all-entries 4 (length q / 4) q _ _ (λ i h. ap (condition_formed d r) (entry-asks q i h))

  pub one-formed : (i : ℕ) → conditions_formed d r q ≡ true → i < condition_count q → formed_at i ≡ true
  unfolding conditions_formed
  one-formed i t h = (of-true (and_r (bool-r (whole 4 q)) (and_r (leb-r (condition_count q) 4) (all-r (condition_count q) (λ k. bool-r (formed_at k))))) t).1.1 i h

-- what was read of an entry is the condition that stands there
pub asks-at : (q : List ℕ) (i : ℕ) {entries : List (List ℕ)} → entries ≡ first_chunks 4 (length q / 4) q → i < length q / 4 → {o : Option Asked} → Read (condition_of (get_or entries i [])) o
    → {a : Asked} → o ≡ Some a → asks a ≡ condition_at q i
asks-at q i e h m s = (rw s at m) ∙ rw e (entry-asks q i h)

-- one of the conditions is read as something, and its column exists
module _ (d : Description) (r : ℕ) (conditions : List ℕ) (i : ℕ) (t : conditions_formed d r conditions ≡ true) (h : i < condition_count conditions) where
  pub read-at : (q : Condition) → q ≡ condition_at conditions i → (a : Option Asked) → Read q a → IsSome a
  read-at q e None m = clash (one-formed d r conditions i t h) (rw (← e) (sym (unread d r q m)))
  read-at q e (Some a) m = search rules

  pub tested_at : (q : Condition) → q ≡ condition_at conditions i → {line : List Bool} → Line d q.constant line → Tested d r q line
  unfolding condition_formed
  tested_at q e L =
      let k = (of-true (and_r (column-r d r (condition_at conditions i).column) (bool-r _)) (one-formed d r conditions i t h)).0 in
      record { least = rw e k.0; most = rw e k.1; tells = L }

-- ---- the levels that a constant dominates

module _ (d : Description) (order : List (List Bool)) (o : Ordered d order) where
  outside : (a b : ℕ) → (a < 16 → b < 16 → ⊥) → over d a b ≡ false
  outside a b n = sym (over-entry d order o a b) ∙ rw o.order_is ((order-laws d.labels d.levels).outside a b n)

  -- a row of the order, or none where it is no level
  pub line-at : length order ≡ 16 → (a : ℕ) → Line d a (get_or order a (replicate 16 false))
  line-at wide a = cases (ltb a 16) (λ t. some (ltb-true a 16 t)) (λ t. none (ltb-false a 16 t))
    where
      past : (line : List Bool) (b : ℕ) → length line ≡ 16 → 16 ≤ b → get_or line b false ≡ over d a b
      past line b e k = get_or-eq_default line false {n = b} (omega arith) ∙ sym (outside a b (λ p q. omega arith))

      some : a < 16 → Line d a (get_or order a (replicate 16 false))
      some h =
          let e : length (get_or order a []) ≡ 16 = rw o.order_is ((order-laws d.labels d.levels).long a h) in
          rw (get_or_default order a (replicate 16 false) [] (omega (arith, wide)))
          (record { long = e; right = λ b. cases (ltb b 16) (λ t. sym ((order-laws d.labels d.levels).read order a b h (ltb-true b 16 t)) ∙ over-entry d order o a b) (λ t. past _ b e (ltb-false b 16 t)) })

      none : 16 ≤ a → Line d a (get_or order a (replicate 16 false))
      none h =
          rw (get_or-eq_default order (replicate 16 false) {n = a} (omega (arith, wide)))
          (record { long = refl; right = λ b. cases (ltb b 16) (λ t. get_or-replicate 16 b false false (ltb-true b 16 t) ∙ sym (outside a b (λ p q. omega arith))) (λ t. past (replicate 16 false) b refl (ltb-false b 16 t)) })

-- ---- a row and one condition

module _ (d : Description) (vs cs : List ℕ) (r l i : ℕ) (a : Asked) (x : ℕ) where
  pub value-meets : a.of_class ≡ false → x ≡ value_at d vs r l i a.column → {b : Bool} → b ≡ passes_by (number_of a.test) (eqb x 0) (eqb x a.constant) (leb x a.constant)
      → b ≡ meets d (asks a) ((state_of d (holding vs cs) l).rows r i)
  unfolding meets
  value-meets m e h = rw (m, state-cell d vs cs r l i a.column, ← e) (h ∙ sym (meets-by leb 0 _ x))

  pub class-meets : a.of_class ≡ true → x ≡ class_at d cs r l i a.column → {below : Bool} → below ≡ over d a.constant x
      → {b : Bool} → b ≡ passes_by (number_of a.test) (eqb x 255) (eqb x a.constant) below → b ≡ meets d (asks a) ((state_of d (holding vs cs) l).rows r i)
  unfolding meets
  class-meets m e k h = rw (m, state-cell d vs cs r l i a.column, ← e) (h ∙ rw k (sym (meets-by (λ a b. over d b a) 255 _ x)))
