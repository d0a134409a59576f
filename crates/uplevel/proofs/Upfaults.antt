-- UPLEVEL's tests: each is what the code asks, and the first that fails is answered.
-- Assumes nothing.
use Rattle.std.specs.Prelude.{Ok, Err, Option, Some, None, is_some, ok_or}
use Prim.Native.Nat.{ℕ, ◌≤◌, ◌<◌}
use mathlib.Core.Path.{◌≡◌, refl, sym, ap, ◌∙◌}
use mathlib.Core.Bool.{Bool, true, false, not, ◌&&◌, ◌||◌}
use mathlib.Core.List.{List, ◌∷◌}
use mathlib.Core.Logic.{◌≢◌}
use mathlib.Core.Option.{none, some}
use native.Mathlib.Omega.{arith}
use lib.Dec.{eqb, ltb, leb}
use borrow.Author.Tests.{ltb-true, ltb-false, lt-leb}
use Rattle.bounded.specs.Bounded.{first_below, count_below}
use Rattle.bounded.proofs.Cases.{cases, and_right}
use Rattle.bounded.proofs.First.{first-le, first_holds}
use Rattle.bounded.proofs.Found.{below-some, below-none}
use Rattle.bounded.proofs.Reflection.{is_false, bool-r}
use Rattle.model.specs.declared.Description.{Description}
use Rattle.model.specs.declared.Fault.{Fault}
use Rattle.model.specs.declared.Fault.TheVariants as Faults
use Rattle.model.specs.Answers.{Answer}
use Rattle.model.specs.Description.{over, in_range, row_count, sound}
use Rattle.model.specs.Tables.{State, Tables, cell, same, used, rows_of, seen, at}
use Rattle.model.specs.Buffers.{holding, state_of}
use Rattle.model.specs.Listed.{each}
use Rattle.model.specs.Effect.{Rows, Effect, lowest_empty, has_room}
use Rattle.model.specs.Uplevel.{based, entity_of, uplevel_tests}
use Rattle.model.specs.Run.{first_fault}
use Rattle.cells.specs.Layout.{Row}
use Rattle.cells.specs.Changed.{key_place, entity_place}
use Rattle.asked.specs.declared.pairs.Rule.TheVariants as Rules
use Rattle.asked.specs.Facts.{rule_of}
use Rattle.theory.proofs.Seen.{seen_at, seen-own}
use Rattle.change.specs.Facts.{Answered, refuses, does, sight, Uplevels}
use Rattle.uplevel.specs.Raising.{given_of, sole_of, own_of, class_seen, levels_seen, later_tests, spot_of}
use Rattle.uplevel.specs.Raised.{Raises}
use Rattle.change.proofs.Sought.{used-is}
use Rattle.change.proofs.Answers.{first-fails, first_passes, passed-first}
use Rattle.uplevel.proofs.Entities.{some-is, level-few, entity-is}
use Rattle.uplevel.proofs.Sole.{Sole}

-- ---- the entity

-- no level with a number past the last is seen
unseen-past : (d : Description) (c r key : ℕ) (T : Tables) → sound d ≡ true → based d c r key T d.levels ≡ false
unfolding based
unseen-past d c r key T s = rw (is_false (bool-r (over d c d.levels)) (λ o. let h = (level-few d s c d.levels o).0 in omega (arith, h)))

module _ (d : Description) (c r key : ℕ) (T : Tables) where
  -- the one that is given
  pub given-unbased : {o : Option ℕ} {class : ℕ} → o ≡ Some class → {b : Bool} → b ≡ based d c r key T class → b ≡ false → Err Faults.Absent ≡ own_of d c r key o T
  unfolding own_of
  given-unbased e x t = rw (e, own_of, ← x, t)

  pub given-based : {o : Option ℕ} {class : ℕ} → o ≡ Some class → {b : Bool} → b ≡ based d c r key T class → b ≡ true → Ok class ≡ own_of d c r key o T
  unfolding own_of
  given-based e x t = rw (e, own_of, ← x, t)

  abbrev first : ℕ
  first = first_below d.levels (based d c r key T)

  abbrev many : ℕ
  many = count_below d.levels (based d c r key T)

  -- the only one
  pub sole-many : (first < d.levels) × (2 ≤ many) → Err Faults.Several ≡ own_of d c r key None T
  unfolding own_of sole_of
  sole-many h = rw (below-some _ _ h.0, sole_of, lt-leb _ _ h.1)

  pub sole-answer : {o : Option ℕ} → Sole d.levels (based d c r key T) o → ok_or o Faults.Absent ≡ own_of d c r key None T
  unfolding own_of sole_of
  sole-answer {o = None} S = rw (← S.first, sole_of)
  sole-answer {o = Some x} S = rw (← S.first, sole_of, ← S.many)

  -- what is answered of it
  sole-refused : sound d ≡ true → {f : Fault} → Err f ≡ own_of d c r key None T → {P : Type 0}
      → (based d c r key T first ≡ false → f ≡ Faults.Absent → P) → (based d c r key T first ≡ true → leb many 1 ≡ false → f ≡ Faults.Several → P) → P
  unfolding own_of sole_of
  sole-refused s {f} e {P} g h =
      cases (ltb first d.levels)
      (λ t. several (ltb-true _ _ t) (rw (below-some _ _ (ltb-true _ _ t)) at e))
      (λ t. absent (ltb-false _ _ t) (rw (below-none _ _ (ltb-false _ _ t)) at e))
    where
      several : first < d.levels → Err f ≡ sole_of (Some first) many → P
      several l q =
          cases (leb many 1)
          (λ u. let z : Err f ≡ Ok first = (rw u at q) in cc)
          (λ u. let z : Err f ≡ Err Faults.Several = (rw u at q) in h (first_holds _ _ l) u cc)

      absent : d.levels ≤ first → Err f ≡ sole_of None many → P
      absent l q =
          let k = first-le d.levels (based d c r key T) in
          let e : first ≡ d.levels = omega (arith, l, k) in g (rw e (unseen-past d c r key T s)) cc

  sole-owned : {own : ℕ} → Ok own ≡ own_of d c r key None T → (own ≡ first) × ((based d c r key T first ≡ true) × (leb many 1 ≡ true))
  unfolding own_of sole_of
  sole-owned {own} e =
      cases (ltb first d.levels)
      (λ t. one (ltb-true _ _ t) (rw (below-some _ _ (ltb-true _ _ t)) at e))
      (λ t. let z : Ok own ≡ Err Faults.Absent = (rw (below-none _ _ (ltb-false _ _ t)) at e) in cc)
    where
      one : first < d.levels → Ok own ≡ sole_of (Some first) many → (own ≡ first) × ((based d c r key T first ≡ true) × (leb many 1 ≡ true))
      one l q =
          cases (leb many 1)
          (λ u. let z : Ok own ≡ Ok first = (rw u at q) in (cc, (first_holds _ _ l, u)))
          (λ u. let z : Ok own ≡ Err Faults.Several = (rw u at q) in cc)

-- ---- what the model says of the entity that is meant

module _ (d : Description) (c r key class : ℕ) (T : Tables) where
  -- the tests of it
  abbrev meant : List (Bool × Fault) → List (Bool × Fault)
  meant ts =
      (based d c r key T (entity_of d c r key class T).class, Faults.Absent)
      ∷ (not (eqb class 255) || leb (many d c r key T) 1, Faults.Several) ∷ ts

  -- a refusal is the fault of the first that fails
  pub refused-by : sound d ≡ true → {f : Fault} → Err f ≡ own_of d c r key (given_of class) T → (ts : List (Bool × Fault)) → first_fault (meant ts) ≡ some f
  unfolding entity_of given_of
  refused-by s {f} e ts = cases (eqb class 255) (λ t. rw t (free (rw t at e))) (λ t. rw t (given (rw t at e)))
    where
      free : Err f ≡ own_of d c r key None T
          → first_fault ((based d c r key T (first d c r key T), Faults.Absent) ∷ (leb (many d c r key T) 1, Faults.Several) ∷ ts) ≡ some f
      free q =
          sole-refused d c r key T s q
          (λ t z. first-fails Faults.Absent _ t ∙ ap some (sym z))
          (λ t u z. first_passes Faults.Absent _ t ∙ (first-fails Faults.Several ts u ∙ ap some (sym z)))

      given : Err f ≡ own_of d c r key (Some class) T → first_fault ((based d c r key T class, Faults.Absent) ∷ (true, Faults.Several) ∷ ts) ≡ some f
      given q =
          cases (based d c r key T class)
          (λ t. let z : Err f ≡ Ok class = q ∙ sym (given-based d c r key T refl refl t) in cc)
          (λ t. let z : Err f ≡ Err Faults.Absent = q ∙ sym (given-unbased d c r key T refl refl t) in first-fails Faults.Absent _ t ∙ cc)

  -- the entity whose key class is answered is the one that is meant, and passes both
  pub record Owns (own : ℕ) : Type 0 where
    pub is : entity_of d c r key class T ≡ cell key own
    pub there : based d c r key T own ≡ true
    pub sole : (not (eqb class 255) || leb (many d c r key T) 1) ≡ true

  pub owns : {own : ℕ} → Ok own ≡ own_of d c r key (given_of class) T → Owns own
  unfolding entity_of given_of
  owns {own} e = cases (eqb class 255) (λ t. free t (rw t at e)) (λ t. given t (rw t at e))
    where
      free : eqb class 255 ≡ true → Ok own ≡ own_of d c r key None T → Owns own
      free t q =
          let f = sole-owned d c r key T q in
          record { is = rw t (ap (cell key) (sym f.0)); there = rw (f.0) f.1.0; sole = rw t f.1.1 }

      given : eqb class 255 ≡ false → Ok own ≡ own_of d c r key (Some class) T → Owns own
      given t q =
          cases (based d c r key T class)
          (λ u. let z : Ok own ≡ Ok class = q ∙ sym (given-based d c r key T refl refl u) in
          let w : own ≡ class = cc in record { is = rw t (ap (cell key) (sym w)); there = rw w u; sole = rw t })
          (λ u. let z : Ok own ≡ Err Faults.Absent = q ∙ sym (given-unbased d c r key T refl refl u) in cc)

-- ---- the place of the new row

module _ (d : Description) (r : ℕ) (B : Rows) where
  pub spot-there : (o : Option ℕ) → is_some o ≡ true → o ≡ spot_of d r o B
  unfolding spot_of
  spot-there None t = cc
  spot-there (Some i) t = refl

  pub spot-lowest : (o : Option ℕ) → is_some o ≡ false → {row : Option ℕ} → Row d r (lowest_empty d B r) row → row ≡ spot_of d r o B
  unfolding spot_of
  spot-lowest None t e = e
  spot-lowest (Some i) t e = cc

  spot-room : (o : Option ℕ) → is_some (spot_of d r o B) ≡ (is_some o || has_room d B r)
  unfolding spot_of has_room
  spot-room None = some-is _ _
  spot-room (Some i) = refl

-- ---- the tests after the entity is known

turned : (k h : Bool) → (not k || h) ≡ not (not h && k)
turned true true = refl
turned true false = refl
turned false true = refl
turned false false = refl

module _ (d : Description) (vs cs : List ℕ) (c r key class : ℕ) (o : over d c c ≡ true) (nz : key ≢ 0)
    {here : Option ℕ} (e : Row d r (entity_place d vs cs r c key class) here) where
  abbrev S : State
  S = state_of d (holding vs cs)

  pub taken-test : (not (used (at d (rows_of (seen d c S)) r c key)) || same (at d (rows_of (seen d c S)) r c key 1) (cell key class)) ≡ not (not (is_some here) && ltb (key_place d vs r c key) (row_count d r))
  taken-test =
      rw (seen_at d S c r c key o, ← (used-is d vs cs r c key nz refl), ← (entity-is d vs cs r c key class nz e))
      (turned (ltb (key_place d vs r c key) (row_count d r)) (is_some here))

  pub full-test : (same (at d (rows_of (seen d c S)) r c key 1) (cell key class) || has_room d (seen d c S c).rows r) ≡ is_some (spot_of d r here (S c).rows)
  full-test = rw (seen_at d S c r c key o, seen-own d S c o, ← (entity-is d vs cs r c key class nz e)) (sym (spot-room d r (S c).rows here))

  module _ (list : List ℕ) where
    abbrev tests : List (Bool × Fault)
    tests = later_tests d c r (cell key class) list (seen d c S)

    -- where none fails there is a row
    pub room : {row : Option ℕ} → row ≡ spot_of d r here (S c).rows → first_fault tests ≡ none → is_some row ≡ true
    unfolding later_tests
    room q n = ap is_some q ∙ sym full-test ∙ (passed-first _ _ (passed-first _ _ (passed-first _ _ (passed-first _ _ n).1).1).1).0

-- what is asked of each FROM level
pub class-test : (d : Description) (r class : ℕ) (list : List ℕ) {a : Bool} → a ≡ each (rule_of d r (Rules.Above class)) list → each (λ k a. over d a class) list ≡ a
unfolding rule_of
class-test d r class list e = sym e

-- ---- one test before others

module _ {d : Description} {c n : ℕ} {E : Effect} {vs cs : List ℕ} (f : Fault) (ts : List (Bool × Fault)) {b : Bool} where
  pub test-fails : b ≡ false → Answered d c ((b, f) ∷ ts) n E vs cs vs cs (Err f)
  test-fails e = refuses f (first-fails f ts e) refl refl refl

  pub test-passes : {vs' cs' : List ℕ} {a : Answer} → b ≡ true → Answered d c ts n E vs cs vs' cs' a → Answered d c ((b, f) ∷ ts) n E vs cs vs' cs' a
  test-passes e (refuses g p q x y) = refuses g (first_passes f ts e ∙ p) q x y
  test-passes e (does p q x) = does (first_passes f ts e ∙ p) q x

-- ---- all tests

-- what the subject sees of the levels that are named
pub sees-class : (d : Description) (c : ℕ) {o : Option ℕ} {class : ℕ} {b : Bool} → o ≡ Some class → b ≡ over d c class → b ≡ class_seen d c o
unfolding class_seen
sees-class d c e x = rw e x

pub sees-none : (d : Description) (c : ℕ) {o : Option ℕ} → o ≡ None → true ≡ class_seen d c o
unfolding class_seen
sees-none d c e = rw e

module _ (d : Description) (c : ℕ) (given : Option ℕ) (list : List ℕ) where
  pub class-unseen : {b : Bool} → b ≡ class_seen d c given → b ≡ false → false ≡ levels_seen d c given list
  unfolding levels_seen
  class-unseen x t = rw (← x, t)

  pub levels-seen : (r : ℕ) {a b : Bool} → a ≡ class_seen d c given → a ≡ true → b ≡ each (rule_of d r (Rules.Below c)) list → b ≡ levels_seen d c given list
  unfolding levels_seen rule_of
  levels-seen r x t y = rw (← x, t) y

  pub from-sees : {b : Bool} → b ≡ levels_seen d c given list → b ≡ true → each (λ k a. over d c a) list ≡ true
  unfolding levels_seen
  from-sees y u = and_right (class_seen d c given) _ (sym y ∙ u)

seen-either : (d : Description) (c class : ℕ) → (eqb class 255 || over d c class) ≡ class_seen d c (given_of class)
unfolding class_seen given_of
seen-either d c class = cases (eqb class 255) (λ t. rw t) (λ t. rw t)

tests-are : (d : Description) (c r key class : ℕ) (list : List ℕ) (A : State)
    → uplevel_tests d c r key class list A ≡ ((levels_seen d c (given_of class) list, Faults.Unseen)
    ∷ (each (λ k a. in_range d r k a) list, Faults.Range) ∷ meant d c r key class (rows_of A) (later_tests d c r (entity_of d c r key class (rows_of A)) list A))
unfolding uplevel_tests levels_seen later_tests entity_of
tests-are d c r key class list A = rw (seen-either d c class)

module _ (d : Description) (c r key class : ℕ) (list vs cs : List ℕ) {b : Bool} (x : b ≡ levels_seen d c (given_of class) list) where
  abbrev T : State
  T = sight d c vs cs

  pub unseen-answer : b ≡ false → Uplevels d c r key class list vs cs vs cs (Err Faults.Unseen)
  unseen-answer t = rw (tests-are d c r key class list T) (test-fails Faults.Unseen _ (sym x ∙ t))

  module _ (t : b ≡ true) {h : Bool} (y : h ≡ each (rule_of d r Rules.Lends) list) where
    range-is : each (λ k a. in_range d r k a) list ≡ h
    unfolding rule_of
    range-is = sym y

    pub range-answer : h ≡ false → Uplevels d c r key class list vs cs vs cs (Err Faults.Range)
    range-answer u = rw (tests-are d c r key class list T) (test-passes Faults.Unseen _ (sym x ∙ t) (test-fails Faults.Range _ (range-is ∙ u)))

    module _ (u : h ≡ true) where
      pub refused-answer : sound d ≡ true → {f : Fault} → Err f ≡ own_of d c r key (given_of class) (rows_of T) → Uplevels d c r key class list vs cs vs cs (Err f)
      refused-answer s e =
          rw (tests-are d c r key class list T)
          (test-passes Faults.Unseen _ (sym x ∙ t) (test-passes Faults.Range _ (range-is ∙ u) (refuses _ (refused-by d c r key class (rows_of T) s e _) refl refl refl)))

      pub raised-answer : {own : ℕ} → Ok own ≡ own_of d c r key (given_of class) (rows_of T) → {vs' cs' : List ℕ} {a : Answer}
          → Raises d c r (cell key own) list vs cs vs' cs' a → Uplevels d c r key class list vs cs vs' cs' a
      raised-answer p A =
          let q = owns d c r key class (rows_of T) p in
          rw (tests-are d c r key class list T, q.is)
          (test-passes Faults.Unseen _ (sym x ∙ t) (test-passes Faults.Range _ (range-is ∙ u) (test-passes Faults.Absent _ q.there (test-passes Faults.Several _ q.sole A))))
