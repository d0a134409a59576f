-- INSERT: when it is well formed, its tests, and the tables that it leaves.
-- Assumes nothing.
use Rattle.std.specs.Prelude.{if◌then◌else◌}
use Prim.Native.Nat.{ℕ, ◌%◌, ◌≤◌, ◌<◌}
use mathlib.Core.Path.{◌≡◌, refl, sym, ap, ap₂, ◌∙◌}
use mathlib.Core.Bool.{Bool, true, false, not, ◌&&◌}
use mathlib.Core.List.{List}
use mathlib.Core.Logic.{◌≢◌}
use mathlib.Core.Option.{Option, none, some}
use lib.Dec.{eqb, ltb}
use lib.ListN.{length}
use borrow.Author.Tests.{eq-eqb, ne_eqb, eqb-true}
use Rattle.bounded.specs.Bounded.{some_below}
use Rattle.bounded.proofs.Found.{some-below}
use Rattle.bounded.proofs.Cases.{cases, clash}
use Rattle.bounded.proofs.Reflection.{is_false, of-true, of-false, bool-r, not-r, and_r, eqb-r}
use Rattle.model.specs.declared.Description.{Description}
use Rattle.model.specs.declared.Fault.{Fault}
use Rattle.std.specs.Prelude.{Ok, Some, Option as Opt, is_some}
use Rattle.model.specs.Description.{between, is_column, row_count, column_count, in_range}
use Rattle.model.specs.Tables.{Row, State, rows_of, cell, nocell, own_null, used, at}
use Rattle.model.specs.Buffers.{Buffers, holding, inside, state_of}
use Rattle.model.specs.Listed.{whole, each, listed, columns_once}
use Rattle.model.specs.Effect.{Rows, Effect, lowest_empty, has_room}
use Rattle.model.specs.Insert.{key_listed, insert_formed, insert_tests, new_row, inserted}
use Rattle.model.specs.Run.{first_fault, left}
use Rattle.model.proofs.Sound.{between-r, column-r}
use Rattle.model.proofs.Border.{state-framed}
use Rattle.cells.specs.Layout.{Row as Found}
use Rattle.cells.specs.Changed.{key_place, listed_row, change_level, with_row}
use Rattle.cells.proofs.Cells.{state-path}
use Rattle.asked.specs.declared.pairs.Rule.TheVariants as Rules
use Rattle.asked.specs.Facts.{rule_of}
use Rattle.theory.proofs.Listed.{each-listed}
use Rattle.theory.proofs.Seen.{seen_at, seen-own}
use Rattle.change.specs.Facts.{Standing, Filled, Inserts, does, sight, value_listed}
use Rattle.change.proofs.Answers.{passed-first, left-own, left-still}
use Rattle.change.proofs.Known.{own-over}
use Rattle.change.proofs.Sought.{used-some}

-- the key that is listed
pub key-listed : (list : List ℕ) → value_listed list 1 ≡ key_listed list
unfolding value_listed key_listed
key-listed list = refl

-- ---- when it is well formed

-- test after test
pub formed-tests : (d : Description) (r : ℕ) (list : List ℕ)
    → insert_formed d r list ≡ (eqb (length list % 2) 0 && (each (rule_of d r Rules.Column) list && (columns_once list && not (eqb (value_listed list 1) 0))))
unfolding insert_formed whole rule_of
formed-tests d r list = rw (key-listed list)

-- ---- the new row

module _ (d : Description) (c r : ℕ) (list : List ℕ) where
  new-value : (k : ℕ) → (new_row d c r list k).value ≡ value_listed list k
  unfolding new_row value_listed own_null
  new-value k = go (listed list k) refl
    where
      go : (o : Option ℕ) → listed list k ≡ o → (new_row d c r list k).value ≡ value_listed list k
      go none e = rw (e, new_row, value_listed) (cases (in_range d r k c) (λ t. rw t) (λ t. rw t))
      go (some v) e = rw (e, new_row, value_listed)

  -- two lists that hold its values and its classes
  pub new-filled : (news owners : List ℕ) → Filled (column_count d r) (value_listed list) news → Filled (column_count d r) (λ k. (new_row d c r list k).class) owners
      → (k : ℕ) → 0 < k → k ≤ column_count d r → listed_row news owners k ≡ new_row d c r list k
  unfolding listed_row
  new-filled news owners F G k p q = ap₂ cell (F.right k p q ∙ sym (new-value k)) (G.right k p q)

  -- past the columns it is empty
  new-past : each (λ k v. is_column d r k) list ≡ true → (k : ℕ) → is_column d r k ≡ false → new_row d c r list k ≡ nocell
  unfolding new_row own_null in_range
  new-past h k n = go (listed list k) refl
    where
      go : (o : Option ℕ) → listed list k ≡ o → new_row d c r list k ≡ nocell
      go none e = rw (e, new_row) (rw n)
      go (some v) e = clash (each-listed (λ k v. is_column d r k) list k v h e) n

-- ---- the tables that it leaves

is-outside : (d : Description) (r l i k : ℕ) → is_column d r k ≡ false → inside d r l i k ≡ false
unfolding inside
is-outside d r l i k n = rw n

module _ (d : Description) (c r : ℕ) (list : List ℕ) (b : Buffers) where
  abbrev S : State
  S = state_of d b

  pub insert-left : (B : Rows) (row : ℕ) (R : Row) → B ≡ (S c).rows → row ≡ lowest_empty d B r → each (λ k v. is_column d r k) list ≡ true
      → ((k : ℕ) → 0 < k → k ≤ column_count d r → R k ≡ new_row d c r list k)
      → change_level c (with_row (column_count d r) r row R) S ≡ left d c (some (inserted d c r list B)) S
  unfolding change_level with_row inserted
  insert-left B row R e z h f = state-path at-cell
    where
      E : Effect
      E = inserted d c r list B

      stays : (s i k : ℕ) → (S c).rows s i k ≡ B s i k
      stays s i k = ap (λ (K : Rows). K s i k) (sym e)

      rest : (s i k : ℕ) (x : Bool) → (S c).rows s i k ≡ (if x && false then new_row d c r list else B s i) k
      rest s i k true = stays s i k
      rest s i k false = stays s i k

      new : (k : ℕ) → (if between 1 (column_count d r) k then R k else (S c).rows r row k) ≡ new_row d c r list k
      new k =
          cases (between 1 (column_count d r) k)
          (λ t. let q = of-true (between-r 1 (column_count d r) k) t in rw t (f k q.0 q.1))
          (λ t.
          let n : is_column d r k ≡ false = is_false (column-r d r k) (of-false (between-r 1 (column_count d r) k) t) in
          rw t ((state-framed d b).outside r c row k (is-outside d r c row k n) ∙ sym (new-past d c r list h k n)))

      own : (s i k : ℕ) → (with_row (column_count d r) r row R (S c)).rows s i k ≡ E.own s i k
      own s i k =
          cases (eqb r s)
          (λ t. cases (eqb row i)
          (λ u. rw (← (eqb-true r s t), ← (eqb-true row i u), ← z, eq-eqb r r refl, eq-eqb row row refl) (new k))
          (λ u. rw (t, u, ← z, ne_eqb i row (λ q. of-false (eqb-r row i) u (sym q))) (rest s i k (eqb s r))))
          (λ t. rw (t, ne_eqb s r (λ q. of-false (eqb-r r s) t (sym q))) (stays s i k))

      at-cell : (l s i k : ℕ) → (change_level c (with_row (column_count d r) r row R) S l).rows s i k ≡ (left d c (some E) S l).rows s i k
      at-cell l s i k =
          cases (eqb c l)
          (λ t. rw (t, ← (eqb-true c l t)) (own s i k ∙ sym (left-own d c E S s i k)))
          (λ t. rw t (sym (left-still d c E S (λ s v. refl) (λ s v k. refl) s l i k (λ q. of-false (eqb-r c l) t (sym q)))))

-- ---- its tests, and what is answered

-- a search has found something where it came to a number below n
some-is : (n k : ℕ) → ltb k n ≡ is_some (some_below n k)
unfolding some_below
some-is n k = cases (ltb k n) (λ t. rw t) (λ t. rw t)

module _ (d : Description) (r : ℕ) (list : List ℕ) (h : insert_formed d r list ≡ true) where
  says : (whole 2 list ≡ true) × ((each (λ k v. is_column d r k) list ≡ true) × ((columns_once list ≡ true) × (key_listed list ≢ 0)))
  unfolding insert_formed
  says =
      of-true (and_r (bool-r (whole 2 list)) (and_r (bool-r (each (λ k v. is_column d r k) list)) (and_r (bool-r (columns_once list)) (not-r (eqb-r (key_listed list) 0))))) h

  pub formed-columns : each (λ k v. is_column d r k) list ≡ true
  formed-columns = says.1.0

  formed-keyed : key_listed list ≢ 0
  formed-keyed = says.1.1.1

module _ {d : Description} {r c : ℕ} {vs cs : List ℕ} (K : Standing d r c vs cs) (list : List ℕ) (formed-is : insert_formed d r list ≡ true) where
  abbrev T : State
  T = state_of d (holding vs cs)

  abbrev seeing : State
  seeing = sight d c vs cs

  abbrev tests : List (Bool × Fault)
  tests = insert_tests d c r list seeing

  own : (seeing c).rows ≡ (T c).rows
  own = seen-own d T c (own-over K)

  -- ---- each test is what was asked

  pub taken-test : {key : ℕ} {o : Opt ℕ} → key ≡ value_listed list 1 → Found d r (key_place d vs r c key) o → not (used (at d (rows_of seeing) r c (key_listed list))) ≡ not (is_some o)
  taken-test x y =
      ap not
      (ap used (seen_at d T c r c (key_listed list) (own-over K))
      ∙ sym (used-some d vs cs r c (key_listed list) (formed-keyed d r list formed-is) (y ∙ ap (some_below (row_count d r)) (ap (key_place d vs r c) (x ∙ key-listed list)))))

  pub room-test : {o : Opt ℕ} → Found d r (lowest_empty d (T c).rows r) o → has_room d (seeing c).rows r ≡ is_some o
  unfolding has_room
  room-test q = rw (own, q) (some-is _ _)

  -- where no test fails there is a row
  pub room : {o : Opt ℕ} → Found d r (lowest_empty d (T c).rows r) o → first_fault tests ≡ none → is_some o ≡ true
  unfolding insert_tests
  room q n = sym (room-test q) ∙ (passed-first _ _ (passed-first _ _ (passed-first _ _ (passed-first _ _ n).1).1).1).0

  pub found : {o : Opt ℕ} {row : ℕ} → Found d r (lowest_empty d (T c).rows r) o → o ≡ Some row → (row ≡ lowest_empty d (T c).rows r) × (lowest_empty d (T c).rows r < row_count d r)
  found q e = some-below _ _ (sym e ∙ q)

  pub insert-done : {row : ℕ} → row ≡ lowest_empty d (T c).rows r → first_fault tests ≡ none → {news owners us ds : List ℕ} → Filled (column_count d r) (value_listed list) news
      → Filled (column_count d r) (λ k. (new_row d c r list k).class) owners
      → state_of d (holding us ds) ≡ change_level c (with_row (column_count d r) r row (listed_row news owners)) T
      → Inserts d c r list vs cs us ds (Ok 1)
  insert-done {row} q n {news} {owners} F G m =
      does n refl
      (m
      ∙ insert-left d c r list (holding vs cs) (seeing c).rows row (listed_row news owners) own (q ∙ ap (λ (N : Rows). lowest_empty d N r) (sym own))
      (formed-columns d r list formed-is) (new-filled d c r list news owners F G))
