-- UPDATE: the plan that is made for it, its tests in their order, and the tables that it leaves.
-- Assumes nothing.
use Rattle.std.specs.Prelude.{if◌then◌else◌}
use Prim.Native.Nat.{ℕ, ◌≤◌, ◌<◌}
use mathlib.Core.Path.{◌≡◌, refl, sym, ap, ap₂, ◌∙◌, fun_ext}
use mathlib.Core.Bool.{Bool, true, false, not, ◌||◌}
use mathlib.Core.List.{List}
use mathlib.Core.Logic.{◌≢◌}
use mathlib.Core.Option.{Option, none, some}
use native.Mathlib.Omega.{arith}
use lib.Dec.{eqb, ltb}
use lib.ListN.{length}
use borrow.Author.Tests.{eqb-true, ltb-true}
use Rattle.bounded.specs.Bounded.{first_below, all_below}
use Rattle.bounded.proofs.All.{all-at}
use Rattle.bounded.proofs.Any.{any-first}
use Rattle.bounded.proofs.First.{first_holds}
use Rattle.bounded.proofs.Cases.{cases}
use Rattle.bounded.proofs.Reflection.{is_false, of-true, of-false, bool-r, not-r, and_r, eqb-r}
use Rattle.model.specs.declared.Description.{Description}
use Rattle.std.specs.Prelude.{Ok}
use Rattle.model.specs.Description.{between, distinct_below, over, is_column, row_count, column_count}
use Rattle.model.specs.Tables.{Row, State, rows_of}
use Rattle.model.specs.Buffers.{holding, state_of}
use Rattle.model.specs.Listed.{whole, pairs, column_at, each, listed, lists, columns_once}
use Rattle.model.specs.Conditions.{met}
use Rattle.model.specs.Effect.{Rows, Effect, Above, keep}
use Rattle.model.specs.Effect as Effects
use Rattle.model.specs.Insert.{listed_names}
use Rattle.model.specs.Update.{update_formed, any_met, update_tests, set_in, take_in, updated}
use Rattle.model.specs.Run.{first_fault, left}
use Rattle.model.proofs.Sound.{between-r, column-r}
use Rattle.cells.specs.Changed.{change_level}
use Rattle.conditions.specs.Facts.{ChosenAt}
use Rattle.above.specs.declared.plan.Plan.{Plan}
use Rattle.above.specs.declared.plan.Change.TheVariants as Changes
use Rattle.above.specs.Facts.{effect_of, change_of, above_of, carried, with_rows, Planned}
use Rattle.change.specs.Facts.{Standing, Updates, does, sight, met_rows}
use Rattle.chosen.specs.Choosing.{Listing, ByColumn, Chosen, change_listed, row_chosen, set_chosen}
use Rattle.change.proofs.Answers.{listed-seen}
use Rattle.chosen.proofs.Carrying.{left-chosen, any-counted, own-seen, own-met, above-met}
use Rattle.update.proofs.Setting.{listed-nowhere}

-- ---- what is listed for a column

abbrev first : List ℕ → ℕ → ℕ
first list k = first_below (pairs list) (λ j. eqb (column_at list j) k)

-- no column is listed that isn't there
unlisted-none : (list : List ℕ) (k : ℕ) → lists list k ≡ false → listed list k ≡ none
unfolding lists
unlisted-none list k e = listed-nowhere list k (sym (any-first (pairs list) (λ j. eqb (column_at list j) k)) ∙ e)

-- ---- the plan

module _ (c : ℕ) (list : List ℕ) (P : Plan) (changes : ByColumn (change_listed c list) P.changes) where
  change-is : (k : ℕ) → change_of P k ≡ take_in list k
  unfolding change_of change_listed take_in effect_of
  change-is k = ap effect_of (changes.right k) ∙ go (listed list k) refl
    where
      go : (o : Option ℕ) → listed list k ≡ o → effect_of (change_listed c list k) ≡ take_in list k
      go none e = rw (change_listed, take_in, e)
      go (some v) e = rw (change_listed, take_in, e)

  module _ (d : Description) (r : ℕ) (S : State) (nothing-gone : P.gone ≡ false) where
    abbrev B : Rows
    B = (S c).rows

    abbrev E : Effect
    E = set_chosen d c r list P.chosen B

    gone-is : (s v : ℕ) → (above_of d c r P B).gone s v ≡ E.above.gone s v
    unfolding above_of set_chosen
    gone-is s v = rw nothing-gone (cases (eqb s r) (λ t. rw t) (λ t. rw t))

    changed-is : (s v k : ℕ) → (above_of d c r P B).change s v k ≡ E.above.change s v k
    unfolding above_of set_chosen
    changed-is s v k = rw (change-is k)

    module _ (m : ℕ) (L : Listing m list) (M : Chosen (row_count d r) ((S c).rows r) P.chosen) where
      -- what is no column is not listed
      past : (i k : ℕ) → between 1 m k ≡ false → set_in c list ((S c).rows r i) k ≡ (S c).rows r i k
      unfolding set_in
      past i k e = go (cases (ltb (first list k) (pairs list)) (λ t. absurd (there (ltb-true _ _ t))) (λ t. listed-nowhere list k t))
        where
          there : first list k < pairs list → ⊥
          there h =
              let q = eqb-true (column_at list (first list k)) k (first_holds (pairs list) (λ j. eqb (column_at list j) k) h) in
              of-false (between-r 1 m k) e (omega (arith, q, L.least (first list k) h), omega (arith, q, L.most (first list k) h))

          go : listed list k ≡ none → set_in c list ((S c).rows r i) k ≡ (S c).rows r i k
          go n = rw (set_in, n)

      pub update-left : {S' S'' : State} → S' ≡ carried d c r P S → S'' ≡ change_level c (with_rows (row_count d r) m r (λ i. row_chosen P.chosen (set_in c list) i ((S' c).rows r i))) S'
          → S'' ≡ left d c (some (set_chosen d c r list P.chosen (S c).rows)) S
      unfolding set_chosen
      update-left = left-chosen d c r m P S (set_in c list) E gone-is (λ s l i k h. changed-is s ((S l).rows s i 1).value k) (λ s i k. refl) M past

-- the plan is one
pub update-planned : (d : Description) (r c : ℕ) (list : List ℕ) (P : Plan) (B : ℕ → Row) → ByColumn (change_listed c list) P.changes
    → Chosen (row_count d r) B P.chosen → lists list 1 ≡ false → Planned d r c P B
unfolding change_listed
update-planned d r c list P B changes M n =
    record {
      chosen = M.long;
      changes = changes.long;
      real = M.real;
      own = λ k v o q. own (listed list k) k v o refl (sym (changes.right k) ∙ q);
      key = λ v o q. let e = unlisted-none list 1 n in let z : Changes.Keep ≡ Changes.Take v o = sym (changes.right 1 ∙ rw (change_listed, e)) ∙ q in cc;
    }
  where
    own : (x : Option ℕ) (k v o : ℕ) → listed list k ≡ x → change_listed c list k ≡ Changes.Take v o → o ≡ c
    own none k v o e q = let z : Changes.Keep ≡ Changes.Take v o = sym (rw (change_listed, e)) ∙ q in cc
    own (some w) k v o e q = let z : Changes.Take w c ≡ Changes.Take v o = sym (rw (change_listed, e)) ∙ q in cc

-- ---- what is well formed

module _ (d : Description) (r : ℕ) (list : List ℕ) (h : update_formed d r list ≡ true) where
  says : (whole 2 list ≡ true) × ((each (λ k v. is_column d r k) list ≡ true) × ((columns_once list ≡ true) × ((lists list 1 ≡ true → ⊥) × (ltb 0 (length list) ≡ true))))
  unfolding update_formed
  says =
      of-true
      (and_r (bool-r (whole 2 list)) (and_r (bool-r (each (λ k v. is_column d r k) list)) (and_r (bool-r (columns_once list)) (and_r (not-r (bool-r (lists list 1))) (bool-r (ltb 0 (length list)))))))
      h

  pub update-columns : each (λ k v. is_column d r k) list ≡ true
  update-columns = says.1.0

  pub update-keyless : lists list 1 ≡ false
  update-keyless = is_false (bool-r (lists list 1)) says.1.1.1.0

  column-at : (i : ℕ) → i < pairs list → (0 < column_at list i) × (column_at list i ≤ column_count d r)
  unfolding each
  column-at i g = of-true (column-r d r (column_at list i)) (all-at (pairs list) (λ j. is_column d r (column_at list j)) update-columns i g)

  twice : (i j : ℕ) → i < pairs list → j < i → column_at list i ≢ column_at list j
  unfolding columns_once distinct_below
  twice i j g l =
      of-true (not-r (eqb-r (column_at list i) (column_at list j)))
      (all-at i (λ k. not (eqb (column_at list i) (column_at list k))) (all-at (pairs list) (λ n. all_below n (λ k. not (eqb (column_at list n) (column_at list k)))) says.1.1.0 i g) j l)

  pub update-listing : Listing (column_count d r) list
  update-listing = record { least = λ i g. (column-at i g).0; most = λ i g. (column-at i g).1; once = twice }

-- a list of a relation's columns is one of the first eight
pub listing-few : (m : ℕ) (list : List ℕ) → m ≤ 8 → Listing m list → Listing 8 list
listing-few m list h L = record { least = L.least; most = λ i g. omega (arith, L.most i g); once = L.once }

-- ---- its tests

module _ (d : Description) (vs cs : List ℕ) (c r : ℕ) (o : over d c c ≡ true) (list conditions : List ℕ) {count : ℕ}
    (n : count ≡ met_rows d c r conditions (sight d c vs cs)) where
  none-met : not (any_met d c r conditions (rows_of (sight d c vs cs))) ≡ eqb count 0
  unfolding any_met met_rows
  none-met = any-counted (row_count d r) (λ i. met d conditions ((sight d c vs cs c).rows r i)) ∙ ap (λ (m : ℕ). eqb m 0) (sym n)

  -- the reference is asked for where a row is met
  pub reference-test : {b : Bool} → ((classes : List ℕ) → b ≡ (eqb count 0 || listed_names d c r list (rows_of (state_of d (holding vs classes)))))
      → (not (any_met d c r conditions (rows_of (sight d c vs cs))) || listed_names d c r list (rows_of (sight d c vs cs))) ≡ b
  reference-test z = ap₂ (λ (x y : Bool). x || y) none-met (listed-seen d c (state_of d (holding vs cs)) o r list) ∙ sym (z cs)

-- ---- the effect, by what meets the conditions, and what is answered

module _ {d : Description} {r c : ℕ} {vs cs : List ℕ} (K : Standing d r c vs cs) (list conditions : List ℕ)
    {chosen : List Bool} (M : ChosenAt d r c conditions vs cs chosen) where
  abbrev T : State
  T = state_of d (holding vs cs)

  effect_is : set_chosen d c r list chosen (T c).rows ≡ updated d c r list conditions (sight d c vs cs c).rows
  unfolding set_chosen updated
  effect_is =
      ap₂ (λ (N : Rows) (A : Above). record { own = N; above = A })
      (fun_ext (λ s. fun_ext (λ i. ap (λ (b : Bool). if b then set_in c list ((T c).rows s i) else (T c).rows s i) (own-met K conditions M s i))))
      (ap (λ (f : ℕ → ℕ → ℕ → Effects.Change). record { gone = λ s v. false; change = f })
      (fun_ext (λ s. fun_ext (λ v. fun_ext (λ k. ap (λ (b : Bool). if b then take_in list k else keep) (above-met K conditions M s v))))))
      ∙ ap (updated d c r list conditions) (sym (own-seen K))

  pub update-done : first_fault (update_tests d c r list conditions (sight d c vs cs)) ≡ none → {count : ℕ} → count ≡ met_rows d c r conditions (sight d c vs cs) → {us ds : List ℕ}
      → state_of d (holding us ds) ≡ left d c (some (set_chosen d c r list chosen (T c).rows)) T → Updates d c r list conditions vs cs us ds (Ok count)
  update-done n C m = does n (ap Ok C) (m ∙ ap (λ (E : Effect). left d c (some E) T) effect_is)
