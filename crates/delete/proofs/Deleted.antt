-- DELETE: the plan that is made for it, its test, and the tables that it leaves.
-- Assumes nothing.
use Rattle.std.specs.Prelude.{if◌then◌else◌}
use Prim.Native.Nat.{ℕ, suc, ◌<◌}
use mathlib.Core.Path.{◌≡◌, refl, sym, ap, ap₂, ◌∙◌, fun_ext}
use mathlib.Core.Bool.{Bool, true, false, not, ◌&&◌, and_assoc}
use mathlib.Core.List.{List}
use mathlib.Core.Option.{none, some}
use native.Mathlib.Omega.{arith}
use lib.Dec.{eqb, ltb}
use lib.ListN.{length, get_or, replicate, get_or-replicate, get_or-eq_default}
use borrow.Author.Tests.{eqb-true, ltb-true, ltb-false}
use Rattle.bounded.specs.Bounded.{any_below}
use Rattle.bounded.proofs.Any.{any-cong}
use Rattle.bounded.proofs.Cases.{cases}
use Rattle.bounded.proofs.Reflection.{of-true}
use Rattle.model.specs.declared.Description.{Description}
use Rattle.std.specs.Prelude.{Ok}
use Rattle.model.specs.Description.{between, over, row_count, column_count, foreign_of, refers_of}
use Rattle.model.specs.Tables.{Cell, State, rows_of, nocell, norow, seek, at}
use Rattle.model.specs.Buffers.{holding, state_of}
use Rattle.model.specs.Conditions.{met}
use Rattle.model.specs.Effect.{Rows, Effect, Above, keep, only}
use Rattle.model.specs.Effect as Effects
use Rattle.model.specs.Delete.{referred, delete_tests, deleted}
use Rattle.model.specs.Run.{first_fault, left}
use Rattle.model.proofs.Sound.{between-r}
use Rattle.cells.specs.Changed.{value_at, key_place, change_level}
use Rattle.cells.proofs.Cells.{state-cell}
use Rattle.cells.proofs.Sought.{place-key}
use Rattle.conditions.specs.Facts.{ChosenAt}
use Rattle.above.specs.declared.plan.Plan.{Plan}
use Rattle.above.specs.declared.plan.Change.{Change}
use Rattle.above.specs.declared.plan.Change.TheVariants as Changes
use Rattle.above.specs.Facts.{chosen_at, planned, effect_of, change_of, above_of, carried, with_rows, Working, Planned}
use Rattle.theory.proofs.Seen.{seen-own}
use Rattle.change.specs.Facts.{Standing, Deletes, does, sight, met_rows}
use Rattle.chosen.specs.Choosing.{Chosen, row_chosen, empty_chosen, names_chosen, row_refers, refers_chosen, referred_chosen}
use Rattle.cells.proofs.Counts.{sound-says, relation-is}
use Rattle.chosen.proofs.Carrying.{left-chosen, sought-met, own-seen, own-met, above-met}

-- ---- the plan

-- every cell of the subject's class becomes null
pub record Nulling (P : Plan) : Type 0 where
  pub gone : P.gone ≡ true
  pub changes : P.changes ≡ replicate 9 (Changes.Only 0 255)

module _ (P : Plan) (N : Nulling P) where
  null-planned : (k : ℕ) → k < 9 → planned P k ≡ Changes.Only 0 255
  null-planned k h = ap (λ (xs : List Change). get_or xs k Changes.Keep) N.changes ∙ get_or-replicate 9 k (Changes.Only 0 255) Changes.Keep h

  change-is : (k : ℕ) → k < 9 → change_of P k ≡ only nocell
  unfolding change_of effect_of
  change-is k h = ap effect_of (null-planned k h)

  module _ (d : Description) (r c : ℕ) (S : State) (W : Working d r c S) where
    abbrev B : Rows
    B = (S c).rows

    abbrev E : Effect
    E = empty_chosen d c r P.chosen B

    gone-is : (s v : ℕ) → (above_of d c r P B).gone s v ≡ E.above.gone s v
    unfolding above_of empty_chosen
    gone-is s v = rw N.gone

    -- a cell of a level's class stands in a column
    column-few : (l i k : ℕ) → ((S l).rows r i k).class ≡ c → k < 9
    column-few l i k e =
        cases (between 1 (column_count d r) k)
        (λ t. omega (arith, (of-true (between-r 1 (column_count d r) k) t).1, (relation-is d W.sound-is r W.relation).narrow))
        (λ t.
        let z : ◌≡◌ {A = ℕ} 255 c = sym (ap (λ (x : Cell). x.class) (W.beyond r l i k t)) ∙ e in
        absurd (omega (arith, z, W.level, (sound-says d W.sound-is).few-levels)))

    changed-is : (s l i k : ℕ) → ((S l).rows s i k).class ≡ c → (above_of d c r P B).change s ((S l).rows s i 1).value k ≡ E.above.change s ((S l).rows s i 1).value k
    unfolding above_of empty_chosen
    changed-is s l i k e =
        cases (eqb s r)
        (λ t. rw (change-is k (column-few l i k (rw (eqb-true s r t) at e))))
        (λ t. rw t)

    module _ (M : Chosen (row_count d r) ((S c).rows r) P.chosen) where
      past : (i k : ℕ) → between 1 (column_count d r) k ≡ false → nocell ≡ (S c).rows r i k
      past i k e = sym (W.beyond r c i k e)

      pub delete-left : {S' S'' : State} → S' ≡ carried d c r P S
          → S'' ≡ change_level c (with_rows (row_count d r) (column_count d r) r (λ i. row_chosen P.chosen (λ R. norow) i ((S' c).rows r i))) S'
          → S'' ≡ left d c (some (empty_chosen d c r P.chosen (S c).rows)) S
      unfolding empty_chosen
      delete-left = left-chosen d c r (column_count d r) P S (λ R. norow) E gone-is changed-is (λ s i k. refl) M past

      -- the plan is one
      pub delete-planned : Planned d r c P ((S c).rows r)
      delete-planned =
          record {
            chosen = M.long;
            changes = ap length N.changes;
            real = M.real;
            own = λ k v o q. absurd (not_taken k v o q);
            key = λ v o q. not_taken 1 v o q;
          }
        where
          not_taken : (k v o : ℕ) → planned P k ≡ Changes.Take v o → ⊥
          not_taken k v o q =
              cases (ltb k 9)
              (λ t. let e = null-planned k (ltb-true k 9 t) in cc)
              (λ t. let g = ltb-false k 9 t in
              let e : planned P k ≡ Changes.Keep = get_or-eq_default P.changes Changes.Keep {n = k} (omega (arith, ap length N.changes)) in cc)

-- ---- its test

module _ (d : Description) (vs cs : List ℕ) (c r : ℕ) (o : over d c c ≡ true) (conditions : List ℕ) {chosen : List Bool} (M : ChosenAt d r c conditions vs cs chosen) where
  abbrev S₀ : State
  S₀ = state_of d (holding vs cs)

  key-met : (v : ℕ) → (ltb (key_place d vs r c v) (row_count d r) && get_or chosen (key_place d vs r c v) false) ≡ met d conditions (at d (rows_of S₀) r c v)
  unfolding chosen_at at
  key-met v = rw (← (place-key d vs cs r c v)) (sought-met d conditions (row_count d r) ((S₀ c).rows r) chosen M v)

  -- row i of relation s refers to a row that is met, where B are the rows at c
  abbrev refers_in : Rows → ℕ → ℕ → Bool
  refers_in B s i =
      let v = (B s i (foreign_of d s)).value in
      eqb (refers_of d s) r && (not (eqb v 0) && met d conditions (seek (row_count d r) (B r) v))

  row_is : (s i : ℕ) → row_refers d vs chosen r c s i ≡ refers_in (S₀ c).rows s i
  unfolding row_refers names_chosen at
  row_is s i = rw (state-cell d vs cs s c i (foreign_of d s), key-met (value_at d vs s c i (foreign_of d s)))

  named-is : referred_chosen d vs chosen r c ≡ referred d c r conditions (rows_of (sight d c vs cs))
  unfolding referred_chosen refers_chosen referred at
  named-is =
      any-cong (suc d.relations) (refers_chosen d vs chosen r c) (λ s. any_below (row_count d s) (refers_in (S₀ c).rows s))
      (λ s h. any-cong (row_count d s) (row_refers d vs chosen r c s) (refers_in (S₀ c).rows s) (λ i g. row_is s i))
      ∙ ap (λ (B : Rows). any_below (suc d.relations) (λ s. any_below (row_count d s) (refers_in B s))) (sym (seen-own d S₀ c o))

  pub referred-test : {b : Bool} → b ≡ referred_chosen d vs chosen r c → not (referred d c r conditions (rows_of (sight d c vs cs))) ≡ not b
  referred-test z = ap not (sym (z ∙ named-is))

-- ---- the effect, by what meets the conditions, and what is answered

module _ {d : Description} {r c : ℕ} {vs cs : List ℕ} (K : Standing d r c vs cs) (conditions : List ℕ)
    {chosen : List Bool} (M : ChosenAt d r c conditions vs cs chosen) where
  abbrev T : State
  T = state_of d (holding vs cs)

  gone-met : (s v : ℕ) (b : Bool) → (eqb s r && (chosen_at (row_count d s) chosen ((T c).rows s) v && b)) ≡ (eqb s r && (met d conditions (seek (row_count d s) ((T c).rows s) v) && b))
  gone-met s v b =
      sym (and_assoc (eqb s r) (chosen_at (row_count d s) chosen ((T c).rows s) v) b)
      ∙ ap (λ (a : Bool). a && b) (above-met K conditions M s v)
      ∙ and_assoc (eqb s r) (met d conditions (seek (row_count d s) ((T c).rows s) v)) b

  effect_is : empty_chosen d c r chosen (T c).rows ≡ deleted d c r conditions (sight d c vs cs c).rows
  unfolding empty_chosen deleted
  effect_is =
      ap₂ (λ (N : Rows) (A : Above). record { own = N; above = A })
      (fun_ext (λ s. fun_ext (λ i. ap (λ (b : Bool). if b then norow else (T c).rows s i) (own-met K conditions M s i))))
      (ap₂ (λ (g : ℕ → ℕ → Bool) (f : ℕ → ℕ → ℕ → Effects.Change). record { gone = g; change = f })
      (fun_ext (λ s. fun_ext (λ v. gone-met s v _)))
      (fun_ext (λ s. fun_ext (λ v. fun_ext (λ k. ap (λ (b : Bool). if b then only nocell else keep) (above-met K conditions M s v))))))
      ∙ ap (deleted d c r conditions) (sym (own-seen K))

  pub delete-done : first_fault (delete_tests d c r conditions (sight d c vs cs)) ≡ none → {count : ℕ} → count ≡ met_rows d c r conditions (sight d c vs cs) → {us ds : List ℕ}
      → state_of d (holding us ds) ≡ left d c (some (empty_chosen d c r chosen (T c).rows)) T → Deletes d c r conditions vs cs us ds (Ok count)
  delete-done n C m = does n (ap Ok C) (m ∙ ap (λ (E : Effect). left d c (some E) T) effect_is)
