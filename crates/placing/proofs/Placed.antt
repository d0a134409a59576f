-- A record of kind 3: its tests in their order, and the buffers that it leaves.
-- Assumes nothing.
use Prim.Native.Nat.{ℕ, ◌+◌, ◌*◌, ◌≤◌, ◌<◌}
use Rattle.std.specs.Prelude.{Some, None}
use mathlib.Core.Path.{◌≡◌, refl, sym, ap, ap₂, ◌∙◌}
use mathlib.Core.Bool.{Bool, true, false, ◌&&◌}
use mathlib.Core.List.{List}
use mathlib.Core.Logic.{◌≢◌}
use lib.Dec.{eqb, ltb}
use lib.ListN.{length}
use borrow.Author.Tests.{eq-eqb, ne_eqb, lt-ltb, le-ltb, ltb-true}
use Rattle.bounded.proofs.Cases.{and_left, and_right}
use Rattle.bounded.proofs.Reflection.{is_true, of-true, and_r, eqb-r}
use Rattle.model.specs.declared.Description.{Description}
use Rattle.model.specs.Description.{is_level, is_relation, column_count, row_count, total_of, sound}
use Rattle.model.specs.Tables.{cell, State}
use Rattle.model.specs.Buffers.{Buffers, holding, fitting, state_of, buffers_of}
use Rattle.model.specs.Effect.{lowest_empty, has_room}
use Rattle.model.proofs.Border.{buffers-state}
use Rattle.bounded.specs.Bounded.{some_below}
use Rattle.bounded.proofs.Found.{some-below, none-below}
use Rattle.cells.specs.Laid.{Laid}
use Rattle.cells.specs.Layout.{Lent, InLevel}
use Rattle.cells.specs.Changed.{listed_row, with_row, change_level}
use Rattle.cells.proofs.Written.{row_as}
use Rattle.change.specs.Facts.{Filled}
use Rattle.cells.proofs.Counts.{in-level}
use Rattle.placing.specs.Placing.{relation, level, row_read, small_classes, well_shaped, placeable, with_placed, placed, Places}

-- ---- the tests in their order

regroup : (a b c : Bool) → (a && (b && c)) ≡ ((a && b) && c)
regroup true b c = refl
regroup false b c = refl

module _ (d : Description) (bytes vs cs : List ℕ) {r l : ℕ} (x : r ≡ relation bytes) (y : l ≡ level bytes) where
  abbrev b : Buffers
  b = holding vs cs

  abbrev S : State
  S = state_of d b

  abbrev room : Bool
  room = ltb (lowest_empty d (S l).rows r) (row_count d r)

  abbrev shaped : Bool
  shaped = eqb (length bytes) (8 + 6 * column_count d r) && small_classes (column_count d r) bytes

  asked : placeable d b bytes ≡ ((sound d && fitting d b) && ((is_relation d r && is_level d l) && (shaped && room)))
  unfolding placeable well_shaped has_room
  asked =
      rw (← x, ← y)
      (regroup (sound d) (fitting d b) (is_relation d r && (is_level d l && (shaped && room)))
      ∙ ap (λ (z : Bool). (sound d && fitting d b) && z) (regroup (is_relation d r) (is_level d l) (shaped && room)))

  refused : placeable d b bytes ≡ false → Places d bytes b b false
  unfolding placed
  refused h = record { done-is = sym h; left_is = rw h }

  module _ {f : Bool} (e : f ≡ (sound d && fitting d b)) where
    pub place-unfit : f ≡ false → Places d bytes b b false
    place-unfit t = refused (asked ∙ rw (← e, t))

    module _ (t : f ≡ true) where
      sound-is : sound d ≡ true
      sound-is = and_left (sound d) (fitting d b) (sym e ∙ t)

      sizes : (length vs ≡ total_of d) × (length cs ≡ total_of d)
      unfolding fitting
      sizes = of-true (and_r (eqb-r (length vs) (total_of d)) (eqb-r (length cs) (total_of d))) (and_right (sound d) (fitting d b) (sym e ∙ t))

      module _ {g : Bool} (h : g ≡ (is_relation d r && is_level d l)) where
        pub place-nowhere : g ≡ false → Places d bytes b b false
        place-nowhere u = refused (asked ∙ rw (← e, t, ← h, u))

        module _ (u : g ≡ true) where
          relation-is : is_relation d r ≡ true
          relation-is = and_left (is_relation d r) (is_level d l) (sym h ∙ u)

          level-is : l < d.levels
          unfolding is_level
          level-is = ltb-true l d.levels (and_right (is_relation d r) (is_level d l) (sym h ∙ u))

          -- what a relation's numbers are laid out from
          pub described : (sound d ≡ true) × (is_relation d r ≡ true)
          described = (sound-is, relation-is)

          -- what is told of the buffers and the level
          pub standing : Lent d (length vs) (length cs) × InLevel d r l
          standing = (record { values = sizes.0; classes = sizes.1 }, in-level d sound-is r relation-is l level-is)

          module _ {start rows columns : ℕ} (L : Laid d r start rows columns) where
            asked-shape : placeable d b bytes ≡ ((eqb (length bytes) (8 + 6 * columns) && small_classes columns bytes) && room)
            asked-shape = asked ∙ rw (← e, t, ← h, u, L.columns)

            pub place-miscounted : length bytes ≢ 8 + 6 * columns → Places d bytes b b false
            place-miscounted n = refused (asked-shape ∙ rw (ne_eqb (length bytes) (8 + 6 * columns) n))

            module _ (n : length bytes ≡ 8 + 6 * columns) {s : Bool} (k : s ≡ small_classes columns bytes) where
              asked-room : placeable d b bytes ≡ (s && room)
              asked-room = asked-shape ∙ rw (eq-eqb (length bytes) (8 + 6 * columns) n, k)

              pub place-large : s ≡ false → Places d bytes b b false
              place-large v = refused (asked-room ∙ rw v)

              module _ (v : s ≡ true) where
                asked-row : placeable d b bytes ≡ room
                asked-row = asked-room ∙ rw v

                pub place-full : None ≡ some_below (row_count d r) (lowest_empty d (S l).rows r) → Places d bytes b b false
                place-full q = refused (asked-row ∙ le-ltb (lowest_empty d (S l).rows r) (row_count d r) (none-below _ _ q))

                -- the row is stored
                module _ {row : ℕ} (q : Some row ≡ some_below (row_count d r) (lowest_empty d (S l).rows r)) {news owners : List ℕ}
                    (F : Filled columns (λ k. (row_read bytes k).value) news) (G : Filled columns (λ k. (row_read bytes k).class) owners) where
                  row_is : (k : ℕ) → 0 < k → k ≤ column_count d r → listed_row news owners k ≡ row_read bytes k
                  unfolding listed_row row_read
                  row_is k z m = ap₂ cell (F.right k z (rw L.columns m)) (G.right k z (rw L.columns m))

                  tables-are : change_level l (with_row (column_count d r) r row (listed_row news owners)) S ≡ with_placed d S bytes
                  unfolding with_placed
                  tables-are =
                      rw (← x, ← y, ← (some-below _ _ q).0)
                      (row_as l (column_count d r) r row (listed_row news owners) (row_read bytes) S row_is)

                  pub place-done : {us ds : List ℕ} → state_of d (holding us ds) ≡ change_level l (with_row (column_count d r) r row (listed_row news owners)) S
                      → length us ≡ length vs → length ds ≡ length cs → Places d bytes b (holding us ds) true
                  unfolding placed fitting
                  place-done {us} {ds} w i j =
                      let yes : placeable d b bytes ≡ true = asked-row ∙ lt-ltb (lowest_empty d (S l).rows r) (row_count d r) (some-below _ _ q).1 in
                      let fit : fitting d (holding us ds) ≡ true =
                      is_true (and_r (eqb-r (length us) (total_of d)) (eqb-r (length ds) (total_of d))) (i ∙ sizes.0, j ∙ sizes.1) in
                      record { done-is = sym yes; left_is = rw yes (sym (buffers-state d (holding us ds) fit) ∙ ap (buffers_of d) (w ∙ tables-are)) }
