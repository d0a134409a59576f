-- A row of the tables as they are handed in: a record of kind 3 (01, "mlrun").
-- Assumes nothing: these are definitions and statements.
use Rattle.std.specs.Prelude.{ℕ, pred, ◌+◌, ◌*◌, ◌≡◌, Bool, ◌&&◌, List, eqb, leb, length, if◌then◌else◌}
use Rattle.bounded.specs.Bounded.{all_below}
use Rattle.model.specs.declared.Description.{Description}
use Rattle.model.specs.Description.{is_level, is_relation, column_count, sound}
use Rattle.model.specs.Tables.{Row, cell, State}
use Rattle.model.specs.Buffers.{Buffers, fitting, state_of, buffers_of}
use Rattle.model.specs.Effect.{lowest_empty, has_room}
use Rattle.cells.specs.Changed.{with_row, change_level}
use Rattle.records.specs.Bytes.{pair, quad}

-- "3: relation, level, then value, class per cell"
abbrev pub relation : List ℕ → ℕ
relation bytes = pair bytes 4

abbrev pub level : List ℕ → ℕ
level bytes = pair bytes 6

-- the row, by column
unfoldable pub row_read : List ℕ → Row
row_read bytes k = cell (quad bytes (8 + 6 * pred k)) (pair bytes (12 + 6 * pred k))

-- no "class over 255" among the first n cells
unfoldable pub small_classes : ℕ → List ℕ → Bool
small_classes n bytes = all_below n (λ k. leb (pair bytes (12 + 6 * k)) 255)

-- it has as many cells as the relation has columns, and no such class
unfoldable pub well_shaped : Description → List ℕ → Bool
well_shaped d bytes =
    eqb (length bytes) (8 + 6 * column_count d (relation bytes)) && small_classes (column_count d (relation bytes)) bytes

-- "On a description that breaks a rule no row can be placed", nor where there is "no such place", with a "wrong cell count" or a "class
-- over 255"
unfoldable pub placeable : Description → Buffers → List ℕ → Bool
placeable d b bytes =
    sound d && (fitting d b && (is_relation d (relation bytes) && (is_level d (level bytes)
    && (well_shaped d bytes && has_room d (state_of d b (level bytes)).rows (relation bytes)))))

-- the tables with the row in them: it "goes to the lowest empty row"
unfoldable pub with_placed : Description → State → List ℕ → State
with_placed d S bytes =
    change_level (level bytes)
    (with_row (column_count d (relation bytes)) (relation bytes) (lowest_empty d (S (level bytes)).rows (relation bytes)) (row_read bytes))
    S

-- what a record of kind 3 leaves in the buffers
unfoldable pub placed : Description → Buffers → List ℕ → Buffers
placed d b bytes = if placeable d b bytes then buffers_of d (with_placed d (state_of d b) bytes) else b

-- whether the row was placed, and the buffers after it
pub record Places (d : Description) (bytes : List ℕ) (b b' : Buffers) (done : Bool) : Type 0 where
  pub done-is : done ≡ placeable d b bytes
  pub left_is : b' ≡ placed d b bytes
