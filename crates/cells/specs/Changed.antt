-- Tables with one thing changed, and what a buffer holds for a cell.
-- Assumes nothing: these are definitions.
use Rattle.std.specs.Prelude.{ℕ, ◌&&◌, List, eqb, ltb, get_or, if◌then◌else◌}
use Rattle.bounded.specs.Bounded.{first_below}
use Rattle.model.specs.declared.Description.{Description}
use Rattle.model.specs.Description.{between, row_count}
use Rattle.model.specs.Tables.{Cell, Row, cell, Level, State}
use Rattle.model.specs.Buffers.{inside, position_of}

-- what a buffer holds for a cell, and what it would hold for an empty one outside
unfoldable pub number_at : ℕ → Description → List ℕ → ℕ → ℕ → ℕ → ℕ → ℕ
number_at empty d numbers r l i k = if inside d r l i k then get_or numbers (position_of d r l i k) 0 else empty

abbrev pub value_at : Description → List ℕ → ℕ → ℕ → ℕ → ℕ → ℕ
value_at = number_at 0

abbrev pub class_at : Description → List ℕ → ℕ → ℕ → ℕ → ℕ → ℕ
class_at = number_at 255

-- the first row with key v, the number of rows where there is none
unfoldable pub key_place : Description → List ℕ → ℕ → ℕ → ℕ → ℕ
key_place d values r l v = first_below (row_count d r) (λ i. eqb (value_at d values r l i 1) v)

-- the row of the entity with key v and key class c, the number of rows where there is none
unfoldable pub entity_place : Description → List ℕ → List ℕ → ℕ → ℕ → ℕ → ℕ → ℕ
entity_place d values classes r l v c =
    let i = key_place d values r l v in
    if ltb i (row_count d r) && eqb (class_at d classes r l i 1) c then i else row_count d r

-- the row whose cells two lists have, by column
unfoldable pub listed_row : List ℕ → List ℕ → Row
listed_row values classes k = cell (get_or values k 0) (get_or classes k 0)

-- a level with one cell changed
unfoldable pub with_cell : ℕ → ℕ → ℕ → Cell → Level → Level
with_cell r i k x B = record { rows = λ s j m. if eqb r s && (eqb i j && eqb k m) then x else B.rows s j m }

-- a level with one cell's value changed, its class kept
unfoldable pub with_value : ℕ → ℕ → ℕ → ℕ → Level → Level
with_value r i k v B = record { rows = λ s j m. if eqb r s && (eqb i j && eqb k m) then cell v (B.rows s j m).class else B.rows s j m }

-- a level with the first n cells of one row as R has them
unfoldable pub with_row : ℕ → ℕ → ℕ → Row → Level → Level
with_row n r i R B = record { rows = λ s j m. if eqb r s && (eqb i j && between 1 n m) then R m else B.rows s j m }

-- tables with one level changed
unfoldable pub change_level : ℕ → (Level → Level) → State → State
change_level l f S m = if eqb l m then f (S m) else S m
