-- What the functions that store promise of the tables in two lists: vs and cs before, vs' and cs' after.
-- Assumes nothing: these are statements.
use Rattle.std.specs.Prelude.{ℕ, ◌≡◌, List}
use Rattle.model.specs.declared.Description.{Description}
use Rattle.model.specs.Description.{column_count}
use Rattle.model.specs.Tables.{Cell, Row, Level}
use Rattle.model.specs.Buffers.{holding, state_of}
use Rattle.cells.specs.Changed.{with_cell, with_value, with_row, change_level}

-- level l becomes what f makes of it, and every other level stays
abbrev pub LevelBecomes : Description → ℕ → (Level → Level) → List ℕ → List ℕ → List ℕ → List ℕ → Type 0
LevelBecomes d l f vs cs vs' cs' = state_of d (holding vs' cs') ≡ change_level l f (state_of d (holding vs cs))

-- a cell becomes x, and all else stays
abbrev pub CellBecomes : Description → ℕ → ℕ → ℕ → ℕ → Cell → List ℕ → List ℕ → List ℕ → List ℕ → Type 0
CellBecomes d r l i k x = LevelBecomes d l (with_cell r i k x)

-- a cell's value becomes v, and all else stays, whatever the classes are
abbrev pub ValueBecomes : Description → ℕ → ℕ → ℕ → ℕ → ℕ → List ℕ → List ℕ → Type 0
ValueBecomes d r l i k v vs vs' = (cs : List ℕ) → LevelBecomes d l (with_value r i k v) vs cs vs' cs

-- a row becomes R, and all else stays
abbrev pub RowBecomes : Description → ℕ → ℕ → ℕ → Row → List ℕ → List ℕ → List ℕ → List ℕ → Type 0
RowBecomes d r l i R = LevelBecomes d l (with_row (column_count d r) r i R)
