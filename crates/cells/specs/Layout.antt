-- What the functions on cells are told: where a relation's cells stand, which cell, row or level is meant, and that the buffers fit.
-- Assumes nothing: these are statements.
use Rattle.std.specs.Prelude.{ℕ, suc, ◌<◌, ◌≡◌, Option}
use Rattle.bounded.specs.Bounded.{some_below}
use Rattle.model.specs.declared.Description.{Description}
use Rattle.model.specs.Description.{column_count, row_count, total_of}
use Rattle.model.specs.Buffers.{position_of}

-- p is where the cell stands
pub record Placed (d : Description) (r l i k p : ℕ) : Type 0 where
  pub is : p ≡ position_of d r l i k
  pub below : p < total_of d

-- a level of relation r, which has a key, and a row of it
pub record InLevel (d : Description) (r l : ℕ) : Type 0 where
  pub relation : r < suc d.relations
  pub level : l < d.levels
  pub keyed : 0 < column_count d r

pub record InRow (d : Description) (r l i : ℕ) : Type 0 where
  pub level : InLevel d r l
  pub row : i < row_count d r

-- a buffer is as long as there are cells
abbrev pub Sized : Description → ℕ → Type 0
Sized d n = n ≡ total_of d

-- the same of both buffers
pub record Lent (d : Description) (m n : ℕ) : Type 0 where
  pub values : m ≡ total_of d
  pub classes : n ≡ total_of d

-- the row that a search came to, none where it came to the number of rows
abbrev pub Row : Description → ℕ → ℕ → Option ℕ → Type 0
Row d r found row = row ≡ some_below (row_count d r) found
