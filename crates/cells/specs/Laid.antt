-- What the numbers of a relation are.
-- Assumes nothing: these are statements.
use Rattle.std.specs.Prelude.{ℕ, ◌≤◌, ◌≡◌}
use Rattle.model.specs.declared.Description.{Description}
use Rattle.model.specs.Description.{column_count, row_count, start_of, total_of}

-- the cells of relation r begin at s; it has n rows at each level and k columns
pub record Laid (d : Description) (r s n k : ℕ) : Type 0 where
  pub start : s ≡ start_of d r
  pub rows : n ≡ row_count d r
  pub columns : k ≡ column_count d r
  pub few : n ≤ 64
  pub narrow : k ≤ 8
  pub total : total_of d ≤ 8192

-- n is a number of the description, which is at most `most`
pub record Count (number most n : ℕ) : Type 0 where
  pub is : n ≡ number
  pub few : n ≤ most
