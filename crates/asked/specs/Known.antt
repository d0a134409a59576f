-- What is known of a description's levels and of a relation's columns.
-- Assumes nothing: these are statements.
use Rattle.std.specs.Prelude.{◌≡◌, Bool, List, ℕ, ◌≤◌}
use Rattle.level.specs.Order.{order_of}
use Rattle.model.specs.declared.Description.{Description}
use Rattle.model.specs.Description.{column_count}

-- the order is the description's
pub record Ordered (d : Description) (order : List (List Bool)) : Type 0 where
  pub order_is : order ≡ order_of d.labels d.levels
  pub few : d.levels ≤ 16

-- a relation and the number of its columns
pub record Related (d : Description) (r columns : ℕ) : Type 0 where
  pub relation : r ≤ 8
  pub is : columns ≡ column_count d r
  pub narrow : columns ≤ 8
