-- What is known of a description that is being tested.
-- Assumes nothing: these are definitions and statements.
use Rattle.std.specs.Prelude.{◌≡◌, Bool, List, ℕ, suc, ◌≤◌, ◌<◌}
use Rattle.bounded.specs.Bounded.{all_below}
use Rattle.level.specs.Order.{order_of}
use Rattle.model.specs.declared.Description.{Description}
use Rattle.model.specs.Description.{over, column_count, low_of, high_of}

-- where a description's order and relation r are read
pub record Described (d : Description) (order : List (List Bool)) (r : ℕ) : Type 0 where
  pub order_is : order ≡ order_of d.labels d.levels
  pub levels : d.levels ≤ 16
  pub relations : d.relations ≤ 8
  pub least : 0 < r
  pub relation : r ≤ d.relations

-- the range of each column of relation r is one: "L is dominated by H"
abbrev pub ranges_sound : Description → ℕ → Bool
ranges_sound d r = all_below (column_count d r) (λ k. over d (high_of d r (suc k)) (low_of d r (suc k)))
