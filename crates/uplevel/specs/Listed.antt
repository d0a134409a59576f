-- What is known of UPLEVEL's list.
-- Assumes nothing: these are statements.
use Rattle.std.specs.Prelude.{◌≡◌, true, ◌&&◌, List, ℕ}
use Rattle.model.specs.declared.Description.{Description}
use Rattle.model.specs.Description.{is_level, over, is_column}
use Rattle.model.specs.Listed.{each}

-- every column of the list exists, and the subject sees its FROM levels
pub record Listing (d : Description) (r c : ℕ) (list : List ℕ) : Type 0 where
  pub columns : each (λ k a. is_column d r k && is_level d a) list ≡ true
  pub seen : each (λ k a. over d c a) list ≡ true
