-- What the register's functions know once the tables are judged.
-- Assumes nothing: these are statements.
use Rattle.std.specs.Prelude.{◌≡◌, true, List, ℕ}
use Rattle.model.specs.declared.Description.{Description}
use Rattle.model.specs.Description.{sound}
use Rattle.model.specs.Buffers.{holding, fitting, state_of}
use Rattle.model.specs.Judge.{legal}

-- a sound description, and legal tables in two buffers
pub record Judged (d : Description) (values classes : List ℕ) : Type 0 where
  pub sound-is : sound d ≡ true
  pub fits : fitting d (holding values classes) ≡ true
  pub legal-is : legal d (state_of d (holding values classes)) ≡ true
