-- What it means that a test says whether a fact holds.
-- Assumes nothing: these are definitions.
use Rattle.std.specs.Prelude.{Bool, true, false}

-- the test b is true exactly where P holds
pub data Reflects (P : Type 0) : Bool → Type 0 where
  holds : P → Reflects P true
  fails : (P → ⊥) → Reflects P false
