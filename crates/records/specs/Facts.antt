-- What the functions of a statement promise.
-- Assumes nothing: these are definitions.
use Rattle.std.specs.Prelude.{ℕ, ◌≡◌, List, length, Result}
use Rattle.bounded.specs.Lists.{write_at}
use Rattle.records.specs.declared.Read.{Read}
use Rattle.records.specs.Statements.{read_of, list_read, conditions_read}

-- numbers stand at the front of what is lent, and this is how many they are
pub record Filled (numbers lent lent' : List ℕ) (count : ℕ) : Type 0 where
  pub count-is : count ≡ length numbers
  pub lent_is : lent' ≡ write_at 0 numbers lent

-- what a record is read to, and what both lent lists hold afterwards
pub record Reading (bytes : List ℕ) (number : ℕ) (list list' conditions conditions' : List ℕ) (answer : Result Read ℕ) : Type 0 where
  pub answer-is : answer ≡ read_of bytes number
  pub list-is : list' ≡ write_at 0 (list_read bytes) list
  pub conditions-is : conditions' ≡ write_at 0 (conditions_read bytes) conditions
