-- How a statement's tests end.
-- Assumes nothing: these are definitions.
use Rattle.std.specs.Prelude.{Bool, List, Result, ⊤}
use Rattle.std.proofs.Math.Option.{Option, none, some}
use Rattle.model.specs.declared.Fault.{Fault}
use Rattle.model.specs.Run.{first_fault}
use Rattle.std.specs.Prelude.{Ok, Err}

-- no test fails, or the fault of the first that does
abbrev pub Test : Type 0
Test = Result ⊤ Fault

-- how tests end of which that is the first that fails
unfoldable pub test_of : Option Fault → Test
test_of none = Ok tt
test_of (some f) = Err f

-- how a list of tests ends
abbrev pub ended : List (Bool × Fault) → Test
ended tests = test_of (first_fault tests)
