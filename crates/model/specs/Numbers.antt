-- 01's numbers, "Numbers answered": what each fault, answer and verdict is called there.
-- Assumes nothing: these are definitions.
use Rattle.std.specs.Prelude.{ℕ}
use Rattle.model.specs.declared.Fault.{Fault}
use Rattle.model.specs.declared.Fault.TheVariants as Faults
use Rattle.std.specs.Prelude.{Ok, Err}
use Rattle.model.specs.Answers.{Answer, Verdict}

unfoldable pub fault_number : Fault → ℕ
-- "the description breaks a limit, a label or relation is not as above, or L is not dominated by H"
fault_number Faults.Description = 1
-- "a table buffer's length differs from the cell total"
fault_number Faults.Length = 2
-- "tables not legal"
fault_number Faults.Illegal = 3
-- "subject, relation, column, level or test does not exist; a column or AT level listed twice; .."
fault_number Faults.Malformed = 4
-- "a FROM, AT or key class level isn't dominated by c"
fault_number Faults.Unseen = 5
-- "c outside the range of a listed INSERT column or SET column, or FROM level outside its column's range"
fault_number Faults.Range = 6
-- "UPLEVEL: no such entity visible"
fault_number Faults.Absent = 7
-- "UPLEVEL: no key class, several entities visible"
fault_number Faults.Several = 8
-- "INSERT: key present at c; UPLEVEL: another entity has that key at c"
fault_number Faults.Taken = 9
-- "UPLEVEL: FROM level does not dominate the key class"
fault_number Faults.KeyClass = 10
-- "INSERT, UPDATE with a row met, UPLEVEL: non-null reference and no row with that key at c"
fault_number Faults.Reference = 11
-- "DELETE: a row at c refers to a row to be emptied"
fault_number Faults.Referred = 12
-- "a new row is needed and none is empty"
fault_number Faults.Full = 13
-- "SELECT: an output buffer is shorter than the rows found fill"
fault_number Faults.Short = 14

unfoldable pub answer_number : Answer → ℕ
-- "done"
answer_number (Ok count) = 0
answer_number (Err fault) = fault_number fault

unfoldable pub count_of : Answer → ℕ
count_of (Ok count) = count
-- "Each refusal has count 0"
count_of (Err fault) = 0

-- "a judge of tables (0 for legal, else the least of 1 to 3)"
unfoldable pub verdict_number : Verdict → ℕ
verdict_number (Ok legal) = 0
verdict_number (Err fault) = fault_number fault
