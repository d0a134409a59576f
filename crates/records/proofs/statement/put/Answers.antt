use native.Mathlib.Omega.{arith}
use Rattle.records.specs.Kinds.{numbers}
use Rattle.records.specs.Statements.{entry_at}
use Rattle.records.proofs.Written.{write-one, write_two, write-four}
use Rattle.records.proofs.statement.put.Goals as goal

-- By what an entry is: its numbers are stored one behind the other.

pub returns-in-Level : goal.returns-in-Level
unfolding entry_at numbers
returns-in-Level c = let h = rw c.in-Level.is at c.requires.1 in
    rw (c.in-Level.is, c.pair.ensures) (write-one 0 _ _ (omega arith))

pub returns-in-Borrow : goal.returns-in-Borrow
unfolding entry_at numbers
returns-in-Borrow c = let h = rw c.in-Borrow.is at c.requires.1 in
    rw (c.in-Borrow.is, c.pair.ensures, c.pair-in-Borrow.ensures) (write_two 0 _ _ _ (omega arith))

pub returns-in-Cell : goal.returns-in-Cell
unfolding entry_at numbers
returns-in-Cell c = let h = rw c.in-Cell.is at c.requires.1 in
    rw (c.in-Cell.is, c.pair.ensures, c.quad.ensures) (write_two 0 _ _ _ (omega arith))

pub returns-in-Condition : goal.returns-in-Condition
unfolding entry_at numbers
returns-in-Condition c = let h = rw c.in-Condition.is at c.requires.1 in
    rw (c.in-Condition.is, c.pair.ensures, c.pair-in-Condition.ensures, c.pair-in-Condition-2.ensures, c.quad-in-Condition.ensures) (write-four 0 _ _ _ _ _ (omega arith))
