use Rattle.lines.proofs.Writing.{writes-none, writes-more}
use Rattle.lines.proofs.writer.Writer.cells.Goals as goal

-- The invariant: the cells of the columns that were passed are written.

pub loop-k-init : goal.loop-k-init
loop-k-init c = writes-none _ _

pub loop-k-preserved : goal.loop-k-preserved
loop-k-preserved c = writes-more _ _ _ c.loop-k.invariant (rw (← c.number-value.ensures, ← c.number-class.ensures) c.cell.ensures)
