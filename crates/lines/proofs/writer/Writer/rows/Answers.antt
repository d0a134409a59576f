use Rattle.lines.proofs.Writing.{writes-none, writes-more}
use Rattle.lines.proofs.writer.Writer.rows.Goals as goal

-- The invariant: the lines of the rows that were passed are written.

pub loop-i-init : goal.loop-i-init
loop-i-init c = writes-none _ _

pub loop-i-preserved : goal.loop-i-preserved
loop-i-preserved c = writes-more _ _ _ c.loop-i.invariant c.row.ensures
