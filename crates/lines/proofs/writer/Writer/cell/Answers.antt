use Rattle.lines.specs.Lines.{cell_text}
use Rattle.lines.proofs.Writing.{writes_on}
use Rattle.lines.proofs.writer.Writer.cell.Goals as goal

pub returns : goal.returns
unfolding cell_text
returns c = writes_on c.spaced.ensures (writes_on c.put.ensures c.class.ensures)
