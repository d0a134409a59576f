use Rattle.lines.proofs.Writing.{writes_on}
use Rattle.lines.proofs.writer.Writer.head.Goals as goal

pub returns : goal.returns
returns c = writes_on c.put.ensures c.spaced.ensures
