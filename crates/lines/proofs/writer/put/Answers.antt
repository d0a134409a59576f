use Rattle.lines.proofs.Writing.{wrote-in, wrote-out}
use Rattle.lines.proofs.writer.put.Goals as goal
use Rattle.lines.proofs.writer.put.Goals.{then-at-text, else-at-text}

pub returns : goal.returns
returns c = elim c.if-at-text.branch [ then-at-text w ↦ rw w.text-is (wrote-in _ _ _) | else-at-text w ↦ rw w.text-is (wrote-out _ _ _ w.if-at-text.false) ]
