use Rattle.std.proofs.Common.{rules}
use Rattle.lines.specs.Lines.{refusal_text}
use Rattle.lines.proofs.Writing.{writes_on}
use Rattle.lines.proofs.refusal.Goals as goal

pub returns : goal.returns
unfolding refusal_text
returns c = let w = writes_on c.head.ensures c.put.ensures in search (rules, w.wrote, w.same)
