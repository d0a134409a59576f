use native.Mathlib.Omega.{arith}
use Rattle.lines.specs.Lines.{answer_line}
use Rattle.lines.proofs.Writing.{writes_on, writes-within}
use Rattle.lines.proofs.line.Goals as goal

pub returns : goal.returns
unfolding answer_line
returns c = rw (← c.kind.ensures, ← c.number.ensures, ← c.count.ensures)
    (writes-within 128 (omega arith) (writes_on c.head.ensures (writes_on c.spaced.ensures (writes_on c.spaced-2.ensures c.put.ensures))))
