use native.Mathlib.Omega.{arith}
use Rattle.lines.proofs.Writing.{wrote-one, wrote-digit}
use Rattle.lines.proofs.writer.+decimal.Goals as goal
use Rattle.lines.proofs.writer.+decimal.Goals.{then-number-lt10, else-number-lt10}

pub returns : goal.returns
returns t c = elim c.if-number-lt10.branch [
  | then-number-lt10 w ↦ wrote-one c.args.number w.if-number-lt10.true c.digit.ensures (rw (w.text-is, w.last-is) at c.put.ensures)
  | else-number-lt10 w ↦ wrote-digit c.args.number w.if-number-lt10.false (omega arith) w.decimal-last.ensures.0 c.digit.ensures (rw (w.text-is, w.last-is) at c.put.ensures)
]
