use Prim.Native.Nat.{◌^◌}
use native.Mathlib.Omega.{arith}
use Rattle.lines.specs.Lines.{row_line}
use Rattle.lines.proofs.Writing.{writes_on, writes-within}
use Rattle.lines.proofs.writer.Writer.row.Goals as goal

pub returns : goal.returns
unfolding row_line
returns c = writes-within (2 ^ 22) (omega arith) (writes_on (rw c.number-owner.ensures at c.head.ensures) (writes_on c.cells.ensures c.put.ensures))
