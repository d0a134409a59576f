use Rattle.std.proofs.Common.{◌*◌, ◌^◌}
use Rattle.bounded.specs.Lists.{concat_below}
use Rattle.lines.specs.Writes.{Writes}
use Rattle.lines.specs.Lines.{row_line}
use Rattle.lines.proofs.writer.Writer.rows.Given as goal

abbrev pub invariant-loop-i : goal.invariant-loop-i
invariant-loop-i l = Writes (2 ^ 22 * l.i) (concat_below l.i (row_line l.rows.columns l.rows.shown.now l.rows.owners.now)) l.initial.self l.self
