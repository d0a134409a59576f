use Rattle.std.proofs.Common.{◌*◌, ◌+◌, get_or}
use Rattle.bounded.specs.Lists.{concat_below}
use Rattle.lines.specs.Writes.{Writes}
use Rattle.lines.specs.Lines.{cell_text}
use Rattle.lines.proofs.writer.Writer.cells.Given as goal

abbrev pub invariant-loop-k : goal.invariant-loop-k
invariant-loop-k l = Writes (42 * l.k) (concat_below l.k (λ j. cell_text (get_or l.rows.shown.now (l.values + j) 0) (get_or l.rows.owners.now (l.classes + j) 0))) l.initial.self l.self
