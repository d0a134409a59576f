use mathlib.Core.Path.{◌≡◌}
use lib.ListN.{length}
use Rattle.model.specs.Tables.{norow}
use Rattle.chosen.specs.Choosing.{RowsDoneBelow}
use Rattle.delete.proofs.Rows.clear.Given as goal

abbrev pub invariant-loop-row : goal.invariant-loop-row
invariant-loop-row l =
    (length l.values ≡ length l.initial.values)
    × (length l.classes ≡ length l.initial.classes)
    × RowsDoneBelow l.row l.self.table.part.description l.self.table.part.relation l.self.level l.self.chosen (λ R. norow) l.initial.values l.initial.classes l.values l.classes
