use mathlib.Core.Path.{◌≡◌}
use lib.ListN.{length}
use Rattle.model.specs.Update.{set_in}
use Rattle.chosen.specs.Choosing.{RowsDoneBelow}
use Rattle.update.proofs.Set.rows.Given as goal

abbrev pub invariant-loop-row : goal.invariant-loop-row
invariant-loop-row l =
    (length l.values ≡ length l.initial.values)
    × (length l.classes ≡ length l.initial.classes)
    × RowsDoneBelow l.row l.self.table.part.description l.self.table.part.relation l.self.level l.chosen (set_in l.self.level l.self.list.now) l.initial.values l.initial.classes l.values l.classes
