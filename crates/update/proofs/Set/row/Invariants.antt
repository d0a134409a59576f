use mathlib.Core.Path.{◌≡◌}
use lib.ListN.{length}
use Rattle.chosen.specs.Choosing.{RowDone}
use Rattle.update.proofs.Setting.{set_below}
use Rattle.update.proofs.Set.row.Given as goal

abbrev pub invariant-loop-column : goal.invariant-loop-column
invariant-loop-column l =
    (length l.values ≡ length l.initial.values)
    × (length l.classes ≡ length l.initial.classes)
    × RowDone l.self.table.part.description l.self.table.part.relation l.self.level l.row (set_below l.column-index l.self.level l.self.list.now) l.initial.values l.initial.classes l.values l.classes
