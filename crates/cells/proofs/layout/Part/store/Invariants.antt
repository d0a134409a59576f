use Prim.Native.Nat.{pred}
use mathlib.Core.Path.{◌≡◌}
use lib.ListN.{length}
use Rattle.model.specs.Buffers.{holding, state_of}
use Rattle.cells.specs.Changed.{with_row, change_level, listed_row}
use Rattle.cells.proofs.layout.Part.store.Given as goal

abbrev pub invariant-loop-column : goal.invariant-loop-column
invariant-loop-column l =
    (length l.values ≡ length l.initial.values)
    × (length l.classes ≡ length l.initial.classes)
    × (state_of l.self.description (holding l.values l.classes) ≡ change_level l.level (with_row (pred l.column) l.self.relation l.row (listed_row l.news l.owners)) (state_of l.self.description (holding l.initial.values l.initial.classes)))
