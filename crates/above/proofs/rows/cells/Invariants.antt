use Prim.Native.Nat.{pred}
use mathlib.Core.Path.{◌≡◌}
use lib.ListN.{length}
use Rattle.model.specs.Buffers.{holding, state_of}
use Rattle.cells.specs.Changed.{with_row}
use Rattle.cells.specs.Stored.{LevelBecomes}
use Rattle.above.specs.Facts.{turned}
use Rattle.above.proofs.rows.cells.Given as goal

abbrev pub invariant-loop-column : goal.invariant-loop-column
invariant-loop-column l =
    (length l.values ≡ length l.initial.values)
    × (length l.classes ≡ length l.initial.classes)
    × LevelBecomes
    l.part.description l.level
    (with_row (pred l.column) l.part.relation l.row (λ k. turned l.plan.changes l.subject k ((state_of l.part.description (holding l.initial.values l.initial.classes) l.level).rows l.part.relation l.row k)))
    l.initial.values l.initial.classes l.values l.classes
