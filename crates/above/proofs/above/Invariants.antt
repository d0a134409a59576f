use mathlib.Core.Path.{◌≡◌}
use lib.ListN.{length}
use Rattle.model.specs.Buffers.{holding, state_of}
use Rattle.above.specs.Facts.{carried_below}
use Rattle.above.proofs.above.Given as goal

abbrev pub invariant-loop-level : goal.invariant-loop-level
invariant-loop-level l =
    (length l.values ≡ length l.initial.values)
    × (length l.classes ≡ length l.initial.classes)
    × (state_of l.table.part.description (holding l.values l.classes) ≡ carried_below l.level l.table.part.description l.subject l.table.part.relation l.plan (state_of l.table.part.description (holding l.initial.values l.initial.classes)))
