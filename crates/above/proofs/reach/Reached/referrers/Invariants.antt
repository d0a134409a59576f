use mathlib.Core.Path.{◌≡◌}
use lib.ListN.{length}
use Rattle.model.specs.Buffers.{holding, state_of}
use Rattle.cells.specs.Stored.{LevelBecomes}
use Rattle.above.specs.Facts.{with_referrers}
use Rattle.above.proofs.reach.Reached.referrers.Given as goal

abbrev pub invariant-loop-referrer : goal.invariant-loop-referrer
invariant-loop-referrer l =
    (length l.values ≡ length l.initial.values)
    × LevelBecomes
    l.self.part.description l.self.level
    (with_referrers l.referrer l.self.part.description l.self.part.relation l.plan l.self.subject (state_of l.self.part.description (holding l.initial.values l.classes)) l.self.level)
    l.initial.values l.classes l.values l.classes
