use mathlib.Core.Path.{◌≡◌}
use lib.ListN.{length}
use Rattle.model.specs.Description.{row_count, column_count}
use Rattle.model.specs.Buffers.{holding, state_of}
use Rattle.cells.specs.Stored.{LevelBecomes}
use Rattle.above.specs.Facts.{row_after, with_rows}
use Rattle.above.proofs.reach.Reached.rows.Given as goal

abbrev pub invariant-loop-row : goal.invariant-loop-row
invariant-loop-row l =
    (length l.values ≡ length l.initial.values)
    × (length l.classes ≡ length l.initial.classes)
    × LevelBecomes
    l.self.part.description l.self.level
    (with_rows l.row (column_count l.self.part.description l.self.part.relation) l.self.part.relation (λ j. row_after (row_count l.self.part.description l.self.part.relation) l.plan l.self.subject ((state_of l.self.part.description (holding l.initial.values l.initial.classes) l.self.subject).rows l.self.part.relation) ((state_of l.self.part.description (holding l.initial.values l.initial.classes) l.self.level).rows l.self.part.relation j)))
    l.initial.values l.initial.classes l.values l.classes
