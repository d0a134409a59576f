use mathlib.Core.Path.{◌≡◌}
use lib.ListN.{length}
use Rattle.model.specs.Description.{column_count}
use Rattle.model.specs.Buffers.{holding, state_of}
use Rattle.cells.specs.Stored.{LevelBecomes}
use Rattle.above.specs.Facts.{row_unnamed, with_rows}
use Rattle.above.proofs.references.Referrer.references.Given as goal

abbrev pub invariant-loop-row : goal.invariant-loop-row
invariant-loop-row l =
    (length l.values ≡ length l.initial.values)
    × LevelBecomes
    l.self.part.description l.self.named.level
    (with_rows l.row (column_count l.self.part.description l.self.part.relation) l.self.part.relation (λ i. row_unnamed l.self.part.description l.self.named.part.relation l.plan l.self.named.subject (state_of l.self.part.description (holding l.initial.values l.classes)) l.self.named.level l.self.part.relation ((state_of l.self.part.description (holding l.initial.values l.classes) l.self.named.level).rows l.self.part.relation i)))
    l.initial.values l.classes l.values l.classes
