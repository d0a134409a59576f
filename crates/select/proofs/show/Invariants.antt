use Rattle.bounded.specs.Lists.{concat_below}
use Rattle.model.specs.Buffers.{holding, state_of}
use Rattle.select.specs.Facts.{Wrote}
use Rattle.select.proofs.Found.{row_found}
use Rattle.select.proofs.show.Given as goal

abbrev pub invariant-loop-row : goal.invariant-loop-row
invariant-loop-row l =
    Wrote (concat_below l.row (row_found l.part.description l.part.relation l.conditions (state_of l.part.description (holding l.values l.classes)) l.level)) l.initial.at l.at l.initial.shown l.initial.owners l.shown l.owners
