use Rattle.bounded.specs.Lists.{concat_below}
use Rattle.model.specs.Buffers.{holding, state_of}
use Rattle.select.specs.Facts.{level_found, start, Wrote}
use Rattle.select.proofs.write.Given as goal

abbrev pub invariant-loop-next : goal.invariant-loop-next
invariant-loop-next l =
    Wrote (concat_below l.next (level_found l.table.part.description l.table.part.relation l.conditions (state_of l.table.part.description (holding l.values l.classes)) l.laid)) start l.at l.initial.shown l.initial.owners l.shown l.owners
