use Rattle.model.specs.Buffers.{holding, state_of}
use Rattle.conditions.specs.Facts.{asks, Narrowed}
use Rattle.conditions.proofs.filter.Filter.narrow.Given as goal

abbrev pub invariant-loop-row : goal.invariant-loop-row
invariant-loop-row l = let d = l.self.part.description in
    Narrowed d ((state_of d (holding l.values l.classes) l.level).rows l.self.part.relation) l.row (asks l.self.asked) l.initial.chosen l.chosen
