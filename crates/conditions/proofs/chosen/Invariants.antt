use Rattle.model.specs.Description.{row_count}
use Rattle.model.specs.Buffers.{holding, state_of}
use Rattle.conditions.specs.Facts.{ChosenBy}
use Rattle.conditions.proofs.Choosing.{met_by}
use Rattle.conditions.proofs.chosen.Given as goal

abbrev pub invariant-loop-condition : goal.invariant-loop-condition
invariant-loop-condition l = let d = l.part.description in
    ChosenBy (row_count d l.part.relation) (met_by d l.conditions ((state_of d (holding l.values l.classes) l.level).rows l.part.relation) l.condition-index) l.chosen
