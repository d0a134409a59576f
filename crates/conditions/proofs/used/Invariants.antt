use Rattle.conditions.specs.Facts.{ChosenBy, used_row}
use Rattle.conditions.proofs.used.Given as goal

abbrev pub invariant-loop-row : goal.invariant-loop-row
invariant-loop-row l =
    ChosenBy l.row (used_row l.part.description l.values l.part.relation l.level) l.chosen
