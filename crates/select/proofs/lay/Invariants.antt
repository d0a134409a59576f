use Rattle.bounded.specs.Lists.{concat_below}
use Rattle.select.specs.Facts.{levels_at, Holds}
use Rattle.select.proofs.lay.Given as goal

abbrev pub invariant-loop-height : goal.invariant-loop-height
invariant-loop-height l =
    Holds (concat_below l.height (levels_at l.d l.subject l.list)) l.found
