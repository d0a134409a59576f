use mathlib.Core.List.{◌++◌}
use Rattle.bounded.specs.Lists.{concat_below}
use Rattle.select.specs.Facts.{level_at, held, Holds}
use Rattle.select.proofs.high.Given as goal

abbrev pub invariant-loop-level : goal.invariant-loop-level
invariant-loop-level l =
    Holds (held l.initial.found ++ concat_below l.level (level_at l.d l.subject l.list l.height)) l.found
