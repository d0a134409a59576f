use Rattle.keys.specs.Facts.{Ranges}
use Rattle.keys.proofs.words.ranges.Given as goal

abbrev pub invariant-loop-p : goal.invariant-loop-p
invariant-loop-p l =
    Ranges l.d l.p l.ranges
