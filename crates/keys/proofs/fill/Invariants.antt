use Rattle.keys.specs.Facts.{Keyed}
use Rattle.keys.proofs.fill.Given as goal

abbrev pub invariant-loop-r : goal.invariant-loop-r
invariant-loop-r l =
    Keyed l.d l.values l.r l.keys
