use Rattle.keys.specs.Facts.{Gathered}
use Rattle.keys.proofs.gather.Given as goal

abbrev pub invariant-loop-i : goal.invariant-loop-i
invariant-loop-i l =
    Gathered l.values l.initial.keys l.keys l.area.start l.i l.area.cols
