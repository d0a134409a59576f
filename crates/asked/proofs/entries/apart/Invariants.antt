use mathlib.Core.Bool.{true, not}
use mathlib.Core.Path.{◌≡◌}
use lib.Dec.{eqb}
use Rattle.bounded.specs.Bounded.{all_below}
use Rattle.asked.specs.Facts.{first_of}
use Rattle.asked.proofs.entries.apart.Given as goal

abbrev pub invariant-loop-before : goal.invariant-loop-before
invariant-loop-before g l =
    all_below l.before-index (λ j. not (eqb (first_of l.entries l.i) (first_of l.entries j))) ≡ true
