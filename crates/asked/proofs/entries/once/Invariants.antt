use mathlib.Core.Bool.{true, not}
use mathlib.Core.Path.{◌≡◌}
use lib.Dec.{eqb}
use Rattle.bounded.specs.Bounded.{all_below}
use Rattle.asked.specs.Facts.{first_of}
use Rattle.asked.proofs.entries.once.Given as goal

abbrev pub invariant-loop-i : goal.invariant-loop-i
invariant-loop-i g l =
    all_below l.i (λ k. all_below k (λ j. not (eqb (first_of l.entries k) (first_of l.entries j)))) ≡ true
