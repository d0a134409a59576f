use mathlib.Core.Bool.{true}
use mathlib.Core.Path.{◌≡◌}
use Rattle.bounded.specs.Bounded.{all_below}
use Rattle.keys.specs.Facts.{first_of, Noted, Kept}
use Rattle.keys.proofs.distinct.Given as goal

abbrev pub invariant-loop-i : goal.invariant-loop-i
invariant-loop-i l =
    (all_below l.i (first_of l.keys l.from) ≡ true) × Noted l.keys l.from l.i × Kept l.initial.keys l.keys
