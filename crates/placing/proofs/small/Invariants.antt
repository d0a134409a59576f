use mathlib.Core.Path.{◌≡◌}
use mathlib.Core.Bool.{true}
use Rattle.placing.specs.Placing.{small_classes}
use Rattle.placing.proofs.small.Given as goal

abbrev pub invariant-loop-k : goal.invariant-loop-k
invariant-loop-k l =
    (small_classes l.k l.bytes ≡ true)
