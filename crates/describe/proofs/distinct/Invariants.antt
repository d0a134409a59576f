use Rattle.std.proofs.Common.{◌≡◌, true, get_or}
use Rattle.model.specs.Description.{distinct_below}
use Rattle.describe.proofs.distinct.Given as goal

abbrev pub invariant-loop-i : goal.invariant-loop-i
invariant-loop-i l = distinct_below l.i (λ k. get_or l.labels k 0) ≡ true
