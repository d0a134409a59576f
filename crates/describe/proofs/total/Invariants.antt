use Rattle.std.proofs.Common.{◌≡◌, ◌*◌, ◌≤◌}
use Rattle.bounded.specs.Bounded.{sum_below}
use Rattle.model.specs.Description.{size_of}
use Rattle.describe.proofs.total.Given as goal

abbrev pub invariant-loop-r : goal.invariant-loop-r
invariant-loop-r l = (l.sum ≡ sum_below l.r (size_of l.d)) × (l.sum ≤ l.r * (65535 * 65535 * 65535))
