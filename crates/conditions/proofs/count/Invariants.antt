use Prim.Native.Nat.{◌≤◌}
use mathlib.Core.Bool.{false}
use mathlib.Core.Path.{◌≡◌}
use lib.ListN.{get_or}
use Rattle.bounded.specs.Bounded.{count_below}
use Rattle.conditions.proofs.count.Given as goal

abbrev pub invariant-loop-row : goal.invariant-loop-row
invariant-loop-row l =
    (l.count ≤ l.row) × (l.count ≡ count_below l.row (λ i. get_or l.chosen i false))
