use Prim.Native.Nat.{◌≤◌}
use Rattle.keys.specs.Facts.{has_key}
use Rattle.keys.proofs.Sought.{Sought}
use Rattle.keys.proofs.search.Given as goal

abbrev pub invariant-loop-i : goal.invariant-loop-i
invariant-loop-i l =
    (l.found ≤ l.i) × Sought l.i (has_key l.keys l.from l.key) l.found
