use Prim.Native.Nat.{◌+◌, ◌*◌}
use mathlib.Core.Bool.{true}
use mathlib.Core.Path.{◌≡◌}
use Rattle.bounded.specs.Bounded.{all_below}
use Rattle.keys.specs.Facts.{first_of, Kept}
use Rattle.keys.proofs.levels.Given as goal

abbrev pub invariant-loop-l : goal.invariant-loop-l
invariant-loop-l l =
    (all_below l.l (λ m. all_below l.area.rows (first_of l.initial.keys (l.area.start + m * l.area.rows))) ≡ true) × Kept l.initial.keys l.keys
