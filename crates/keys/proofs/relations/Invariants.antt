use Prim.Native.Nat.{suc, ◌+◌, ◌*◌}
use mathlib.Core.Bool.{true}
use mathlib.Core.Path.{◌≡◌}
use Rattle.bounded.specs.Bounded.{all_below}
use Rattle.model.specs.Description.{row_count, start_of}
use Rattle.keys.specs.Facts.{first_of, Kept}
use Rattle.keys.proofs.relations.Given as goal

abbrev pub invariant-loop-r : goal.invariant-loop-r
invariant-loop-r l =
    (all_below l.r (λ q. all_below l.d.levels (λ m. all_below (row_count l.d (suc q)) (first_of l.initial.keys (start_of l.d (suc q) + m * row_count l.d (suc q))))) ≡ true) × Kept l.initial.keys l.keys
