use Prim.Native.Nat.{suc}
use mathlib.Core.Path.{◌≡◌}
use Rattle.bounded.specs.Lists.{list_below, write_at}
use Rattle.cells.specs.Changed.{value_at}
use Rattle.select.proofs.copy.Given as goal

abbrev pub invariant-loop-column : goal.invariant-loop-column
invariant-loop-column l =
    (l.shown ≡ write_at l.at.values (list_below l.column (λ k. value_at l.part.description l.values l.part.relation l.level l.row (suc k))) l.initial.shown)
