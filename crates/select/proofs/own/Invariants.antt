use Prim.Native.Nat.{suc}
use mathlib.Core.Path.{◌≡◌}
use Rattle.bounded.specs.Lists.{list_below, write_at}
use Rattle.cells.specs.Changed.{class_at}
use Rattle.select.proofs.own.Given as goal

abbrev pub invariant-loop-column : goal.invariant-loop-column
invariant-loop-column l =
    (l.owners ≡ write_at l.at.owners (list_below l.column (λ k. class_at l.part.description l.classes l.part.relation l.level l.row (suc k))) l.initial.owners)
