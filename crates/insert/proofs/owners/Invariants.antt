use Prim.Native.Nat.{◌-◌}
use Rattle.model.specs.Insert.{new_row}
use Rattle.change.specs.Facts.{Filled}
use Rattle.insert.proofs.owners.Given as goal

abbrev pub invariant-loop-column : goal.invariant-loop-column
invariant-loop-column l = Filled (l.column - 1) (λ k. (new_row l.columns.levels.description l.level l.columns.relation l.list k).class) l.owners
