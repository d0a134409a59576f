use Prim.Native.Nat.{◌-◌}
use Rattle.change.specs.Facts.{Filled, value_listed}
use Rattle.insert.proofs.news.Given as goal

abbrev pub invariant-loop-column : goal.invariant-loop-column
invariant-loop-column l = Filled (l.column - 1) (value_listed l.list) l.news
