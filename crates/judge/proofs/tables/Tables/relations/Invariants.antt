use Prim.Native.Nat.{suc}
use mathlib.Core.Bool.{true}
use mathlib.Core.Path.{◌≡◌}
use Rattle.bounded.specs.Bounded.{all_below}
use Rattle.judge.specs.Facts.{relation_right}
use Rattle.judge.specs.Views.{tables_of}
use Rattle.judge.proofs.tables.Tables.relations.Given as goal

abbrev pub invariant-loop-r : goal.invariant-loop-r
invariant-loop-r l = all_below l.r (λ q. relation_right l.self.description.now (tables_of l.self) (suc q)) ≡ true
