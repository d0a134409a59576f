use Prim.Native.Nat.{suc}
use mathlib.Core.Bool.{true}
use mathlib.Core.Path.{◌≡◌}
use Rattle.bounded.specs.Bounded.{all_below}
use Rattle.model.specs.Tables.{same, nocell}
use Rattle.judge.specs.Views.{row_of}
use Rattle.judge.proofs.tables.Row.empty.Given as goal

abbrev pub invariant-loop-k : goal.invariant-loop-k
invariant-loop-k l = all_below l.k (λ j. same (row_of l.self (suc j)) nocell) ≡ true
