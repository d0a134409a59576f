use mathlib.Core.Bool.{true}
use mathlib.Core.Path.{◌≡◌}
use Rattle.bounded.specs.Bounded.{all_below}
use Rattle.judge.specs.Views.{cell_of, Knows}
use Rattle.judge.proofs.tables.KeyedRow.cells.Given as goal

abbrev pub invariant-loop-k : goal.invariant-loop-k
invariant-loop-k l = (all_below l.k (cell_of l.self.row) ≡ true) × Knows l.self l.cache
