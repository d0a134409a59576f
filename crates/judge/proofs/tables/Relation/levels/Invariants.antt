use mathlib.Core.Bool.{true}
use mathlib.Core.Path.{◌≡◌}
use Rattle.bounded.specs.Bounded.{all_below}
use Rattle.judge.specs.Views.{rows_at}
use Rattle.judge.proofs.tables.Relation.levels.Given as goal

abbrev pub invariant-loop-level : goal.invariant-loop-level
invariant-loop-level loop = all_below loop.level (λ l. all_below loop.self.area.rows (rows_at loop.self l)) ≡ true
