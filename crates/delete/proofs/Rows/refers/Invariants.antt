use mathlib.Core.Path.{◌≡◌}
use mathlib.Core.Bool.{false}
use Rattle.bounded.specs.Bounded.{any_below}
use Rattle.chosen.specs.Choosing.{row_refers}
use Rattle.delete.proofs.Rows.refers.Given as goal

abbrev pub invariant-loop-row : goal.invariant-loop-row
invariant-loop-row l = any_below l.row (row_refers l.self.table.part.description l.values l.self.chosen l.self.table.part.relation l.self.level l.referrer) ≡ false
