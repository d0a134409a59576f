use mathlib.Core.Path.{◌≡◌}
use mathlib.Core.Bool.{false}
use Rattle.bounded.specs.Bounded.{any_below}
use Rattle.chosen.specs.Choosing.{refers_chosen}
use Rattle.delete.proofs.Rows.referred.Given as goal

abbrev pub invariant-loop-referrer : goal.invariant-loop-referrer
invariant-loop-referrer l = any_below l.referrer (refers_chosen l.self.table.part.description l.values l.self.chosen l.self.table.part.relation l.self.level) ≡ false
