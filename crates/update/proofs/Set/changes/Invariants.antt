use Rattle.above.specs.declared.plan.Change.TheVariants as Changes
use Rattle.chosen.specs.Choosing.{ByColumn}
use Rattle.update.proofs.Setting.{among}
use Rattle.update.proofs.Set.changes.Given as goal

abbrev pub invariant-loop-column : goal.invariant-loop-column
invariant-loop-column l = ByColumn (among l.column-index l.self.list.now (λ v. Changes.Take v l.self.level) Changes.Keep) l.changes
