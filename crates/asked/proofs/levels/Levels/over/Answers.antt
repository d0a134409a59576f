use mathlib.Core.Path.{◌∙◌}
use Rattle.asked.proofs.Levelled.{over-entry}
use Rattle.asked.proofs.levels.Levels.over.Goals as goal

pub returns : goal.returns
returns c = c.over.ensures ∙ over-entry _ _ c.args.self.ordered _ _
