use mathlib.Core.Path.{◌∙◌}
use Rattle.uplevel.proofs.Upfaults.{levels-seen, class-unseen}
use Rattle.uplevel.proofs.seen.Goals as goal

pub returns-then-sees : goal.returns-then-sees
returns-then-sees c = levels-seen _ _ _ _ _ c.sees.ensures c.if-sees.true c.each.ensures

pub returns-else-sees : goal.returns-else-sees
returns-else-sees c = c.if-sees.false ∙ class-unseen _ _ _ _ c.sees.ensures c.if-sees.false
