use mathlib.Core.Path.{sym, ◌∙◌}
use Rattle.uplevel.proofs.Upfaults.{spot-there, spot-lowest}
use Rattle.uplevel.proofs.effect.spot.Goals as goal

pub returns-then-is_some : goal.returns-then-is_some
returns-then-is_some c = spot-there _ _ _ _ (sym c.is_some.ensures ∙ c.if-is_some.true)

pub returns : goal.returns
returns c = spot-lowest _ _ _ _ (sym c.is_some.ensures ∙ c.if-is_some.false) c.lowest.ensures
