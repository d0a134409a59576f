use Rattle.register.proofs.Shapes.{empty_not, empty-so, uplevel-more, uplevel-so}
use Rattle.register.proofs.formed.uplevels.Goals as goal

pub returns-then-not-is_empty : goal.returns-then-not-is_empty
returns-then-not-is_empty c = uplevel-more _ _ _ _ _ _ (empty_not _ c.is_empty.ensures c.if-not-is_empty.true)

pub returns : goal.returns
returns c = uplevel-so _ _ _ _ _ _ (empty-so _ c.is_empty.ensures c.if-not-is_empty.false) c.formed.ensures
