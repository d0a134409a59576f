use Rattle.register.proofs.Shapes.{select-not, select-so}
use Rattle.register.proofs.formed.selects.Goals as goal

pub returns-then-not-formed : goal.returns-then-not-formed
returns-then-not-formed c = select-not _ _ _ _ c.formed.ensures c.if-not-formed.true

pub returns : goal.returns
returns c = select-so _ _ _ _ c.formed.ensures c.if-not-formed.false c.formed-2.ensures
