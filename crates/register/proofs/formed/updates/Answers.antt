use Rattle.register.proofs.Shapes.{update-not, update-so}
use Rattle.register.proofs.formed.updates.Goals as goal

pub returns-then-not-formed : goal.returns-then-not-formed
returns-then-not-formed c = update-not _ _ _ _ c.formed.ensures c.if-not-formed.true

pub returns : goal.returns
returns c = update-so _ _ _ _ c.formed.ensures c.if-not-formed.false c.formed-2.ensures
