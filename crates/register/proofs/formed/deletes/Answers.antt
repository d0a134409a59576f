use Rattle.register.proofs.Shapes.{empty_not, empty-so, delete-more, delete-so}
use Rattle.register.proofs.formed.deletes.Goals as goal

pub returns-then-not-is_empty : goal.returns-then-not-is_empty
returns-then-not-is_empty c = delete-more _ _ _ _ (empty_not _ c.is_empty.ensures c.if-not-is_empty.true)

pub returns : goal.returns
returns c = delete-so _ _ _ _ (empty-so _ c.is_empty.ensures c.if-not-is_empty.false) c.formed.ensures
