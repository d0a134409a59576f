use Rattle.model.specs.Select.{select_formed}
use Rattle.select.proofs.formed.Goals as goal

pub returns-then-not-exist : goal.returns-then-not-exist
unfolding select_formed
returns-then-not-exist c = rw (← c.exist.ensures, c.if-not-exist.true)

pub returns : goal.returns
unfolding select_formed
returns c = rw (← c.exist.ensures, c.if-not-exist.false, c.once.ensures)
