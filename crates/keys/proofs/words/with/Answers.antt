use Rattle.keys.proofs.Sets.{shl_one, with-on}
use Rattle.keys.proofs.words.with.Goals as goal

pub returns-then-on : goal.returns-then-on
returns-then-on c = rw (shl_one _ c.requires) (with-on _ _ _ c.if-on.true)
