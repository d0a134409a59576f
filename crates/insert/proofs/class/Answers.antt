use Rattle.change.proofs.Pairs.{class-some, class-none}
use Rattle.insert.proofs.class.Goals as goal

pub returns-in-Some : goal.returns-in-Some
returns-in-Some c = class-some _ _ _ _ _ c.in-Some.ensures

pub returns-in-None : goal.returns-in-None
returns-in-None c = class-none _ _ _ _ _ c.in-None.ensures c.null.ensures
