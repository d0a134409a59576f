use Rattle.uplevel.proofs.Upfaults.{sees-class, sees-none}
use Rattle.uplevel.proofs.sees.Goals as goal

pub returns-in-Some : goal.returns-in-Some
returns-in-Some c = sees-class _ _ c.in-Some.is c.over.ensures

pub returns-in-None : goal.returns-in-None
returns-in-None c = sees-none _ _ c.in-None.is
