use Rattle.uplevel.proofs.Upfaults.{given-unbased, given-based}
use Rattle.uplevel.proofs.meant.own.Goals as goal

pub returns-then-not-based : goal.returns-then-not-based
returns-then-not-based c = given-unbased _ _ _ _ _ c.in-Some.is c.based.ensures c.if-not-based.true

pub returns : goal.returns
returns c = given-based _ _ _ _ _ c.in-Some.is c.based.ensures c.if-not-based.false
