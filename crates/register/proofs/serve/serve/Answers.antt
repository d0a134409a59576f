use Rattle.register.proofs.Outcomes.{malformed-out, carried-out}
use Rattle.register.proofs.Served.{formed-is, still-fits}
use Rattle.register.proofs.serve.serve.Goals as goal

pub statement-requires : goal.statement-requires
statement-requires c = c.requires.sound-is

pub returns-then-not-statement : goal.returns-then-not-statement
returns-then-not-statement c = malformed-out _ _ _ _ c.requires (formed-is _ _ c.statement.ensures c.if-not-statement.true)

pub carry-requires : goal.carry-requires
carry-requires c = record { judged = c.requires; well_formed = formed-is _ _ c.statement.ensures c.if-not-statement.false }

pub returns : goal.returns
returns c = carried-out _ _ _ _ c.requires (formed-is _ _ c.statement.ensures c.if-not-statement.false) (still-fits _ _ _ _ _ c.requires.fits c.carry.auto.values c.carry.auto.classes) c.carry.ensures
