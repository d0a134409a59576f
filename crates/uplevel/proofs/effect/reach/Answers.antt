use native.Mathlib.Omega.{arith}
use mathlib.Core.Path.{refl}
use Rattle.change.proofs.Known.{lent}
use Rattle.uplevel.specs.Raised.{Reached}
use Rattle.uplevel.proofs.Uplevelled.{working, planned}
use Rattle.uplevel.proofs.effect.reach.Goals as goal

pub returns-in_default : goal.returns-in_default
unfolding Reached
returns-in_default c = rw (c.in_default.is) refl

pub choose-chosen-requires : goal.choose-chosen-requires
choose-chosen-requires c = omega (arith, c.args.table.part.laid.few, c.args.table.part.laid.rows, (c.requires.in_use _ c.in-Some.is).0)

pub above-requires-clause-carrying : goal.above-requires-clause-carrying
above-requires-clause-carrying c = let s = c.requires.standing in (lent s, working s)

pub above-requires-clause-planned_in : goal.above-requires-clause-planned_in
above-requires-clause-planned_in c = let u = c.requires.in_use _ c.in-Some.is in
    planned (record { chosen = c.choose-chosen.ensures; gone = refl; changes = c.changes-changes.ensures }) _ _ _ _
    (omega (arith, c.args.table.part.laid.few, c.args.table.part.laid.rows, u.0)) u.1

pub returns : goal.returns
unfolding Reached
returns c = rw (c.in-Some.is) (record { plan = _; planning = record { chosen = c.choose-chosen.ensures; gone = refl; changes = c.changes-changes.ensures }; is = c.above.ensures })
