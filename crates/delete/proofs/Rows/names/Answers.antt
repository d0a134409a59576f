use native.Mathlib.Omega.{arith}
use Rattle.bounded.proofs.Found.{some-below}
use Rattle.delete.proofs.Emptying.{names-null, names-nowhere, names-there}
use Rattle.delete.proofs.Rows.names.Goals as goal

pub returns-then-key-eq0 : goal.returns-then-key-eq0
returns-then-key-eq0 c = names-null _ _ _ _ _ _ c.if-key-eq0.true

pub bounds-self-row : goal.bounds-self-row
bounds-self-row c = let f = some-below _ _ c.in-Some.ensures in omega (arith, f, c.args.self.now.table.part.laid.few, c.args.self.now.table.part.laid.rows)

pub returns-in-Some : goal.returns-in-Some
returns-in-Some c = names-there _ _ _ _ _ _ c.if-key-eq0.false c.in-Some.ensures

pub returns-in-None : goal.returns-in-None
returns-in-None c = names-nowhere _ _ _ _ _ _ c.if-key-eq0.false c.in-None.ensures
