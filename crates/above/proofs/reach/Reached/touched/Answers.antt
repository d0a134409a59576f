use mathlib.Core.Path.{refl, ap₂, ◌∙◌}
use native.Mathlib.Omega.{arith}
use lib.Dec.{eqb}
use Rattle.bounded.proofs.Found.{some-below, none-below}
use Rattle.cells.proofs.Sought.{key-inside}
use Rattle.above.proofs.Sought.{touched-unused, touched_none, touched-unchosen, touched-chosen}
use Rattle.above.proofs.reach.Reached.touched.Goals as goal

pub value_at-key-requires-clause-cell_inside : goal.value_at-key-requires-clause-cell_inside
value_at-key-requires-clause-cell_inside c = key-inside _ _ _ _ c.args.self.at c.requires.lent.1

pub returns-then-key-eq0 : goal.returns-then-key-eq0
returns-then-key-eq0 c = touched-unused _ _ _ _ _ _ _ _ c.value_at-key.ensures c.if-key-eq0.true

pub returns-in_default : goal.returns-in_default
returns-in_default c = touched_none _ _ _ _ _ _ _ _ c.value_at-key.ensures c.if-key-eq0.false refl (none-below _ _ c.in_default.ensures)

pub bounds-plan-there : goal.bounds-plan-there
bounds-plan-there c = let f = some-below _ _ c.in-Some.ensures in omega (arith, f, c.args.self.part.laid.few, c.args.self.part.laid.rows)

pub returns-then-not-plan-there : goal.returns-then-not-plan-there
returns-then-not-plan-there c = let f = some-below _ _ c.in-Some.ensures in
    touched-unchosen _ _ _ _ _ _ _ _ c.value_at-key.ensures c.if-key-eq0.false f.0 (omega (arith, f)) c.if-not-plan-there.true

pub class_at-class-requires-clause-cell_inside : goal.class_at-class-requires-clause-cell_inside
class_at-class-requires-clause-cell_inside c = key-inside _ _ _ _ c.args.self.at c.requires.lent.1

pub class_at-requires-clause-cell_inside : goal.class_at-requires-clause-cell_inside
class_at-requires-clause-cell_inside c = let f = some-below _ _ c.in-Some.ensures in key-inside _ _ _ _ c.args.self.own (omega (arith, f))

pub returns : goal.returns
returns c = let f = some-below _ _ c.in-Some.ensures in
    ap₂ eqb c.class_at.ensures c.class_at-class.ensures
    ∙ touched-chosen _ _ _ _ _ _ _ _ c.value_at-key.ensures c.if-key-eq0.false f.0 (omega (arith, f)) c.if-not-plan-there.false
