use Prim.Native.Nat.{ℕ}
use mathlib.Core.Path.{refl, sym, ap, ◌∙◌}
use native.Mathlib.Omega.{arith}
use lib.Dec.{eqb}
use Rattle.bounded.proofs.Found.{some-below, none-below}
use Rattle.cells.proofs.Sought.{key-inside}
use Rattle.above.proofs.Sought.{gone-off, gone-none, gone-unchosen, gone-other, gone-missing, gone-there}
use Rattle.above.proofs.reach.Reached.gone.Goals as goal

pub returns-then-not-plan : goal.returns-then-not-plan
returns-then-not-plan c = gone-off _ _ _ _ _ _ _ _ c.if-not-plan.true

pub returns-in_default : goal.returns-in_default
returns-in_default c = gone-none _ _ _ _ _ _ _ _ c.if-not-plan.false refl (none-below _ _ c.in_default.ensures)

pub bounds-plan-own : goal.bounds-plan-own
bounds-plan-own c = let f = some-below _ _ c.in-Some.ensures in omega (arith, f, c.args.self.part.laid.few, c.args.self.part.laid.rows)

pub returns-then-not-plan-own : goal.returns-then-not-plan-own
returns-then-not-plan-own c = let f = some-below _ _ c.in-Some.ensures in
    gone-unchosen _ _ _ _ _ _ _ _ c.if-not-plan.false f.0 (omega (arith, f)) c.if-not-plan-own.true

pub class_at-requires-clause-cell_inside : goal.class_at-requires-clause-cell_inside
class_at-requires-clause-cell_inside c = let f = some-below _ _ c.in-Some.ensures in key-inside _ _ _ _ c.args.self.own (omega (arith, f))

pub returns-then-class_at-self : goal.returns-then-class_at-self
returns-then-class_at-self c = let f = some-below _ _ c.in-Some.ensures in
    gone-other _ _ _ _ _ _ _ _ c.if-not-plan.false f.0 (omega (arith, f)) c.if-not-plan-own.false (λ q. c.if-class_at-self.true (c.class_at.ensures ∙ q))

pub returns-in_default-find : goal.returns-in_default-find
returns-in_default-find c = let f = some-below _ _ c.in-Some.ensures in
    gone-missing
    _ _ _ _ _ _ _ _
    c.if-not-plan.false
    f.0
    (omega (arith, f))
    c.if-not-plan-own.false
    (sym c.class_at.ensures ∙ c.if-class_at-self.false)
    refl
    c.requires.lent.1
    (none-below _ _ c.in_default-find.ensures)

pub class_at-requires-2-clause-cell_inside : goal.class_at-requires-2-clause-cell_inside
class_at-requires-2-clause-cell_inside c = let f = some-below _ _ c.in-Some-find.ensures in key-inside _ _ _ _ c.args.self.at (omega (arith, f))

pub returns : goal.returns
returns c = let f = some-below _ _ c.in-Some.ensures in
    let g = some-below _ _ c.in-Some-find.ensures in
    ap (λ (x : ℕ). eqb x c.args.self.subject) c.class_at-2.ensures
    ∙ gone-there
    _ _ _ _ _ _ _ _
    c.if-not-plan.false
    f.0
    (omega (arith, f))
    c.if-not-plan-own.false
    (sym c.class_at.ensures ∙ c.if-class_at-self.false)
    g.0
    (omega (arith, g))
