use mathlib.Core.Path.{◌≡◌}
use mathlib.Core.Bool.{false, ◌&&◌}
use mathlib.Core.Logic.{⊎_elim}
use borrow.Author.Tests.{eq-eqb, ne_eqb}
use lib.Dec.{eqb}
use Rattle.bounded.proofs.Cases.{and-false-right}
use Rattle.cells.proofs.Sought.{key-inside}
use Rattle.above.proofs.Rewritten.{row_kept, row-emptied, row-turned}
use Rattle.above.proofs.reach.Reached.row.Goals as goal

pub returns-then-not-touched : goal.returns-then-not-touched
returns-then-not-touched c = row_kept _ _ _ _ _ _ _ _ _ _ c.touched.ensures c.if-not-touched.true

pub class_at-class-requires-clause-cell_inside : goal.class_at-class-requires-clause-cell_inside
class_at-class-requires-clause-cell_inside c = key-inside _ _ _ _ c.args.self.at c.requires.lent.1

pub returns-then-class-self : goal.returns-then-class-self
returns-then-class-self c =
    row-emptied
    _ _ _ _ _ _ _ _ _ _
    c.touched.ensures
    c.if-not-touched.false
    c.class_at-class.ensures
    c.if-plan.true
    (eq-eqb _ _ c.if-class-self.true)
    c.clear.ensures

pub returns : goal.returns
returns c =
    let n : (c.args.plan.gone && eqb c.class_at-class.result c.args.self.subject) ≡ false = ⊎_elim (λ w. and-false-right c.args.plan.gone (eqb c.class_at-class.result c.args.self.subject) (ne_eqb _ _ w.1)) (λ w. rw w) c.else-plan.either in
    row-turned
    _ _ _ _ _ _ _ _ _ _
    c.touched.ensures
    c.if-not-touched.false
    c.class_at-class.ensures
    n
    c.cells.ensures
