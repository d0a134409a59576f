use mathlib.Core.Path.{◌≡◌}
use mathlib.Core.Bool.{false, ◌&&◌}
use mathlib.Core.Logic.{⊎_elim}
use lib.Dec.{eqb}
use borrow.Author.Tests.{eq-eqb, ne_eqb}
use Rattle.bounded.proofs.Cases.{and-false-right}
use Rattle.model.specs.Tables.{same}
use Rattle.above.specs.Facts.{becomes}
use Rattle.above.proofs.plan.Change.turns.Goals as goal

-- The goals are one for each change, and two where a cell is told from another.

pub returns-in-Keep : goal.returns-in-Keep
unfolding becomes
returns-in-Keep c = rw c.in-Keep.is

pub returns-in-Take : goal.returns-in-Take
unfolding becomes
returns-in-Take c = rw c.in-Take.is

pub returns-then-class-owner : goal.returns-then-class-owner
unfolding becomes same
returns-then-class-owner c = rw (c.in-Only.is, eq-eqb _ _ c.if-value-planned.true, eq-eqb _ _ c.if-class-owner.true)

pub returns-else-value-planned : goal.returns-else-value-planned
unfolding becomes same
returns-else-value-planned c =
    let n : (eqb c.args.value c.in-Only.planned && eqb c.args.class c.in-Only.owner) ≡ false = ⊎_elim (λ w. and-false-right _ _ (ne_eqb _ _ w.1)) (λ w. rw (ne_eqb c.args.value c.in-Only.planned w)) c.else-value-planned.either in
    rw (c.in-Only.is, n)
