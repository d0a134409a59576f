use mathlib.Core.Path.{refl, ◌∙◌}
use native.Mathlib.Omega.{arith}
use Rattle.above.proofs.Levels.{levels-start, levels-more, levels-end, working-as, planned-as}
use Rattle.above.proofs.above.Goals as goal

-- The invariant: the levels that were passed are as they are left, and the others have not changed.

pub loop-level-init : goal.loop-level-init
loop-level-init c = (refl, refl, levels-start _ _ _ _ _)

pub reach-requires : goal.reach-requires
reach-requires c = let l = c.loop-level in
    let W = c.requires.carrying.1 in record {
      carrying = (
        record { values = l.invariant.0 ∙ c.requires.carrying.0.values; classes = l.invariant.1 ∙ c.requires.carrying.0.classes },
        working-as _ _ _ _ _ W c.requires.planned_in _ l.invariant.2,
      );
      planned_in = (planned-as _ _ _ _ _ W c.requires.planned_in _ l.invariant.2, c.loop-level-test.true);
    }

pub loop-level-preserved : goal.loop-level-preserved
loop-level-preserved c = let l = c.loop-level in
    (c.reach.auto.values ∙ l.invariant.0, c.reach.auto.classes ∙ l.invariant.1, levels-more _ _ _ _ _ _ l.invariant.2 c.reach.ensures)

pub returns : goal.returns
returns c = let l = c.loop-level in
    levels-end _ _ _ _ _ _ c.requires.carrying.1 l.invariant.2 (omega (arith, l.auto.level-end, c.loop-level-test.false))
