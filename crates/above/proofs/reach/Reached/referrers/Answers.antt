use mathlib.Core.Path.{refl, ◌∙◌}
use native.Mathlib.Omega.{arith}
use borrow.Author.Tests.{not-true}
use Rattle.bounded.proofs.Reflection.{is_true}
use Rattle.model.proofs.Sound.{relation-r}
use Rattle.above.proofs.Referred.{referrers-start, referrers-none, referrers-more, referrers-end}
use Rattle.above.proofs.reach.Reached.referrers.Goals as goal

-- The invariant: the references of the relations that were passed are as they become, and nothing else has changed.

pub returns-then-not-plan : goal.returns-then-not-plan
returns-then-not-plan c = referrers-none _ _ _ _ _ _ _ (not-true _ c.if-not-plan.true)

pub loop-referrer-init : goal.loop-referrer-init
loop-referrer-init c = (refl, referrers-start _ _ _ _ _ _)

pub referrer-requires : goal.referrer-requires
referrer-requires c = let l = c.loop-referrer in record {
  lent = (record { values = l.invariant.0 ∙ c.requires.lent.0.values; classes = c.requires.lent.0.classes }, c.requires.lent.1);
  apart = (c.requires.apart, is_true (relation-r _ _) (l.auto.referrer, omega (arith, c.loop-referrer-test.true)));
}

pub loop-referrer-preserved : goal.loop-referrer-preserved
loop-referrer-preserved c = let l = c.loop-referrer in
    (c.referrer.auto.values ∙ l.invariant.0, referrers-more _ _ _ _ _ _ _ c.requires.lent.1 c.requires.apart.other c.args.self.at.keyed l.invariant.1 c.referrer.ensures)

pub returns : goal.returns
returns c = referrers-end _ _ _ _ _ _ _ _ c.loop-referrer.invariant.1 (omega (arith, c.loop-referrer.auto, c.loop-referrer-test.false))
