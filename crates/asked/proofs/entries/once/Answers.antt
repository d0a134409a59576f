use mathlib.Core.Path.{sym}
use Rattle.bounded.proofs.All.{all_start, all_more, all-fails, all_end}
use Rattle.model.specs.Description.{distinct_below}
use Rattle.asked.proofs.entries.once.Goals as goal

pub loop-i-init : goal.loop-i-init
loop-i-init g c = all_start _

pub returns-then-not-apart : goal.returns-then-not-apart
unfolding distinct_below
returns-then-not-apart g c = sym (all-fails _ _ _ c.apart.ensures c.if-not-apart.true c.loop-i-test.true)

pub loop-i-preserved : goal.loop-i-preserved
loop-i-preserved g c = all_more _ _ c.loop-i.invariant c.apart.ensures c.if-not-apart.false

pub returns : goal.returns
unfolding distinct_below
returns g c = let l = c.loop-i in sym (all_end _ l.i _ l.invariant l.auto.i-end c.loop-i-test.false)
