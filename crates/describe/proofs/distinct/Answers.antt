use mathlib.Core.Path.{sym, ap, ◌∙◌}
use mathlib.Core.Bool.{not}
use native.Mathlib.Omega.{arith}
use Rattle.bounded.proofs.All.{all_start, all_more, all-fails}
use Rattle.model.specs.Description.{distinct_below}
use Rattle.describe.proofs.Descriptions.{none-of-first}
use Rattle.describe.proofs.distinct.Goals as goal

pub loop-i-init : goal.loop-i-init
unfolding distinct_below
loop-i-init c = all_start _

pub returns-then-contains : goal.returns-then-contains
unfolding distinct_below
returns-then-contains c = sym (all-fails _ c.loop-i.i _ (ap not c.contains.ensures.value ∙ none-of-first _ c.args.labels.now c.loop-i.i (omega arith)) (ap not c.if-contains.true) c.loop-i-test.true)

pub loop-i-preserved : goal.loop-i-preserved
unfolding distinct_below
loop-i-preserved c = all_more c.loop-i.i _ c.loop-i.invariant (ap not c.contains.ensures.value ∙ none-of-first _ c.args.labels.now c.loop-i.i (omega arith)) (ap not c.if-contains.false)
