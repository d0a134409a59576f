use native.Mathlib.Omega.{arith}
use Rattle.placing.proofs.Tested.{small-start, small-more, small-fails, small-end}
use Rattle.placing.proofs.small.Goals as goal

-- The invariant: the classes that were passed are small.

pub loop-k-init : goal.loop-k-init
loop-k-init c = small-start _

pub returns-then-pair-gt255 : goal.returns-then-pair-gt255
returns-then-pair-gt255 c = small-fails _ _ c.loop-k.k c.pair.ensures (omega (arith, c.if-pair-gt255.true)) c.loop-k-test.true

pub loop-k-preserved : goal.loop-k-preserved
loop-k-preserved c = small-more _ c.loop-k.k c.loop-k.invariant c.pair.ensures (omega (arith, c.if-pair-gt255.false))

pub returns : goal.returns
returns c = small-end _ _ c.loop-k.k c.loop-k.invariant c.loop-k.auto.k-end c.loop-k-test.false
