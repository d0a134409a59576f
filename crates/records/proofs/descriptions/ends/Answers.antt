use native.Mathlib.Omega.{arith}
use Rattle.bounded.proofs.Lists.{numbers-start, numbers_more, numbers-end}
use Rattle.records.specs.Descriptions.{ends}
use Rattle.records.proofs.descriptions.ends.Goals as goal

-- The invariant: the ends of the columns passed are written.

pub loop-k-init : goal.loop-k-init
loop-k-init c = numbers-start _ _ _

pub loop-k-preserved : goal.loop-k-preserved
loop-k-preserved c = numbers_more _ _ _ _ c.loop-k.invariant (omega arith) c.pair-in-loop-k.ensures

pub returns : goal.returns
unfolding ends
returns c = let h = rw c.pair.ensures at c.min-columns.ensures in
    rw (← h) (numbers-end _ _ _ _ _ c.loop-k.invariant c.loop-k.auto.k-end c.loop-k-test.false)
