use mathlib.Core.Path.{◌≡◌}
use native.Mathlib.Omega.{arith}
use lib.ListN.{length}
use borrow.Author.Rules.{rules}
use Rattle.bounded.proofs.Sum.{sum-start, sum_more, sum-end}
use Rattle.describe.proofs.Sizes.{total-nine}
use Rattle.describe.proofs.total.Goals as goal

-- The invariant: what was added up is the size of the relations before.

pub loop-r-init : goal.loop-r-init
loop-r-init c = (sum-start _, omega arith)

pub loop-r-preserved : goal.loop-r-preserved
loop-r-preserved c = (sum_more _ _ c.loop-r.invariant.0 c.size-sum.ensures.0, omega (arith, c.size-sum.ensures.1))

pub returns : goal.returns
returns c = let few : length c.args.d.columns ≡ 9 = search rules in
    total-nine _ few _ (sum-end 9 c.loop-r.r _ c.loop-r.invariant.0 c.loop-r.auto.r-end c.loop-r-test.false)
