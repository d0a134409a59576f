use mathlib.Core.Path.{refl}
use native.Mathlib.Omega.{arith}
use Rattle.change.proofs.Numbers.{filled_none, filled_more, filled-end}
use Rattle.placing.proofs.Tested.{value-next}
use Rattle.placing.proofs.news.Goals as goal

-- The invariant: the columns that were passed have theirs.

pub loop-k-init : goal.loop-k-init
loop-k-init c = filled_none _ _ refl

pub loop-k-preserved : goal.loop-k-preserved
loop-k-preserved c = let k = c.loop-k.k in filled_more k _ _ _ _ _ refl refl (omega arith) (value-next _ k c.quad.ensures) c.loop-k.invariant

pub returns : goal.returns
returns c = filled-end _ c.loop-k.k _ _ c.loop-k.invariant c.loop-k-test.false
