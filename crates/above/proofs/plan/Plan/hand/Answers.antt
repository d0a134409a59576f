use mathlib.Core.Path.{refl}
use Rattle.above.specs.Facts.{handed}
use Rattle.above.proofs.plan.Plan.hand.Goals as goal

pub returns : goal.returns
unfolding handed
returns c = refl
