use mathlib.Core.Path.{refl}
use Rattle.keys.specs.Facts.{slot_of}
use Rattle.keys.proofs.slot.Goals as goal

pub returns : goal.returns
unfolding slot_of
returns c = refl
