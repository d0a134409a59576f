use mathlib.Core.Path.{refl}
use Rattle.stream.specs.Step.{refuses}
use Rattle.stream.proofs.refuse.Goals as goal

-- What is kept stays, and the line of the number is printed.

pub returns : goal.returns
unfolding refuses
returns c = λ values classes. record { kept-is = refl; room-is = refl; text-is = c.refusal.ensures }
