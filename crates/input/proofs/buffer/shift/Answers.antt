use Rattle.input.proofs.Shifting.{shifted}
use Rattle.input.proofs.buffer.shift.Goals as goal

-- What stands between the two places, as far as they are within the buffer, is copied to its front.

pub returns : goal.returns
returns c = shifted _ _ _ c.min-to.ensures c.min-from.ensures c.copy_within.ensures.after
