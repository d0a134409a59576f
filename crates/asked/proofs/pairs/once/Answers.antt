use mathlib.Core.Path.{◌∙◌}
use Rattle.asked.proofs.Listing.{pairs-once}
use Rattle.asked.proofs.pairs.once.Goals as goal

pub returns : goal.returns
returns c = c.once.ensures ∙ rw c.as_chunks.ensures.front (pairs-once _)
