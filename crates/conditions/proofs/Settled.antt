-- At most one outcome meets each public function's promise, as the checker reads the promise from the source.
-- Assumes nothing.
use mathlib.Core.Path.{sym, ◌∙◌}
use Rattle.level.proofs.Settled.{Settled}
use Rattle.conditions.proofs.Choosing.{chosen-one}
use Rattle.conditions.proofs.formed.Reads as formed
use Rattle.conditions.proofs.chosen.Reads as chosen
use Rattle.conditions.proofs.count.Reads as count

pub formed-settled : Settled formed.Post
formed-settled κs a x y e f p q = p ∙ sym q

pub chosen-settled : Settled chosen.Post
chosen-settled κs a x y e f p q = chosen-one _ _ _ _ p q

pub count-settled : Settled count.Post
count-settled κs a x y e f p q = p.is ∙ sym q.is
