-- At most one outcome meets the promise of each public function, as the checker reads the promise from the source.
-- Assumes nothing.
use mathlib.Core.Path.{sym, ◌∙◌}
use Rattle.level.proofs.Settled.{Settled}
use Rattle.numbers.proofs.number.Reads as number
use Rattle.numbers.proofs.count.Reads as count
use Rattle.numbers.proofs.verdict.Reads as verdict

pub number-settled : Settled number.Post
number-settled κs a x y e f p q = p ∙ sym q

pub count-settled : Settled count.Post
count-settled κs a x y e f p q = p ∙ sym q

pub verdict-settled : Settled verdict.Post
verdict-settled κs a x y e f p q = p ∙ sym q
