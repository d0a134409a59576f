-- At most one outcome meets each public function's promise.
-- Assumes nothing.
use mathlib.Core.Path.{sym, ◌∙◌}
use Rattle.level.proofs.Settled.{Settled}
use Rattle.describe.proofs.size.Reads as size
use Rattle.describe.proofs.total.Reads as total
use Rattle.describe.proofs.ordered.Reads as ordered
use Rattle.describe.proofs.sound.Reads as sound

pub size-settled : Settled size.Post
size-settled κs a x y e f p q = p.0 ∙ sym q.0

pub total-settled : Settled total.Post
total-settled κs a x y e f p q = p ∙ sym q

pub ordered-settled : Settled ordered.Post
ordered-settled κs a x y e f p q = p ∙ sym q

pub sound-settled : Settled sound.Post
sound-settled κs a x y e f p q = p ∙ sym q
