-- At most one outcome meets each public function's promise.
-- Assumes nothing.
use mathlib.Core.List.{[]}
use mathlib.Core.Path.{sym, ◌∙◌}
use Rattle.level.proofs.Settled.{Settled}
use Rattle.change.proofs.named.names.Reads as names
use Rattle.change.proofs.named.listed.Reads as listed

-- whatever the classes are
pub names-settled : Settled names.Post
names-settled κs a x y e f p q = p [] ∙ sym (q [])

pub listed-settled : Settled listed.Post
listed-settled κs a x y e f p q = p [] ∙ sym (q [])
