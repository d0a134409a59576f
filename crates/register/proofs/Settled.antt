-- At most one outcome meets each public function's promise, as the checker reads the promise from the source: one answer, and one content of
-- every lent buffer.
-- Assumes nothing.
use mathlib.Core.Path.{◌≡◌, sym, ◌∙◌}
use Rattle.level.proofs.Settled.{Settled}
use Rattle.register.specs.Calls.{outcome}
use Rattle.register.proofs.judge.Reads as judge
use Rattle.register.proofs.run.Reads as run

pub judge-settled : Settled judge.Post
judge-settled κs a x y e f p q = p ∙ sym q

pub run-settled : (κs : _) (a : _) (x y : _) (e f : _) → run.Post κs a x e → run.Post κs a y f
    → outcome x e.1.0.now e.1.1.0.now e.1.1.1.1.1.1.0.now e.1.1.1.1.1.1.1.0.now
    ≡ outcome y f.1.0.now f.1.1.0.now f.1.1.1.1.1.1.0.now f.1.1.1.1.1.1.1.0.now
run-settled κs a x y e f p q = p ∙ sym q
