-- At most one outcome meets the promise of the public function, as the checker reads the promise from the source: one answer, and one content
-- of both buffers.
-- Assumes nothing.
use mathlib.Core.Path.{◌≡◌, sym, ◌∙◌}
use Rattle.model.specs.Buffers.{holding}
use Rattle.placing.proofs.place.Reads as place

pub place-settled : (κs : _) (a : _) (x y : _) (e f : _) → place.Post κs a x e → place.Post κs a y f
    → (x ≡ y) × (holding e.1.0.now e.1.1.0.now ≡ holding f.1.0.now f.1.1.0.now)
place-settled κs a x y e f p q = (p.done-is ∙ sym q.done-is, p.left_is ∙ sym q.left_is)
