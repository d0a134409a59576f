-- At most one outcome meets each public function's promise, as the checker reads the promise from the source. A lent
-- buffer keeps its length, which is a promise of the language and not of the contract; with it the tables that a contract speaks of settle
-- every cell.
-- Assumes nothing.
use mathlib.Core.Path.{◌≡◌}
use lib.ListN.{length}
use Rattle.model.specs.Buffers.{holding}
use Rattle.change.proofs.Answers.{one-answered}
use Rattle.delete.proofs.delete.Reads as delete

pub delete-settled : (κs : _) (a : _) (x y : _) (e f : _) → delete.Pre κs a → delete.Post κs a x e → delete.Post κs a y f
    → length e.0.now ≡ length a.0.now → length e.1.0.now ≡ length a.1.0.now
    → length f.0.now ≡ length a.0.now → length f.1.0.now ≡ length a.1.0.now
    → (x ≡ y) × (holding e.0.now e.1.0.now ≡ holding f.0.now f.1.0.now)
delete-settled κs a x y e f pre p q v c u d = one-answered _ _ _ _ _ _ _ _ _ _ _ _ _ pre.0.long pre.0.wide v c u d p q
