-- At most one outcome meets each public function's promise as the checker reads the promise from the source. A lent
-- buffer keeps its length, which is a promise of the language and not of the contract; with it the tables that a contract speaks of settle
-- every cell.
-- Assumes nothing.
use mathlib.Core.Path.{◌≡◌, sym, ◌∙◌}
use lib.ListN.{length}
use Rattle.level.proofs.Settled.{Settled}
use Rattle.model.specs.Buffers.{holding}
use Rattle.change.proofs.Answers.{one-answered}
use Rattle.insert.proofs.formed.Reads as formed
use Rattle.insert.proofs.insert.Reads as insert

pub formed-settled : Settled formed.Post
formed-settled κs a x y e f p q = p ∙ sym q

pub insert-settled : (κs : _) (a : _) (x y : _) (e f : _) → insert.Pre κs a → insert.Post κs a x e → insert.Post κs a y f
    → length e.0.now ≡ length a.0.now → length e.1.0.now ≡ length a.1.0.now
    → length f.0.now ≡ length a.0.now → length f.1.0.now ≡ length a.1.0.now
    → (x ≡ y) × (holding e.0.now e.1.0.now ≡ holding f.0.now f.1.0.now)
insert-settled κs a x y e f pre p q v c u d = one-answered _ _ _ _ _ _ _ _ _ _ _ _ _ pre.0.long pre.0.wide v c u d p q
