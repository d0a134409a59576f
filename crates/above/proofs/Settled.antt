-- At most one outcome meets each public function's promise, as the checker reads the promise from the source. A lent buffer keeps its length,
-- which is a promise of the language and not of the contract; with it the tables that a contract speaks of settle every cell.
-- Assumes nothing.
use mathlib.Core.Path.{◌≡◌, sym, ◌∙◌}
use lib.ListN.{length}
use Rattle.level.proofs.Settled.{Settled}
use Rattle.model.specs.Buffers.{holding}
use Rattle.cells.proofs.Settled.{one-buffers}
use Rattle.above.proofs.reach.Reached.touched.Reads as touched
use Rattle.above.proofs.reach.Reached.gone.Reads as gone
use Rattle.above.proofs.find.agree.Reads as agree
use Rattle.above.proofs.above.Reads as above

-- ---- readers

pub touched-settled : Settled touched.Post
touched-settled κs a x y e f p q = p ∙ sym q

pub gone-settled : Settled gone.Post
gone-settled κs a x y e f p q = p ∙ sym q

pub agree-settled : Settled agree.Post
agree-settled κs a x y e f p q = p ∙ sym q

-- ---- the writer

pub above-settled : (κs : _) (a : _) (e f : _) → above.Pre κs a → above.Post κs a tt e → above.Post κs a tt f
    → length e.0.now ≡ length a.0.now → length e.1.0.now ≡ length a.1.0.now
    → length f.0.now ≡ length a.0.now → length f.1.0.now ≡ length a.1.0.now
    → holding e.0.now e.1.0.now ≡ holding f.0.now f.1.0.now
above-settled κs a e f pre p q v c u d =
    one-buffers _ _ _ _ _ (v ∙ pre.0.0.values) (c ∙ pre.0.0.classes) (u ∙ pre.0.0.values) (d ∙ pre.0.0.classes) (p ∙ sym q)
