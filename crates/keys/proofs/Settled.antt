-- At most one outcome meets each public function's promise, as the checker reads the promise from the source. `fill` and `relations` leave places
-- of the lent buffer open (docs/CONTRACTS.md, "Exceptions"): of them it is proved that what is read of the outcome is one.
-- Assumes nothing.
use Prim.Native.Nat.{ℕ, suc, ◌+◌, ◌*◌, ◌<◌}
use mathlib.Core.Path.{◌≡◌, sym, ◌∙◌}
use lib.ListN.{get_or}
use Rattle.level.proofs.Settled.{Settled}
use Rattle.model.specs.Description.{row_count, start_of}
use Rattle.keys.proofs.Sets.{words-one, ranges-one}
use Rattle.keys.proofs.Starts.{starts-one}
use Rattle.keys.proofs.areas.at.Reads as at
use Rattle.keys.proofs.areas.starts.Reads as starts
use Rattle.keys.proofs.areas.Area.laid.Reads as laid
use Rattle.keys.proofs.words.has.Reads as has
use Rattle.keys.proofs.words.words.Reads as words
use Rattle.keys.proofs.words.ranges.Reads as ranges
use Rattle.keys.proofs.find.Reads as find
use Rattle.keys.proofs.fill.Reads as fill
use Rattle.keys.proofs.relations.Reads as relations

pub at-settled : Settled at.Post
at-settled κs a x y e f p q = p ∙ sym q

pub starts-settled : Settled starts.Post
starts-settled κs a x y e f p q = starts-one _ _ _ p q

pub laid-settled : Settled laid.Post
laid-settled κs a x y e f p q = p ∙ sym q

pub has-settled : Settled has.Post
has-settled κs a x y e f p q = p ∙ sym q

pub words-settled : Settled words.Post
words-settled κs a x y e f p q = words-one _ _ _ _ p q

pub ranges-settled : Settled ranges.Post
ranges-settled κs a x y e f p q = ranges-one _ _ _ p q

pub find-settled : Settled find.Post
find-settled κs a x y e f p q = p ∙ sym q

-- ---- what is read of a buffer that is left open elsewhere

-- the keys of each relation
pub fill-keys : (κs : _) (a : _) (e f : _) → fill.Post κs a tt e → fill.Post κs a tt f
    → (r j : ℕ) → r < a.1.1.0.relations → j < a.1.1.0.levels * row_count a.1.1.0 (suc r)
    → get_or e.1.0.now (start_of a.1.1.0 (suc r) + j) 0 ≡ get_or f.1.0.now (start_of a.1.1.0 (suc r) + j) 0
fill-keys κs a e f p q r j h k = p.right r j h k ∙ sym (q.right r j h k)

-- the answer, and the places of the keys
pub relations-answer : (κs : _) (a : _) (x y : _) (e f : _) → relations.Post κs a x e → relations.Post κs a y f
    → (x ≡ y) × ((p : ℕ) → p < 8192 → get_or e.0.now p 0 ≡ get_or f.0.now p 0)
relations-answer κs a x y e f p q = (p.0 ∙ sym q.0, λ i h. p.1.same i h ∙ sym (q.1.same i h))
