-- A label, and when one dominates another (01, "Levels").
-- Assumes nothing: these are definitions.
use Rattle.std.specs.Prelude.{ℕ, ◌+◌, ◌/◌, ◌%◌, Bool, ◌&&◌, eqb, leb}
use Rattle.std.specs.Int.Bits.{bit_and}
use Rattle.std.specs.Int.Count.{ones}

-- "rank = label / 256"
unfoldable pub rank_of : ℕ → ℕ
rank_of a = a / 256

-- "and the low 8 bits are a set of compartments"
unfoldable pub compartments_of : ℕ → ℕ
compartments_of a = a % 256

-- "its set contains b's": the bits that the two have in common are all of b's
unfoldable pub contains : ℕ → ℕ → Bool
contains a b = eqb (bit_and a b) b

-- "Level a dominates b when its rank is at least b's and its set contains b's."
unfoldable pub dominates : ℕ → ℕ → Bool
dominates a b = leb (rank_of b) (rank_of a) && contains (compartments_of a) (compartments_of b)

-- "Bottom (label 0)"
unfoldable pub bottom_label : ℕ
bottom_label = 0

-- "height = rank + number of compartments"
unfoldable pub height_of : ℕ → ℕ
height_of a = rank_of a + ones (compartments_of a)
