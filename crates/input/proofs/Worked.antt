-- Worked cases: 01's second sample record at the front, a header that is cut, a body that is cut, and a body over 1,024 bytes; bytes that move.
-- Assumes nothing.
use Prim.Native.Nat.{ℕ}
use mathlib.Core.Path.{◌≡◌, refl}
use mathlib.Core.List.{List, [], ◌∷◌, ◌++◌}
use lib.ListN.{take}
use lib.Seq.{slice}
use Rattle.records.specs.Bytes.{pair}
use Rattle.input.specs.Front.{wanted, front, behind}

-- `10000200 0200020000000000 0000010000000100`
abbrev relation : List ℕ
relation = 16 ∷ 0 ∷ 2 ∷ 0 ∷ 2 ∷ 0 ∷ 2 ∷ 0 ∷ 0 ∷ 0 ∷ 0 ∷ 0 ∷ 0 ∷ 0 ∷ 1 ∷ 0 ∷ 0 ∷ 0 ∷ 1 ∷ 0 ∷ []

-- the first bytes of the record behind it
abbrev next : List ℕ
next = 18 ∷ 0 ∷ 16 ∷ []

front-is : front (relation ++ next) ≡ relation
unfolding front wanted pair
front-is = refl

behind-is : behind (relation ++ next) ≡ next
unfolding behind wanted pair
behind-is = refl

-- two bytes, or three, don't say a length yet
header-cut : wanted next ≡ 4
unfolding wanted
header-cut = refl

-- a header says how many bytes follow, whether or not they are there
body-cut : wanted (take 4 relation) ≡ 20
unfolding wanted pair
body-cut = refl

-- a body of 1,024 bytes is waited for, one of 1,025 is refused by its header
body-longest : wanted (0 ∷ 4 ∷ 20 ∷ 0 ∷ []) ≡ 1028
unfolding wanted pair
body-longest = refl

body-over : wanted (1 ∷ 4 ∷ 20 ∷ 0 ∷ []) ≡ 4
unfolding wanted pair
body-over = refl

-- what stands from one place to another, past the end, and where there is nothing
inside : slice 2 4 next ≡ 16 ∷ []
inside = refl

nothing-there : slice 3 2 relation ≡ []
nothing-there = refl
