-- What UPLEVEL's functions know and promise of the tables in two lists: vs and cs before, vs' and cs' after.
-- Assumes nothing: these are statements.
use Rattle.std.specs.Prelude.{ℕ, ◌<◌, ◌≡◌, List, ◌≢◌, Option, Some, None}
use Rattle.model.specs.declared.Description.{Description}
use Rattle.model.specs.Answers.{Answer}
use Rattle.model.specs.Description.{row_count}
use Rattle.model.specs.Tables.{Cell, State, rows_of, at}
use Rattle.model.specs.Buffers.{holding, state_of}
use Rattle.model.specs.Uplevel.{borrowed, raised, uplevelled}
use Rattle.above.specs.declared.plan.Plan.{Plan}
use Rattle.above.specs.Facts.{carried}
use Rattle.change.specs.Facts.{sight, Answered}
use Rattle.uplevel.specs.declared.made.News.{News}
use Rattle.uplevel.specs.Raising.{later_tests, Planning}

-- ---- what is known

-- the entity's row is in use, where it has one
abbrev pub InUse : Description → ℕ → ℕ → Option ℕ → List ℕ → List ℕ → Type 0
InUse d r c here vs cs = (i : ℕ) → here ≡ Some i → (i < row_count d r) × (((state_of d (holding vs cs) c).rows r i 1).value ≢ 0)

-- ---- the new row

-- x is what the entity's new cell in column k borrows from level a
abbrev pub Borrows : Description → ℕ → ℕ → Cell → ℕ → ℕ → List ℕ → List ℕ → Cell → Type 0
Borrows d c r entity k a vs cs x = x ≡ borrowed d (at d (rows_of (sight d c vs cs))) c r entity k a

-- x is the entity's new cell in column k
abbrev pub Makes : Description → ℕ → ℕ → Cell → List ℕ → ℕ → List ℕ → List ℕ → Cell → Type 0
Makes d c r entity list k vs cs x = x ≡ raised d (at d (rows_of (sight d c vs cs))) c r entity list k

-- ---- the effect

-- a plan for the entity's row i was carried through
pub record Carries (d : Description) (r c i : ℕ) (news : News) (S S' : State) : Type 0 where
  pub plan : Plan
  pub planning : Planning i news plan
  pub is : S' ≡ carried d c r plan S

-- where the entity had a row, what differed above from the new row became null, and all else stays
unfoldable pub Reached : Description → ℕ → ℕ → News → State → Option ℕ → State → Type 0
Reached d r c news S None S' = S' ≡ S
Reached d r c news S (Some i) S' = Carries d r c i news S S'

abbrev pub Reaches : Description → ℕ → ℕ → News → Option ℕ → List ℕ → List ℕ → List ℕ → List ℕ → Type 0
Reaches d r c news here vs cs vs' cs' = Reached d r c news (state_of d (holding vs cs)) here (state_of d (holding vs' cs'))

-- ---- the statement

-- an entity that is there and is the only one is raised where the tests after that pass
abbrev pub Raises : Description → ℕ → ℕ → Cell → List ℕ → List ℕ → List ℕ → List ℕ → List ℕ → Answer → Type 0
Raises d c r entity list vs cs = Answered d c (later_tests d c r entity list (sight d c vs cs)) 1 (uplevelled d c r entity list (rows_of (sight d c vs cs))) vs cs
