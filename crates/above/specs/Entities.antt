-- Which rows of two levels are of one entity, and what is known of the tables in two lists.
-- Assumes nothing: these are definitions and statements.
use Rattle.std.specs.Prelude.{ℕ, Bool, ◌&&◌, List, eqb, length}
use Rattle.model.specs.declared.Description.{Description}
use Rattle.model.specs.Description.{row_count}
use Rattle.model.specs.Tables.{State, rows_of, same, at}
use Rattle.model.specs.Buffers.{holding, state_of}
use Rattle.cells.specs.Layout.{Lent}
use Rattle.above.specs.declared.plan.Plan.{Plan}
use Rattle.above.specs.Facts.{Working, Planned, touched_by}

-- ---- what is known

-- buffers that are long enough, and tables in them that a plan can be carried through
abbrev pub Carrying : Description → ℕ → ℕ → List ℕ → List ℕ → Type 0
Carrying d r c vs cs = Lent d (length vs) (length cs) × Working d r c (state_of d (holding vs cs))

-- a plan for the rows at c
abbrev pub PlannedIn : Description → ℕ → ℕ → Plan → List ℕ → List ℕ → Type 0
PlannedIn d r c P vs cs = Planned d r c P ((state_of d (holding vs cs) c).rows r)

-- ---- rows of one entity

-- the entity of row i at l has a chosen row at c
abbrev pub touched_at : Description → ℕ → Plan → ℕ → State → ℕ → ℕ → Bool
touched_at d r P c S l i = touched_by (row_count d r) P.chosen ((S c).rows r) ((S l).rows r i)

-- the rows with key v at two levels are one entity, or neither exists
abbrev pub same_at : Description → ℕ → State → ℕ → ℕ → ℕ → Bool
same_at d r S a b v = same (at d (rows_of S) r a v 1) (at d (rows_of S) r b v 1)

-- the entity of row i at l has a row at c, or is none and has none
abbrev pub owns_at : Description → ℕ → ℕ → State → ℕ → ℕ → Bool
owns_at d r c S l i = same ((S l).rows r i 1) (at d (rows_of S) r c ((S l).rows r i 1).value 1)

-- and the row's cell in column k is of class c
abbrev pub keeps_at : Description → ℕ → ℕ → State → ℕ → ℕ → ℕ → Bool
keeps_at d r c S l i k = eqb ((S l).rows r i k).class c && owns_at d r c S l i
