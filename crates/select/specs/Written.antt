-- What the functions that write rows promise: shown and owners before, shown' and owners' after, the tables in values and classes.
-- Assumes nothing: these are statements.
use Rattle.model.specs.Answers.{Answer}
use Rattle.std.specs.Prelude.{ℕ, Bool, List}
use Rattle.model.specs.declared.Description.{Description}
use Rattle.model.specs.Buffers.{holding, state_of}
use Rattle.model.specs.Select.{found_at}
use Rattle.select.specs.declared.At.{At}
use Rattle.select.specs.declared.InOrder.{InOrder}
use Rattle.select.specs.Facts.{Wrote, Stands, Filled, row_shown, found_in}

-- row i of level l is written from a place on, up to another, where it is chosen
abbrev pub WroteRow : Description → ℕ → ℕ → Bool → ℕ → At → At → List ℕ → List ℕ → List ℕ → List ℕ → List ℕ → List ℕ → Type 0
WroteRow d r l chosen i from to values classes = Wrote (row_shown d r ((state_of d (holding values classes) l).rows r) l chosen i) from to

-- so are the rows of level l that meet the conditions
abbrev pub WroteLevel : Description → ℕ → ℕ → At → At → List ℕ → List ℕ → List ℕ → List ℕ → List ℕ → List ℕ → List ℕ → Type 0
WroteLevel d r l from to conditions values classes = Wrote (found_at d r conditions (state_of d (holding values classes)) l) from to

-- the rows of every level that is laid out stand at the start of both buffers
abbrev pub WroteLevels : Description → ℕ → InOrder → List ℕ → List ℕ → List ℕ → List ℕ → List ℕ → List ℕ → List ℕ → Type 0
WroteLevels d r laid conditions values classes = Stands (found_in d r conditions (state_of d (holding values classes)) laid)

-- they are counted and written where they fit, and every cell stays where they don't
abbrev pub FilledLevels : Description → ℕ → InOrder → List ℕ → List ℕ → List ℕ → List ℕ → List ℕ → List ℕ → List ℕ → Answer → Type 0
FilledLevels d r laid conditions values classes = Filled (found_in d r conditions (state_of d (holding values classes)) laid)
