-- What the functions that write above promise of the tables in two lists: vs and cs before, vs' and cs' after.
-- Assumes nothing: these are statements.
use Rattle.std.specs.Prelude.{ℕ, suc, ◌≡◌, List}
use Rattle.model.specs.declared.Description.{Description}
use Rattle.model.specs.Description.{row_count, column_count}
use Rattle.model.specs.Tables.{Row, State}
use Rattle.model.specs.Buffers.{holding, state_of}
use Rattle.cells.specs.Stored.{LevelBecomes, RowBecomes}
use Rattle.above.specs.declared.plan.Plan.{Plan}
use Rattle.above.specs.Facts.{turned, row_after, with_rows, row_unnamed, with_referrer, with_referrers, carried}

-- ---- rows of the relation

-- a row's cells of the subject's class become what the plan makes of them, and all else stays
abbrev pub CellsTurn : Description → ℕ → Plan → ℕ → ℕ → ℕ → List ℕ → List ℕ → List ℕ → List ℕ → Type 0
CellsTurn d r P c l i vs cs =
    RowBecomes d r l i (λ k. turned P.changes c k ((state_of d (holding vs cs) l).rows r i k)) vs cs

-- a row stays, is emptied, or its cells turn, as its entity has a chosen row at the subject's level; and all else stays
abbrev pub RowTurns : Description → ℕ → Plan → ℕ → ℕ → ℕ → List ℕ → List ℕ → List ℕ → List ℕ → Type 0
RowTurns d r P c l i vs cs =
    let S : State = state_of d (holding vs cs) in
    RowBecomes d r l i (row_after (row_count d r) P c ((S c).rows r) ((S l).rows r i)) vs cs

-- the rows of relation s become these, and all else stays
abbrev RowsBecome : Description → ℕ → ℕ → (ℕ → Row) → List ℕ → List ℕ → List ℕ → List ℕ → Type 0
RowsBecome d s l F = LevelBecomes d l (with_rows (row_count d s) (column_count d s) s F)

-- every row turns
abbrev pub RowsTurn : Description → ℕ → Plan → ℕ → ℕ → List ℕ → List ℕ → List ℕ → List ℕ → Type 0
RowsTurn d r P c l vs cs =
    let S : State = state_of d (holding vs cs) in
    RowsBecome d r l (λ i. row_after (row_count d r) P c ((S c).rows r) ((S l).rows r i)) vs cs

-- ---- rows of relation s, which refers to the relation

-- a row's reference becomes null, class kept, where the row that it names is emptied and the subject doesn't hold it; and all else stays
abbrev pub ReferenceTurns : Description → ℕ → Plan → ℕ → ℕ → ℕ → ℕ → List ℕ → List ℕ → List ℕ → List ℕ → Type 0
ReferenceTurns d r P c l s i vs cs =
    let S : State = state_of d (holding vs cs) in
    RowBecomes d s l i (row_unnamed d r P c S l s ((S l).rows s i)) vs cs

-- so do the references of every row
abbrev pub ReferencesTurn : Description → ℕ → Plan → ℕ → ℕ → ℕ → List ℕ → List ℕ → List ℕ → List ℕ → Type 0
ReferencesTurn d r P c l s vs cs =
    let S : State = state_of d (holding vs cs) in
    RowsBecome d s l (λ i. row_unnamed d r P c S l s ((S l).rows s i)) vs cs

-- where relation s refers to the relation at all
abbrev pub ReferrerTurns : Description → ℕ → Plan → ℕ → ℕ → ℕ → List ℕ → List ℕ → List ℕ → List ℕ → Type 0
ReferrerTurns d r P c l s vs cs = LevelBecomes d l (with_referrer d r P c (state_of d (holding vs cs)) l s) vs cs

-- and of every relation that does
abbrev pub ReferrersTurn : Description → ℕ → Plan → ℕ → ℕ → List ℕ → List ℕ → List ℕ → List ℕ → Type 0
ReferrersTurn d r P c l vs cs = LevelBecomes d l (with_referrers (suc d.relations) d r P c (state_of d (holding vs cs)) l) vs cs

-- ---- the levels

-- level l becomes what the statement leaves there, and every other level stays
abbrev pub LevelTurns : Description → ℕ → Plan → ℕ → ℕ → List ℕ → List ℕ → List ℕ → List ℕ → Type 0
LevelTurns d r P c l vs cs = LevelBecomes d l (λ _. carried d c r P (state_of d (holding vs cs)) l) vs cs

-- every level above the subject's does
abbrev pub LevelsTurn : Description → ℕ → Plan → ℕ → List ℕ → List ℕ → List ℕ → List ℕ → Type 0
LevelsTurn d r P c vs cs vs' cs' = state_of d (holding vs' cs') ≡ carried d c r P (state_of d (holding vs cs))
