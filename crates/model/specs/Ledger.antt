-- What a call is lent to keep, the ledger, and what of it each level keeps, its page. The tables' cells are all of it so far.
-- Assumes nothing: these are definitions.
use Rattle.std.specs.Prelude.{ℕ, Bool, if◌then◌else◌}
use Rattle.model.specs.declared.Description.{Description}
use Rattle.model.specs.Description.{over}
use Rattle.model.specs.Tables.{Level, nolevel, State}
use Rattle.model.specs.Buffers.{Buffers, fitting, state_of, buffers_of}

-- what is lent: the tables' two buffers
pub record Ledger : Type 0 where
  pub tables : Buffers

-- two buffers as a ledger
abbrev pub lending : Buffers → Ledger
lending b = record { tables = b }

-- what is kept at one level: its cells
pub record Page : Type 0 where
  pub cells : Level

abbrev pub nopage : Page
nopage = record { cells = nolevel }

-- by level
abbrev pub Pages : Type 0
Pages = ℕ → Page

abbrev pub cells_of : Pages → State
cells_of P l = (P l).cells

-- "Levels equal or lower are visible": what a subject at c sees
unfoldable pub seen_pages : Description → ℕ → Pages → Pages
seen_pages d c P l = if over d c l then P l else nopage

-- ---- the border between both

-- each buffer has its length
unfoldable pub lent_fits : Description → Ledger → Bool
lent_fits d b = fitting d b.tables

-- the pages that a ledger holds
unfoldable pub pages_of : Description → Ledger → Pages
pages_of d b l = record { cells = state_of d b.tables l }

-- the ledger that holds pages
unfoldable pub ledger_of : Description → Pages → Ledger
ledger_of d P = record { tables = buffers_of d (cells_of P) }
