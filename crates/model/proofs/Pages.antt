-- The border between a ledger and its pages, both ways, and pages by what they keep. A buffer that is lent besides is one more argument of
-- `page-path` and `ledger-path`, and a line of each law here.
-- Assumes nothing.
use Rattle.std.specs.Prelude.{if◌then◌else◌}
use mathlib.Core.Path.{◌≡◌, refl, ap, fun_ext}
use mathlib.Core.Bool.{Bool, true, false}
use Prim.Native.Nat.{ℕ}
use Rattle.model.specs.declared.Description.{Description}
use Rattle.model.specs.Description.{over}
use Rattle.model.specs.Tables.{nolevel, State, seen}
use Rattle.model.specs.Buffers.{state_of}
use Rattle.model.specs.Ledger.{Ledger, Page, nopage, Pages, cells_of, seen_pages, lent_fits, pages_of, ledger_of}
use Rattle.model.proofs.Border.{Framed, state-framed, buffers-state, state-buffers, buffers-fit}

pub page-path : {p q : Page} → p.cells ≡ q.cells → p ≡ q
page-path e = λ i. record { cells = e i }

pub ledger-path : {a b : Ledger} → a.tables ≡ b.tables → a ≡ b
ledger-path e = λ i. record { tables = e i }

pub pages-cells : (d : Description) (b : Ledger) → cells_of (pages_of d b) ≡ state_of d b.tables
unfolding pages_of
pages-cells d b = refl

-- outside the description pages are empty
pub pages-framed : (d : Description) (b : Ledger) → Framed d (cells_of (pages_of d b))
unfolding pages_of
pages-framed d b = state-framed d b.tables

pub ledger-pages : (d : Description) (b : Ledger) → lent_fits d b ≡ true → ledger_of d (pages_of d b) ≡ b
unfolding lent_fits pages_of ledger_of
ledger-pages d b e = ledger-path (buffers-state d b.tables e)

pub pages-ledger : (d : Description) (P : Pages) → Framed d (cells_of P) → pages_of d (ledger_of d P) ≡ P
unfolding pages_of ledger_of
pages-ledger d P framed = fun_ext (λ l. page-path (ap (λ (S : State). S l) (state-buffers d (cells_of P) framed)))

pub ledger-fits : (d : Description) (P : Pages) → lent_fits d (ledger_of d P) ≡ true
unfolding lent_fits ledger_of
ledger-fits d P = buffers-fit d (cells_of P)

picked : (b : Bool) (p : Page) → (if b then p else nopage).cells ≡ (if b then p.cells else nolevel)
picked true p = refl
picked false p = refl

-- what is seen of pages has the cells that are seen
pub seen-cells : (d : Description) (c : ℕ) (P : Pages) → cells_of (seen_pages d c P) ≡ seen d c (cells_of P)
unfolding seen_pages seen
seen-cells d c P = fun_ext (λ l. picked (over d c l) (P l))
