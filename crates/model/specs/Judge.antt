-- The judge of tables, which computes. That it says yes to exactly the legal tables is a theorem.
-- Assumes nothing: these are definitions.
use Rattle.std.specs.Prelude.{ℕ, suc, Bool, not, ◌&&◌, ◌||◌, eqb, if◌then◌else◌}
use Rattle.bounded.specs.Bounded.{all_below}
use Rattle.model.specs.declared.Description.{Description}
use Rattle.std.specs.Prelude.{Ok, Err}
use Rattle.model.specs.Answers.{Verdict}
use Rattle.model.specs.declared.Fault.TheVariants as Faults
use Rattle.model.specs.Description.{over, column_count, row_count, foreign_of, refers_of, in_range, sound}
use Rattle.model.specs.Tables.{Cell, Row, Tables, nocell, same, used, empty_row, place, at, lends, State, rows_of}
use Rattle.model.specs.Ledger.{Ledger, Pages, cells_of, lent_fits, pages_of}

-- class b may stand in column k of a row at l whose key's class is a: in range, below TC, above the key's
unfoldable pub fits : Description → ℕ → ℕ → ℕ → ℕ → ℕ → Bool
fits d r l k a b = in_range d r k b && (over d l b && over d b a)

-- a cell is (0, 255), or its class may stand there and the cell is what the entity's row at that class lends
unfoldable pub cell_right : Description → Tables → ℕ → ℕ → Row → ℕ → Bool
cell_right d T r l R k =
    same (R k) nocell
    || (fits d r l k (R 1).class (R k).class && same (R k) (lends (at d T r (R k).class (R 1).value) (R 1) k (R k).class))

-- a reference is null, or names a row at l, the same entity as at its class
unfoldable pub reference_right : Description → Tables → ℕ → ℕ → Cell → Bool
reference_right d T r l x =
    eqb x.value 0
    || (eqb (at d T (refers_of d r) l x.value 1).value x.value && same (at d T (refers_of d r) x.class x.value 1) (at d T (refers_of d r) l x.value 1))

-- a row with a key is the first with it, and its cells and its reference are right; any other is empty
unfoldable pub row_right : Description → Tables → ℕ → ℕ → ℕ → Bool
row_right d T r l i =
    if used (T r l i)
    then eqb (place (row_count d r) (T r l) (T r l i 1).value) i
    && (all_below (column_count d r) (λ k. cell_right d T r l (T r l i) (suc k)) && reference_right d T r l (T r l i (foreign_of d r)))
    else empty_row d r (T r l i)

unfoldable pub legal : Description → State → Bool
legal d S = all_below d.relations (λ r. all_below d.levels (λ l. all_below (row_count d (suc r)) (λ i. row_right d (rows_of S) (suc r) l i)))

unfoldable pub legal_pages : Description → Pages → Bool
legal_pages d P = legal d (cells_of P)

-- "a judge of tables (0 for legal, else the least of 1 to 3)"
unfoldable pub judge : Description → Ledger → Verdict
judge d b =
    if not (sound d) then (Err Faults.Description)
    else if not (lent_fits d b) then (Err Faults.Length)
    else if not (legal_pages d (pages_of d b)) then (Err Faults.Illegal)
    else (Ok tt)
