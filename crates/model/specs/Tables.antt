-- Cells, rows and tables (01, "Relations, cells, buffers"). Relations and columns are numbered from 1, levels and rows from 0. What lies
-- outside a description is empty.
-- Assumes nothing: these are definitions.
use Rattle.std.specs.Prelude.{ℕ, suc, Bool, not, ◌&&◌, eqb, ltb, if◌then◌else◌}
use Rattle.bounded.specs.Bounded.{first_below, all_below}
use Rattle.model.specs.declared.Description.{Description}
use Rattle.model.specs.Description.{over, column_count, row_count, in_range}

-- "A value is an unsigned 32-bit number, 0 meaning null. A class is a level number, 255 meaning null."
pub record Cell : Type 0 where
  pub value : ℕ
  pub class : ℕ

abbrev pub cell : ℕ → ℕ → Cell
cell v c = record { value = v; class = c }

abbrev pub nocell : Cell
nocell = cell 0 255

unfoldable pub same : Cell → Cell → Bool
same x y = eqb x.value y.value && eqb x.class y.class

-- by column
abbrev pub Row : Type 0
Row = ℕ → Cell

abbrev pub norow : Row
norow k = nocell

-- "An empty row has value 0 and class 255 throughout."
unfoldable pub empty_row : Description → ℕ → Row → Bool
empty_row d r R = all_below (column_count d r) (λ k. same (R (suc k)) nocell)

-- a row in use, by its key; where the tables are legal, any other row is empty
unfoldable pub used : Row → Bool
used R = not (eqb (R 1).value 0)

-- ---- tables

-- what is stored at one level: the rows, by relation and row; "a row's tuple class (TC) is the level it is stored under"
pub record Level : Type 0 where
  pub rows : ℕ → ℕ → Row

abbrev pub nolevel : Level
nolevel = record { rows = λ r i. norow }

-- by level
abbrev pub State : Type 0
State = ℕ → Level

-- the same by relation, level and row
abbrev pub Tables : Type 0
Tables = ℕ → ℕ → ℕ → Row

abbrev pub rows_of : State → Tables
rows_of S r l i = (S l).rows r i

-- "Levels equal or lower are visible": what a subject at c sees
unfoldable pub seen : Description → ℕ → State → State
seen d c S l = if over d c l then S l else nolevel

-- ---- rows by key

-- the first of n rows with key v, n where there is none
unfoldable pub place : ℕ → (ℕ → Row) → ℕ → ℕ
place n B v = first_below n (λ i. eqb (B i 1).value v)

-- the row itself, an empty one where there is none
unfoldable pub seek : ℕ → (ℕ → Row) → ℕ → Row
seek n B v = if ltb (place n B v) n then B (place n B v) else norow

-- the row with key v of relation r at level l
unfoldable pub at : Description → Tables → ℕ → ℕ → ℕ → Row
at d T r l v = seek (row_count d r) (T r l) v

-- ---- what stands for nothing

-- "Own null at level e is (0, e) if e is in the column's range, else (0, 255)."
unfoldable pub own_null : Description → ℕ → ℕ → ℕ → Cell
own_null d r k e = if in_range d r k e then cell 0 e else nocell

-- what R, the row of a level b, lends an entity's rows in column k: "(v, b) if that entity's row at b holds (v, b), else (0, b)"
unfoldable pub lends : Row → Cell → ℕ → ℕ → Cell
lends R entity k b = if same (R 1) entity && eqb (R k).class b then R k else cell 0 b
