-- What a statement at level c leaves: new rows at c, and what becomes of the rows above. One definition for all statements.
-- Assumes nothing: these are definitions.
use Rattle.std.specs.Prelude.{ℕ, Bool, not, ◌&&◌, ◌||◌, eqb, ltb, if◌then◌else◌}
use Rattle.bounded.specs.Bounded.{first_below}
use Rattle.model.specs.declared.Description.{Description}
use Rattle.model.specs.Description.{over, row_count, foreign_of, refers_of}
use Rattle.model.specs.Tables.{Cell, Row, Tables, cell, nocell, same, empty_row, used, at, own_null}

-- rows by relation and row: those of one level
abbrev pub Rows : Type 0
Rows = ℕ → ℕ → Row

-- what becomes of a cell of class c above c, in a row of an entity that c has: it stays; it takes a value; it becomes null, class kept,
-- unless it is that very cell
pub data Change : Type 0 where
  keep : Change
  take : ℕ → Change
  only : Cell → Change

pub record Above : Type 0 where
  -- by relation and key: whether c's own entity with that key is deleted
  pub gone : ℕ → ℕ → Bool
  -- by relation, key and column
  pub change : ℕ → ℕ → ℕ → Change

pub record Effect : Type 0 where
  -- the rows at c afterwards
  pub own : Rows
  pub above : Above

-- ---- a row above c

-- a reference to v names at l the entity that it names at c
unfoldable pub agrees : Description → Tables → ℕ → ℕ → ℕ → ℕ → Bool
agrees d W r l c v = same (W (refers_of d r) l v 1) (W (refers_of d r) c v 1)

-- "For a non-null reference, a row above takes it only if the row it would name there is the same entity as at c; otherwise that cell
-- becomes own null of its row's level."
unfoldable pub changed : Description → Tables → ℕ → ℕ → ℕ → ℕ → Change → Cell → Cell
changed d W c r l k keep x = x
changed d W c r l k (take v) x =
    if eqb k (foreign_of d r) && (not (eqb v 0) && not (agrees d W r l c v)) then own_null d r k l else cell v c
changed d W c r l k (only n) x = if same x n then x else cell 0 x.class

-- the row with key v of relation r at level l is emptied: it is of an entity of c's own that is deleted
unfoldable pub gone_at : Description → Tables → ℕ → Above → ℕ → ℕ → ℕ → Bool
gone_at d W c E l v r = E.gone r v && eqb (W r l v 1).class c

-- A row R of relation r at a level l above c, where W finds rows by key: it is emptied; or its cells of class c change, if its entity is one
-- that c has; or "a reference whose named row was emptied becomes null, class kept". That the change is asked for before the reference comes to
-- what the sentences on DELETE say is a theorem, `delete-as-said` (crates/theory/specs/Theorems.antt).
unfoldable pub reach : Description → Tables → ℕ → Above → ℕ → ℕ → Row → Row
reach d W c E r l R k =
    if gone_at d W c E l (R 1).value r then nocell
    else if eqb (R k).class c && same (R 1) (W r c (R 1).value 1) then changed d W c r l k (E.change r (R 1).value k) (R k)
    else if eqb k (foreign_of d r) && gone_at d W c E l (R k).value (refers_of d r) then cell 0 (R k).class
    else R k

-- ---- the tables

-- c's own rows are the new ones, rows above c are reached, all others stay
unfoldable pub carry : Description → Tables → ℕ → Rows → Above → Tables → Tables
carry d W c own E T r l i =
    if eqb l c then own r i else if over d l c then reach d W c E r l (T r l i) else T r l i

unfoldable pub applied : Description → ℕ → Effect → Tables → Tables
applied d c E T = carry d (at d T) c E.own E.above T

-- ---- what several statements ask

-- "A new row takes the lowest empty row of its relation and level"
unfoldable pub lowest_empty : Description → Rows → ℕ → ℕ
lowest_empty d B r = first_below (row_count d r) (λ i. empty_row d r (B r i))

unfoldable pub has_room : Description → Rows → ℕ → Bool
has_room d B r = ltb (lowest_empty d B r) (row_count d r)

-- a reference to v is null or has its row at c
unfoldable pub names_row : Description → ℕ → ℕ → Tables → ℕ → Bool
names_row d c r T v = eqb v 0 || used (at d T (refers_of d r) c v)
