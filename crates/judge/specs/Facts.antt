-- What the judge's inner functions know of the numbers and slices that they are given.
-- Assumes nothing: these are definitions and statements.
use Rattle.std.specs.Prelude.{◌≡◌, Bool, true, false, ◌&&◌, ◌||◌, ◌≢◌, ◌⊎◌, List, ℕ, suc, ◌+◌, ◌*◌, ◌≤◌, ◌<◌, eqb, ltb, length, get_or, if◌then◌else◌, Option, Some, None}
use Rattle.bounded.specs.Bounded.{all_below}
use Rattle.model.specs.declared.Description.{Description}
use Rattle.model.specs.Description.{over, column_count, row_count, foreign_of, refers_of, sound}
use Rattle.model.specs.Tables.{Cell, Row, Tables, cell, same, place, at}
use Rattle.model.specs.Buffers.{rows_in}
use Rattle.model.specs.Judge.{fits, cell_right, reference_right, row_right}
use Rattle.keys.specs.declared.areas.Area.{Area}
use Rattle.keys.specs.Facts.{Once, has_bit, area_of}
use Rattle.judge.specs.declared.lenders.Lenders.{Lenders}

-- `reference_right` of a reference to relation t
unfoldable pub names_right : Description → Tables → ℕ → ℕ → Cell → Bool
names_right d T t l x =
    eqb x.value 0
    || (eqb (at d T t l x.value 1).value x.value && same (at d T t x.class x.value 1) (at d T t l x.value 1))

-- what is asked of a row with a key besides that no row before it has the key
unfoldable pub right_row : Description → Tables → ℕ → ℕ → Row → Bool
right_row d T r l R = all_below (column_count d r) (λ k. cell_right d T r l R (suc k)) && reference_right d T r l (R (foreign_of d r))

-- every row of a relation is right, and of every relation
unfoldable pub relation_right : Description → Tables → ℕ → Bool
relation_right d T r = all_below d.levels (λ l. all_below (row_count d r) (λ i. row_right d T r l i))

unfoldable pub tables_right : Description → Tables → Bool
tables_right d T = all_below d.relations (λ r. relation_right d T (suc r))

-- ---- sets of levels

-- the set of the classes that fit in column k of a row at l whose key is of class c
pub record Fitting (d : Description) (r l k c w : ℕ) : Type 0 where
  pub right : (e : ℕ) → has_bit w e ≡ fits d r l k c e

-- the set of the classes that a row at l whose key is of class c may have besides
pub record Between (d : Description) (l c w : ℕ) : Type 0 where
  pub right : (e : ℕ) → has_bit w e ≡ (over d l e && over d e c)

-- ---- a relation

-- What is known of a relation: where its cells and its keys stand, and that no key stands twice at a level.
pub record Ready (d : Description) (vs cs ks : List ℕ) (a : Area) : Type 0 where
  pub sound-is : sound d ≡ true
  pub named : a.relation ≤ 8
  pub depth : a.levels ≡ d.levels
  pub rows : a.rows ≡ row_count d a.relation
  pub cols : a.cols ≡ column_count d a.relation
  pub few : a.rows ≤ 64
  pub wide : a.cols ≤ 8
  pub keyed : 0 < a.cols
  pub size : length vs ≤ 8192
  pub long : length ks ≡ 16384
  pub values : a.start + d.levels * a.rows * a.cols ≤ length vs
  pub classes : a.start + d.levels * a.rows * a.cols ≤ length cs
  pub keys : a.start + d.levels * a.rows ≤ 8192
  pub cells : (l i k : ℕ) → l < d.levels → i < a.rows → k < a.cols
      → rows_in d vs cs a.relation l i (suc k)
      ≡ cell (get_or vs (a.start + (l * a.rows + i) * a.cols + k) 0) (get_or cs (a.start + (l * a.rows + i) * a.cols + k) 0)
  pub key : (l i : ℕ) → l < d.levels → i < a.rows → get_or ks (a.start + l * a.rows + i) 0 ≡ (rows_in d vs cs a.relation l i 1).value
  pub once : (l v : ℕ) → l < d.levels → v ≢ 0 → Once ks (a.start + l * a.rows) a.rows v

-- the relation b that a's foreign key refers to
pub record Refers (d : Description) (vs cs ks : List ℕ) (a b : Area) : Type 0 where
  pub none : a.foreign ≡ None → foreign_of d a.relation ≡ 0
  pub some : (k : ℕ) → a.foreign ≡ Some k → (foreign_of d a.relation ≡ suc k) × (k < a.cols)
  pub refers : b.relation ≡ refers_of d a.relation
  pub ready : a.foreign ≢ None → Ready d vs cs ks b

-- what is known of every relation once it is known that no key stands twice
pub record Laid (d : Description) (vs cs ks ss : List ℕ) : Type 0 where
  pub sound-is : sound d ≡ true
  pub ready : (r : ℕ) → r < d.relations → Ready d vs cs ks (area_of d ss (suc r))
  pub refers : (r : ℕ) → r < d.relations → Refers d vs cs ks (area_of d ss (suc r)) (area_of d ss (get_or d.refers (suc r) 0))
  pub named : (r : ℕ) → r < d.relations → get_or d.refers (suc r) 0 ≤ 8

-- ---- a row

-- a level that exists, and a key
pub record Asked (d : Description) (l v : ℕ) : Type 0 where
  pub level : l < d.levels
  pub key : v ≢ 0

-- where a row stands
pub record Spot (d : Description) (a : Area) (l i row : ℕ) : Type 0 where
  pub level : l < d.levels
  pub below : i < a.rows
  pub stands : row ≡ a.start + (l * a.rows + i) * a.cols

-- a row with a key: where it stands, its key and its key's class
pub record InRow (d : Description) (vs cs : List ℕ) (a : Area) (l i row v c : ℕ) : Type 0 where
  pub level : l < d.levels
  pub below : i < a.rows
  pub stands : row ≡ a.start + (l * a.rows + i) * a.cols
  pub key : v ≡ get_or vs row 0
  pub class : c ≡ get_or cs row 0
  pub real : v ≢ 0

-- where the row of entity (v, c) at level l starts
unfoldable pub lender_of : Tables → Area → ℕ → ℕ → ℕ → Option ℕ
lender_of T a v c l =
    let i = place a.rows (T a.relation l) v in
    if ltb i a.rows && eqb (T a.relation l i 1).class c then Some (a.start + (l * a.rows + i) * a.cols) else None

-- what is asked of column k + 1 of row i at level l, where the tables stand in two lists
abbrev pub right_cell : Description → List ℕ → List ℕ → Area → ℕ → ℕ → ℕ → Bool
right_cell d vs cs a l i k = cell_right d (rows_in d vs cs) a.relation l (rows_in d vs cs a.relation l i) (suc k)

-- and of its reference
abbrev pub right_reference : Description → List ℕ → List ℕ → Area → ℕ → ℕ → Bool
right_reference d vs cs a l i = reference_right d (rows_in d vs cs) a.relation l (rows_in d vs cs a.relation l i (foreign_of d a.relation))

-- what a row's cache holds for each level: nothing, or where the entity's row there starts, or that there is none
pub record Known (d : Description) (T : Tables) (a : Area) (v c : ℕ) (cache : Lenders) : Type 0 where
  pub found-long : length cache.found ≡ 16
  pub absent-long : length cache.absent ≡ 16
  pub right : (e : ℕ) → e < d.levels → (get_or cache.found e None ≡ None) ⊎ (get_or cache.found e None ≡ lender_of T a v c e)
  pub right-absent : (e : ℕ) → e < d.levels → get_or cache.absent e false ≡ true → lender_of T a v c e ≡ None
