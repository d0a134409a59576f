-- What the functions of the statement know and promise besides.
-- Assumes nothing: these are definitions and statements.
use Rattle.std.specs.Prelude.{◌≡◌, Bool, true, false, ◌&&◌, List, [], ◌∷◌, ◌++◌, ℕ, suc, ◌+◌, ◌≤◌, ◌<◌, eqb, leb, length, get_or, take, if◌then◌else◌}
use Rattle.bounded.specs.Lists.{list_below, concat_below, write_at}
use Rattle.model.specs.declared.Description.{Description}
use Rattle.model.specs.declared.Fault.TheVariants as Faults
use Rattle.std.specs.Prelude.{Ok, Err}
use Rattle.model.specs.Answers.{Answer}
use Rattle.model.specs.Description.{height_at, column_count}
use Rattle.model.specs.Tables.{Row, State}
use Rattle.model.specs.Select.{Shown, asked, found_at, values_shown, owners_shown}
use Rattle.cells.specs.Changed.{value_at, class_at}
use Rattle.select.specs.declared.At.{At}
use Rattle.select.specs.declared.InOrder.{InOrder}

-- ---- the levels of SELECT

-- a level of height h that is asked for
unfoldable pub wanted : Description → ℕ → List ℕ → ℕ → ℕ → Bool
wanted d c list h l = eqb (height_at d l) h && asked c list l

unfoldable pub level_at : Description → ℕ → List ℕ → ℕ → ℕ → List ℕ
level_at d c list h l = if wanted d c list h l then l ∷ [] else []

-- the levels of height h that are asked for, by number
unfoldable pub levels_at : Description → ℕ → List ℕ → ℕ → List ℕ
levels_at d c list h = concat_below d.levels (level_at d c list h)

-- "Levels come by height, then number"
unfoldable pub shown_levels : Description → ℕ → List ℕ → List ℕ
shown_levels d c list = concat_below 24 (levels_at d c list)

-- the levels that are laid out
abbrev pub held : InOrder → List ℕ
held v = take v.count v.levels

-- the levels that are laid out are these
pub record Holds (xs : List ℕ) (v : InOrder) : Type 0 where
  pub count : v.count ≡ length xs
  pub is : held v ≡ xs
  pub long : length v.levels ≡ 16

-- at most 16 levels of relation r, which has a key
pub record InLevels (d : Description) (r : ℕ) (v : InOrder) : Type 0 where
  pub relation : r < suc d.relations
  pub keyed : 0 < column_count d r
  pub few : v.count ≤ 16
  pub long : length v.levels ≡ 16
  pub level : (i : ℕ) → i < v.count → get_or v.levels i 0 < d.levels

-- the rows found at one of the levels that are laid out, and at all
unfoldable pub level_found : Description → ℕ → List ℕ → State → InOrder → ℕ → List Shown
level_found d r conditions S v i = found_at d r conditions S (get_or v.levels i 0)

unfoldable pub found_in : Description → ℕ → List ℕ → State → InOrder → List Shown
found_in d r conditions S v = concat_below v.count (level_found d r conditions S v)

-- ---- the rows of SELECT

-- a row's values, and its classes, then its TC
unfoldable pub values_of : Description → List ℕ → ℕ → ℕ → ℕ → List ℕ
values_of d values r l i = list_below (column_count d r) (λ k. value_at d values r l i (suc k))

unfoldable pub owners_of : Description → List ℕ → ℕ → ℕ → ℕ → List ℕ
owners_of d classes r l i = list_below (column_count d r) (λ k. class_at d classes r l i (suc k)) ++ (l ∷ [])

-- row i of level l, whose rows are B, where it is chosen
unfoldable pub row_shown : Description → ℕ → (ℕ → Row) → ℕ → Bool → ℕ → List Shown
row_shown d r B l chosen i = if chosen then record { tc = l; cells = list_below (column_count d r) (λ k. B i (suc k)) } ∷ [] else []

-- the start of both buffers
abbrev pub start : At
start = record { values = 0; owners = 0 }

-- there is room for rows in buffers of these lengths
pub record Room (rows : List Shown) (at : At) (m n : ℕ) : Type 0 where
  pub values : at.values + length (values_shown rows) ≤ m
  pub owners : at.owners + length (owners_shown rows) ≤ n

-- the rows are written from a place on, up to another
pub record Wrote (rows : List Shown) (from to : At) (shown owners shown' owners' : List ℕ) : Type 0 where
  pub values-to : to.values ≡ from.values + length (values_shown rows)
  pub owners-to : to.owners ≡ from.owners + length (owners_shown rows)
  pub values-is : shown' ≡ write_at from.values (values_shown rows) shown
  pub owners-is : owners' ≡ write_at from.owners (owners_shown rows) owners

-- the rows stand at the start of both buffers
pub record Stands (rows : List Shown) (shown owners shown' owners' : List ℕ) : Type 0 where
  pub values-is : shown' ≡ write_at 0 (values_shown rows) shown
  pub owners-is : owners' ≡ write_at 0 (owners_shown rows) owners

-- both buffers are as long as the rows need
unfoldable pub fits : List Shown → List ℕ → List ℕ → Bool
fits rows shown owners = leb (length (values_shown rows)) (length shown) && leb (length (owners_shown rows)) (length owners)

-- the rows are counted and written where they fit, and every cell stays where they don't
pub data Filled (rows : List Shown) (shown owners shown' owners' : List ℕ) (a : Answer) : Type 0 where
  short : fits rows shown owners ≡ false → a ≡ Err Faults.Short → shown' ≡ shown → owners' ≡ owners → Filled rows shown owners shown' owners' a
  full : fits rows shown owners ≡ true → a ≡ Ok (length rows) → Stands rows shown owners shown' owners' → Filled rows shown owners shown' owners' a
