-- SELECT.
-- Assumes nothing: these are definitions.
use Rattle.std.specs.Prelude.{ℕ, suc, Bool, ◌&&◌, List, [], ◌∷◌, ◌++◌, map, eqb, leb, length, if◌then◌else◌}
use Rattle.bounded.specs.Lists.{list_below, concat_below}
use Rattle.model.specs.declared.Description.{Description}
use Rattle.model.specs.declared.Fault.{Fault}
use Rattle.model.specs.declared.Fault.TheVariants as Faults
use Rattle.model.specs.Description.{is_level, over, height_at, column_count, row_count}
use Rattle.model.specs.Tables.{Cell, State}
use Rattle.model.specs.Listed.{among, each_level, levels_once}
use Rattle.model.specs.Conditions.{met}

-- a row that is shown: its TC and its cells
pub record Shown : Type 0 where
  pub tc : ℕ
  pub cells : List Cell

-- 4: every AT level exists and none is listed twice
unfoldable pub select_formed : Description → List ℕ → Bool
select_formed d levels = each_level (is_level d) levels && levels_once levels

-- "rows at the AT levels (none listed: c alone)"
unfoldable pub asked : ℕ → List ℕ → ℕ → Bool
asked c levels l = if eqb (length levels) 0 then eqb l c else among levels l

-- "that meet the conditions, all columns", "rows by position"
unfoldable pub found_at : Description → ℕ → List ℕ → State → ℕ → List Shown
found_at d r conditions S l =
    concat_below (row_count d r) (λ i.
    if met d conditions ((S l).rows r i) then record { tc = l; cells = list_below (column_count d r) (λ k. (S l).rows r i (suc k)) } ∷ [] else [])

-- "Levels come by height, then number": a label of at most 4095 has a height below 24
unfoldable pub found : Description → ℕ → ℕ → List ℕ → List ℕ → State → List Shown
found d c r levels conditions S =
    concat_below 24 (λ h. concat_below d.levels (λ l. if eqb (height_at d l) h && asked c levels l then found_at d r conditions S l else []))

-- "Each output row is its values in one buffer, and its classes then TC in another"
unfoldable pub values_shown : List Shown → List ℕ
values_shown [] = []
values_shown (x ∷ xs) = map (λ (y : Cell). y.value) x.cells ++ values_shown xs

unfoldable pub owners_shown : List Shown → List ℕ
owners_shown [] = []
owners_shown (x ∷ xs) = map (λ (y : Cell). y.class) x.cells ++ (x.tc ∷ owners_shown xs)

unfoldable pub select_tests : Description → ℕ → ℕ → List ℕ → List ℕ → List ℕ → List ℕ → State → List (Bool × Fault)
select_tests d c r levels conditions shown owners S =
    let rows = found d c r levels conditions S in
    -- "an .. AT .. level isn't dominated by c"
    (each_level (over d c) levels, Faults.Unseen)
    -- "an output buffer is shorter than the rows found fill"
    ∷ (leb (length (values_shown rows)) (length shown) && leb (length (owners_shown rows)) (length owners), Faults.Short)
    ∷ []
