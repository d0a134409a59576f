-- When a description is sound, computed on both sides of every limit. Each description that isn't differs from one that is in one thing.
-- Assumes nothing.
use mathlib.Core.Path.{refl}
use mathlib.Core.Bool.{true, false}
use mathlib.Core.List.{List, [], ◌∷◌, ◌++◌}
use Prim.Native.Nat.{ℕ}
use lib.ListN.{replicate, set}
use Rattle.model.specs.declared.Description.{Description}
use Rattle.model.specs.Description.{sound}
use Rattle.model.proofs.Computed.{computed}
use Rattle.model.proofs.Build.{Each}
use Rattle.model.proofs.Worked.{described}

-- a description of some relations that are alike, with no foreign key and every range from level 0 to level 0
abbrev alike : ℕ → List ℕ → ℕ → ℕ → ℕ → Description
alike levels labels relations columns rows =
    record {
      levels = levels;
      labels = labels;
      relations = relations;
      columns = replicate 11 columns;
      rows = replicate 11 rows;
      foreign = replicate 11 0;
      refers = replicate 11 0;
      low = replicate 121 0;
      high = replicate 121 0;
    }

-- sixteen labels, none of them 0, so that what lies behind the array would be another one
abbrev sixteen : List ℕ
sixteen = 1 ∷ 2 ∷ 3 ∷ 4 ∷ 5 ∷ 6 ∷ 7 ∷ 8 ∷ 9 ∷ 10 ∷ 11 ∷ 12 ∷ 13 ∷ 14 ∷ 15 ∷ 16 ∷ []

-- "1 to 16 levels"
pub levels-limited : Each (
    (sound (alike 0 sixteen 1 1 1), false)
    ∷ (sound (alike 1 sixteen 1 1 1), true)
    ∷ (sound (alike 16 sixteen 1 1 1), true)
    ∷ (sound (alike 17 sixteen 1 1 1), false)
    ∷ [])
unfolding computed
levels-limited = (refl, (refl, (refl, (refl, tt))))

-- "Each has a distinct label 0 to 4095": also the last one, and only of the levels that there are
pub labels-limited : Each (
    (sound (alike 2 (0 ∷ 4095 ∷ []) 1 1 1), true)
    ∷ (sound (alike 2 (0 ∷ 4096 ∷ []) 1 1 1), false)
    ∷ (sound (alike 2 (4095 ∷ 0 ∷ []) 1 1 1), true)
    ∷ (sound (alike 2 (4096 ∷ 0 ∷ []) 1 1 1), false)
    ∷ (sound (alike 3 (7 ∷ 8 ∷ 7 ∷ []) 1 1 1), false)
    ∷ (sound (alike 2 (7 ∷ 8 ∷ 7 ∷ []) 1 1 1), true)
    ∷ [])
unfolding computed
labels-limited = (refl, (refl, (refl, (refl, (refl, (refl, tt))))))

-- "1 to 8 relations"
pub relations-limited : Each (
    (sound (alike 1 (0 ∷ []) 0 1 1), false)
    ∷ (sound (alike 1 (0 ∷ []) 1 1 1), true)
    ∷ (sound (alike 1 (0 ∷ []) 8 1 1), true)
    ∷ (sound (alike 1 (0 ∷ []) 9 1 1), false)
    ∷ [])
unfolding computed
relations-limited = (refl, (refl, (refl, (refl, tt))))

-- "1 to 8 columns"
pub columns-limited : Each (
    (sound (alike 1 (0 ∷ []) 1 0 1), false)
    ∷ (sound (alike 1 (0 ∷ []) 1 1 1), true)
    ∷ (sound (alike 1 (0 ∷ []) 1 8 1), true)
    ∷ (sound (alike 1 (0 ∷ []) 1 9 1), false)
    ∷ [])
unfolding computed
columns-limited = (refl, (refl, (refl, (refl, tt))))

-- "1 to 64 rows for EACH level"; "64 rows a level accepted, 65 gives 1"
pub rows-limited : Each (
    (sound (alike 1 (0 ∷ []) 1 1 0), false)
    ∷ (sound (alike 1 (0 ∷ []) 1 1 1), true)
    ∷ (sound (alike 1 (0 ∷ []) 1 1 64), true)
    ∷ (sound (alike 1 (0 ∷ []) 1 1 65), false)
    ∷ [])
unfolding computed
rows-limited = (refl, (refl, (refl, (refl, tt))))

-- "8,192 cells accepted, 8,193 gives 1": 16 levels of 64 rows of 8 columns; and 3 levels of 2731 cells a level
abbrev cells : ℕ → Description
cells last =
    record {
      levels = 3;
      labels = 1 ∷ 2 ∷ 3 ∷ [];
      relations = 7;
      columns = 0 ∷ replicate 5 8 ++ 8 ∷ 1 ∷ [];
      rows = 0 ∷ replicate 5 64 ++ 21 ∷ last ∷ [];
      foreign = replicate 9 0;
      refers = replicate 9 0;
      low = replicate 81 0;
      high = replicate 81 0;
    }

pub cells-limited : Each (
    (sound (alike 16 sixteen 1 8 64), true)
    ∷ (sound (alike 16 sixteen 2 8 32), true)
    ∷ (sound (cells 2), true)
    ∷ (sound (cells 3), false)
    ∷ [])
unfolding computed
cells-limited = (refl, (refl, (refl, (refl, tt))))

-- "a range L to H of levels"; "L is dominated by H": column 3 of relation 1
abbrev ranged : ℕ → ℕ → Description
ranged low high = described (0 ∷ 1 ∷ 2 ∷ 3 ∷ 259 ∷ []) (set (replicate 81 0) 12 low) (set (replicate 81 4) 12 high)

pub ranges-limited : Each (
    (sound (ranged 2 2), true)
    ∷ (sound (ranged 1 3), true)
    ∷ (sound (ranged 1 2), false)
    ∷ (sound (ranged 3 1), false)
    ∷ (sound (ranged 0 5), false)
    ∷ (sound (ranged 5 4), false)
    ∷ [])
unfolding computed
ranges-limited = (refl, (refl, (refl, (refl, (refl, (refl, tt))))))

-- "At most one foreign key column, never column 1, referring to a lower-numbered relation's key": relation 2 of two columns, relation 3
abbrev referring : ℕ → ℕ → Description
referring foreign refers =
    record {
      levels = 1;
      labels = 0 ∷ [];
      relations = 3;
      columns = 0 ∷ 3 ∷ 2 ∷ 1 ∷ [];
      rows = 0 ∷ 1 ∷ 1 ∷ 1 ∷ [];
      foreign = 0 ∷ 0 ∷ foreign ∷ 0 ∷ [];
      refers = 0 ∷ 0 ∷ refers ∷ 0 ∷ [];
      low = replicate 81 0;
      high = replicate 81 0;
    }

pub references-limited : Each (
    (sound (referring 0 0), true)
    ∷ (sound (referring 2 1), true)
    ∷ (sound (referring 1 1), false)
    ∷ (sound (referring 3 1), false)
    ∷ (sound (referring 2 0), false)
    ∷ (sound (referring 0 1), false)
    ∷ (sound (referring 2 2), false)
    ∷ (sound (referring 2 3), false)
    ∷ [])
unfolding computed
references-limited = (refl, (refl, (refl, (refl, (refl, (refl, (refl, (refl, tt))))))))
