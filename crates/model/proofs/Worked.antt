-- P1 to P12 (01, "Worked rows"), one list with a single claim, over the definition of one call and on buffers: numbers, counts, every cell.
-- Assumes nothing.
use mathlib.Core.Path.{refl}
use mathlib.Core.List.{List, [], ◌∷◌, ◌++◌}
use Prim.Native.Nat.{ℕ}
use lib.ListN.{replicate}
use Rattle.model.specs.declared.Description.{Description}
use Rattle.model.specs.Tables.{Cell, cell, nocell}
use Rattle.model.specs.Run.{Request}
use Rattle.model.proofs.Computed.{computed}
use Rattle.model.proofs.Build.{insert_at, delete_at, update_at, uplevel_at, key, laid_out, ran, last, Told, told, tells, Each}

-- five levels; "Relations have two rows a level. Relation 1: three columns", "relation 2 (key, reference to 1 ..)"
abbrev pub described : List ℕ → List ℕ → List ℕ → Description
described labels low high =
    record {
      levels = 5;
      labels = labels ++ replicate 11 0;
      relations = 2;
      columns = 0 ∷ 3 ∷ 2 ∷ replicate 6 0;
      rows = 0 ∷ 2 ∷ 2 ∷ replicate 6 0;
      foreign = 0 ∷ 0 ∷ 2 ∷ replicate 6 0;
      refers = 0 ∷ 0 ∷ 1 ∷ replicate 6 0;
      low = low;
      high = high;
    }

-- "Labels 0, 1, 2, 3, 259", "ranges 0 to 4"
abbrev pub five : Description
five = described (0 ∷ 1 ∷ 2 ∷ 3 ∷ 259 ∷ []) (replicate 81 0) (replicate 81 4)

-- one level of relation 1, and one of relation 2: a row and an empty one, or two empty ones
abbrev pub one : Cell → Cell → Cell → List Cell
one x y z = x ∷ y ∷ z ∷ nocell ∷ nocell ∷ nocell ∷ []

abbrev pub no₁ : List Cell
no₁ = one nocell nocell nocell

abbrev pub two : Cell → Cell → List Cell
two x y = x ∷ y ∷ nocell ∷ nocell ∷ []

abbrev pub no₂ : List Cell
no₂ = two nocell nocell

-- relation 1 by level, and relation 2 with rows at levels 1 and 3
abbrev pub levels : List Cell → List Cell → List Cell → List Cell → List Cell → List Cell → List (List Cell)
levels a b c e f g = a ∷ b ∷ c ∷ e ∷ no₁ ∷ no₂ ∷ f ∷ no₂ ∷ g ∷ no₂ ∷ []

-- "level 0: 7/0 20/0 30/0. Level 1: 7/0 21/1 30/0. Level 2: 7/0 20/0 31/2."
abbrev pub x₀ : List Cell
x₀ = one (cell 7 0) (cell 20 0) (cell 30 0)

abbrev pub x₁ : List Cell
x₁ = one (cell 7 0) (cell 21 1) (cell 30 0)

abbrev pub x₂ : List Cell
x₂ = one (cell 7 0) (cell 20 0) (cell 31 2)

-- tables X, with a level 3 of relation 1 and levels 1 and 3 of relation 2
abbrev pub X : List Cell → List Cell → List Cell → List (List Cell)
X e f g = levels x₀ x₁ x₂ e f g

abbrev pub p₁ : Request
p₁ = uplevel_at 3 1 7 255 (2 ∷ 1 ∷ 3 ∷ 2 ∷ [])

abbrev pub p₂ : Request
p₂ = update_at 3 1 (3 ∷ 32 ∷ []) []

abbrev pub p₃ : Request
p₃ = update_at 1 1 (2 ∷ 22 ∷ []) []

abbrev pub p₈ : Request
p₈ = insert_at 3 1 (1 ∷ 7 ∷ 2 ∷ 5 ∷ [])

abbrev pub p₁₂ : Request
p₁₂ = uplevel_at 3 2 50 255 (2 ∷ 1 ∷ [])

-- P1's row, and the one that P8 inserts
abbrev pub row₁ : List Cell
row₁ = one (cell 7 0) (cell 21 1) (cell 31 2)

abbrev pub row₈ : List Cell
row₈ = one (cell 7 3) (cell 5 3) (cell 0 3)

-- the reference of P11
abbrev pub ref : List Cell
ref = two (cell 50 1) (cell 7 1)

unfoldable pub worked : List (Told × Told)
worked =
    let start = laid_out (X no₁ no₂ no₂) in
    -- "P1 UPLEVEL at 3, key 7, column 2 FROM 1, 3 FROM 2: row 7/0 21/1 31/2."
    (told (ran five start p₁), tells 0 1 (X (one (cell 7 0) (cell 21 1) (cell 31 2)) no₂ no₂))
    -- "P2 then UPDATE at 3, column 3 = 32: 7/0 21/1 32/3."
    ∷ (told (last five start p₁ (p₂ ∷ [])), tells 0 1 (X (one (cell 7 0) (cell 21 1) (cell 32 3)) no₂ no₂))
    -- "P3 then UPDATE at 1, column 2 = 22: level 1 has 22/1, level 3 is 7/0 22/1 32/3."
    ∷ (
      told (last five start p₁ (p₂ ∷ p₃ ∷ [])),
      tells 0 1 (levels x₀ (one (cell 7 0) (cell 22 1) (cell 30 0)) x₂ (one (cell 7 0) (cell 22 1) (cell 32 3)) no₂ no₂),
    )
    -- "P4 then DELETE at 1: level 3 is 7/0 0/1 32/3."
    ∷ (
      told (last five start p₁ (p₂ ∷ p₃ ∷ delete_at 1 1 [] ∷ [])),
      tells 0 1 (levels x₀ no₁ x₂ (one (cell 7 0) (cell 0 1) (cell 32 3)) no₂ no₂),
    )
    -- "P5 P3, then UPLEVEL at 1, 2 FROM 0, 3 FROM 0: level 1 is 7/0 20/0 30/0, level 3 as P4."
    ∷ (
      told (last five start p₁ (p₂ ∷ p₃ ∷ uplevel_at 1 1 7 255 (2 ∷ 0 ∷ 3 ∷ 0 ∷ []) ∷ [])),
      tells 0 1 (levels x₀ (one (cell 7 0) (cell 20 0) (cell 30 0)) x₂ (one (cell 7 0) (cell 0 1) (cell 32 3)) no₂ no₂),
    )
    -- "P6 X, UPLEVEL at 3, 2 FROM 2: 7/0 0/2 0/3."
    ∷ (told (ran five start (uplevel_at 3 1 7 255 (2 ∷ 2 ∷ []))), tells 0 1 (X (one (cell 7 0) (cell 0 2) (cell 0 3)) no₂ no₂))
    -- "P7 X, DELETE at 0: all empty, count 1."
    ∷ (told (ran five start (delete_at 0 1 [])), tells 0 1 (levels no₁ no₁ no₁ no₁ no₂ no₂))
    -- "P8 X, INSERT key 7 at 1: 9. At 3 with column 2 = 5: 7/3 5/3 0/3."
    ∷ (told (ran five start (insert_at 1 1 (1 ∷ 7 ∷ []))), tells 9 0 (X no₁ no₂ no₂))
    ∷ (told (ran five start p₈), tells 0 1 (X (one (cell 7 3) (cell 5 3) (cell 0 3)) no₂ no₂))
    -- "P9 after that, UPLEVEL at 4, key 7: 8. With key class 3, 2 FROM 1: 10."
    ∷ (told (last five start p₈ (uplevel_at 4 1 7 255 [] ∷ [])), tells 8 0 (X row₈ no₂ no₂))
    ∷ (told (last five start p₈ (uplevel_at 4 1 7 3 (2 ∷ 1 ∷ []) ∷ [])), tells 10 0 (X row₈ no₂ no₂))
    -- "P10 X, UPLEVEL at 1, 2 FROM 2: 5."
    ∷ (told (ran five start (uplevel_at 1 1 7 255 (2 ∷ 2 ∷ []))), tells 5 0 (X no₁ no₂ no₂))
    -- "P11 P1 plus relation 2 .., level 1: 50/1 7/1. DELETE key 7 from relation 1 at 1: 12; at 0: relation 1 empty, relation 2 is 50/1 0/1."
    ∷ (told (ran five (laid_out (X row₁ ref no₂)) (delete_at 1 1 (key 7))), tells 12 0 (X row₁ ref no₂))
    ∷ (
      told (ran five (laid_out (X row₁ ref no₂)) (delete_at 0 1 (key 7))),
      tells 0 1 (levels no₁ no₁ no₁ no₁ (two (cell 50 1) (cell 0 1)) no₂),
    )
    -- "P12 same, UPLEVEL of 50 at 3, 2 FROM 1: 50/1 7/1. With P8's row at level 3 in place of P1's: 50/1 0/3. With none: 11."
    ∷ (told (ran five (laid_out (X row₁ ref no₂)) p₁₂), tells 0 1 (X row₁ ref (two (cell 50 1) (cell 7 1))))
    ∷ (told (ran five (laid_out (X row₈ ref no₂)) p₁₂), tells 0 1 (X row₈ ref (two (cell 50 1) (cell 0 3))))
    ∷ (told (ran five (laid_out (X no₁ ref no₂)) p₁₂), tells 11 0 (X no₁ ref no₂))
    ∷ []

pub P1-to-P12 : Each worked
unfolding computed worked
P1-to-P12 =
    (refl, (refl, (refl, (refl, (refl, (refl, (refl, (refl, (refl, (refl, (refl, (refl, (refl, (refl, (refl, (refl, (refl, tt)))))))))))))))))
