-- Refusals computed: where two numbers apply, the least is given; every reason of 4; and no buffer changes.
-- Assumes nothing.
use mathlib.Core.Path.{refl}
use mathlib.Core.List.{List, [], ◌∷◌, ◌++◌}
use Prim.Native.Nat.{ℕ}
use lib.ListN.{replicate, set}
use Rattle.model.specs.declared.Description.{Description}
use Rattle.model.specs.declared.What.TheVariants as Whats
use Rattle.model.specs.Numbers.{answer_number}
use Rattle.model.specs.Tables.{Cell, cell, nocell}
use Rattle.model.specs.Run.{Request}
use Rattle.model.proofs.Computed.{computed}
use Rattle.model.proofs.Build.{request, insert_at, delete_at, update_at, uplevel_at, select_at, key, laid_out, ran, told, tells, Each}
use Rattle.model.proofs.Worked.{described, five, one, no₁, two, no₂, levels, x₀, x₁, x₂, X, row₁, row₈, ref}

abbrev answered : Description → List (List Cell) → Request → ℕ
answered d b q = answer_number (ran d (laid_out b) q).reply.answer

-- ---- the order

-- column 3 of relation 1 ends at level 2
abbrev narrow : Description
narrow = described (0 ∷ 1 ∷ 2 ∷ 3 ∷ 259 ∷ []) (replicate 81 0) (set (replicate 81 4) 12 2)

-- no range at all: L isn't dominated by H
abbrev unsound : Description
unsound = described (0 ∷ 1 ∷ 2 ∷ 3 ∷ 259 ∷ []) (replicate 81 4) (replicate 81 0)

-- a row whose key is null and whose other cells aren't
abbrev illegal : List (List Cell)
illegal = X (one nocell (cell 5 3) nocell) no₂ no₂

-- the same tables with a cell too many
abbrev longer : List (List Cell)
longer = illegal ++ ((nocell ∷ []) ∷ [])

-- level 3 of relation 1 full, and level 1 of relation 2
abbrev full : List (List Cell)
full = X (cell 8 3 ∷ cell 0 3 ∷ cell 0 3 ∷ cell 9 3 ∷ cell 0 3 ∷ cell 0 3 ∷ []) (cell 50 1 ∷ cell 7 1 ∷ cell 51 1 ∷ cell 0 1 ∷ []) no₂

-- key 7 is an entity of level 0, and one of level 3; level 4 has the one of level 0
abbrev several : List (List Cell)
several =
    x₀ ∷ x₁ ∷ x₂ ∷ row₈ ∷ one (cell 7 0) (cell 20 0) (cell 30 0) ∷ no₂ ∷ two (cell 50 1) (cell 7 1) ∷ no₂ ∷ no₂ ∷ no₂ ∷ []

pub least-is-given : Each (
    -- 1 before 2, 2 before 3, 3 before 4
    (answered unsound longer (delete_at 9 1 []), 1)
    ∷ (answered five longer (delete_at 9 1 []), 2)
    ∷ (answered five illegal (delete_at 9 1 []), 3)
    -- INSERT: 4 before 6, 6 before 9, 9 before 11, 11 before 13
    ∷ (answered narrow (X no₁ no₂ no₂) (insert_at 3 1 (3 ∷ 1 ∷ [])), 4)
    ∷ (answered narrow (X row₁ no₂ no₂) (insert_at 3 1 (1 ∷ 7 ∷ 3 ∷ 1 ∷ [])), 6)
    ∷ (answered five (X no₁ ref no₂) (insert_at 1 2 (1 ∷ 50 ∷ 2 ∷ 8 ∷ [])), 9)
    ∷ (answered five full (insert_at 1 2 (1 ∷ 52 ∷ 2 ∷ 8 ∷ [])), 11)
    ∷ (answered five full (insert_at 1 2 (1 ∷ 52 ∷ 2 ∷ 7 ∷ [])), 13)
    -- DELETE: 4 before 12
    ∷ (answered five (X no₁ ref no₂) (delete_at 1 1 (1 ∷ 0 ∷ 9 ∷ 7 ∷ [])), 4)
    ∷ (answered five (X no₁ ref no₂) (delete_at 1 1 []), 12)
    -- UPDATE: 4 before 6, 6 before 11, and 11 only with a row met
    ∷ (answered narrow (X row₁ no₂ no₂) (update_at 3 1 (3 ∷ 1 ∷ 3 ∷ 1 ∷ []) []), 4)
    ∷ (answered (described (0 ∷ 1 ∷ 2 ∷ 3 ∷ 259 ∷ []) (replicate 81 0) (set (replicate 81 4) 20 0)) (X no₁ (two (cell 50 1) nocell) no₂) (update_at 1 2 (2 ∷ 8 ∷ []) []), 6)
    ∷ (answered five (X no₁ ref no₂) (update_at 1 2 (2 ∷ 8 ∷ []) []), 11)
    ∷ (answered five (X no₁ ref no₂) (update_at 1 2 (2 ∷ 8 ∷ []) (key 51)), 0)
    -- UPLEVEL: 4 before 5, 5 before 6, 6 before 7, 7 before 10
    ∷ (answered narrow (X no₁ no₂ no₂) (uplevel_at 1 1 0 255 (3 ∷ 3 ∷ [])), 4)
    ∷ (answered narrow (X no₁ no₂ no₂) (uplevel_at 1 1 7 255 (3 ∷ 3 ∷ [])), 5)
    ∷ (answered five (X no₁ no₂ no₂) (uplevel_at 1 1 7 2 []), 5)
    ∷ (answered narrow (X no₁ no₂ no₂) (uplevel_at 4 1 8 255 (3 ∷ 3 ∷ [])), 6)
    ∷ (answered five (X no₁ no₂ no₂) (uplevel_at 4 1 7 3 (2 ∷ 1 ∷ [])), 7)
    -- 8 before 9 and 10, 9 before 10, 10 before 11, 11 before 13
    ∷ (answered five several (uplevel_at 4 1 7 255 (2 ∷ 1 ∷ [])), 8)
    ∷ (answered five several (uplevel_at 4 1 7 3 (2 ∷ 1 ∷ [])), 9)
    ∷ (answered five (X row₈ ref no₂) (uplevel_at 4 2 50 255 (2 ∷ 0 ∷ [])), 10)
    ∷ (answered five (levels x₀ x₁ x₂ no₁ ref (cell 8 3 ∷ cell 0 3 ∷ cell 9 3 ∷ cell 0 3 ∷ [])) (uplevel_at 3 2 50 255 (2 ∷ 1 ∷ [])), 11)
    ∷ (answered five (levels x₀ x₁ x₂ row₁ ref (cell 8 3 ∷ cell 0 3 ∷ cell 9 3 ∷ cell 0 3 ∷ [])) (uplevel_at 3 2 50 255 (2 ∷ 1 ∷ [])), 13)
    -- SELECT: 4 before 5, 5 before 14
    ∷ (answered five (X no₁ no₂ no₂) (select_at 1 1 (3 ∷ 3 ∷ []) [] [] []), 4)
    ∷ (answered five (X no₁ no₂ no₂) (select_at 1 1 (3 ∷ 1 ∷ []) [] [] []), 5)
    ∷ (answered five (X no₁ no₂ no₂) (select_at 1 1 (0 ∷ 1 ∷ []) [] [] []), 14)
    ∷ [])
unfolding computed
least-is-given =
    (refl, (refl, (refl, (refl, (refl, (refl, (refl, (refl, (refl, (refl, (refl, (refl, (refl, (refl, (refl, (refl, (refl, (refl, (refl, (refl, (refl, (refl, (refl, (refl, (refl, (refl, (refl, tt)))))))))))))))))))))))))))

-- ---- 2: either buffer a cell too short or too long

abbrev lengths : ℕ → ℕ → ℕ
lengths values classes =
    answer_number (ran five (record { values = replicate values 0; classes = replicate classes 255 }) (delete_at 0 1 [])).reply.answer

pub lengths-held : Each (
    (lengths 50 50, 0) ∷ (lengths 49 50, 2) ∷ (lengths 51 50, 2) ∷ (lengths 50 49, 2) ∷ (lengths 50 51, 2) ∷ (lengths 49 49, 2) ∷ (lengths 0 0, 2)
    ∷ [])
unfolding computed
lengths-held = (refl, (refl, (refl, (refl, (refl, (refl, (refl, tt)))))))

-- ---- 4, reason by reason

abbrev malformed : Request → ℕ
malformed q = answered five (X no₁ no₂ no₂) q

pub existence-asked : Each (
    -- subject, relation
    (malformed (delete_at 5 1 []), 4) ∷ (malformed (delete_at 40 1 []), 4) ∷ (malformed (delete_at 1 0 []), 4) ∷ (malformed (delete_at 1 3 []), 4)
    -- column
    ∷ (malformed (insert_at 3 1 (1 ∷ 8 ∷ 4 ∷ 1 ∷ [])), 4) ∷ (malformed (insert_at 3 1 (1 ∷ 8 ∷ 0 ∷ 1 ∷ [])), 4)
    ∷ (malformed (update_at 1 1 (4 ∷ 1 ∷ []) []), 4) ∷ (malformed (uplevel_at 1 1 7 255 (4 ∷ 0 ∷ [])), 4)
    ∷ (malformed (delete_at 1 1 (0 ∷ 0 ∷ 1 ∷ 7 ∷ [])), 4) ∷ (malformed (delete_at 1 1 (4 ∷ 0 ∷ 1 ∷ 7 ∷ [])), 4)
    -- level: FROM, key class, AT
    ∷ (malformed (uplevel_at 1 1 7 255 (2 ∷ 5 ∷ [])), 4) ∷ (malformed (uplevel_at 1 1 7 5 []), 4) ∷ (malformed (uplevel_at 1 1 7 256 []), 4)
    ∷ (malformed (select_at 1 1 (5 ∷ []) [] [] []), 4)
    -- test
    ∷ (malformed (delete_at 1 1 (1 ∷ 0 ∷ 0 ∷ 7 ∷ [])), 4) ∷ (malformed (delete_at 1 1 (1 ∷ 0 ∷ 6 ∷ 7 ∷ [])), 4)
    ∷ [])
unfolding computed
existence-asked = (refl, (refl, (refl, (refl, (refl, (refl, (refl, (refl, (refl, (refl, (refl, (refl, (refl, (refl, (refl, (refl, tt))))))))))))))))

pub twice-refused : Each (
    (malformed (insert_at 3 1 (1 ∷ 8 ∷ 1 ∷ 8 ∷ [])), 4) ∷ (malformed (insert_at 3 1 (1 ∷ 8 ∷ 2 ∷ 5 ∷ 3 ∷ 6 ∷ 2 ∷ 5 ∷ [])), 4)
    ∷ (malformed (update_at 1 1 (2 ∷ 5 ∷ 2 ∷ 5 ∷ []) []), 4) ∷ (malformed (uplevel_at 1 1 7 255 (2 ∷ 0 ∷ 2 ∷ 0 ∷ [])), 4)
    ∷ (malformed (select_at 3 1 (1 ∷ 0 ∷ 1 ∷ []) [] [] []), 4)
    ∷ [])
unfolding computed
twice-refused = (refl, (refl, (refl, (refl, (refl, tt)))))

-- "over 4 conditions; a bad constant or value/class mark"
abbrev four : List ℕ
four = key 7 ++ key 7 ++ key 7 ++ key 7

pub conditions-held : Each (
    (malformed (delete_at 1 1 four), 0) ∷ (malformed (delete_at 1 1 (four ++ key 7)), 4)
    -- a value constant is not 0, a class constant is a level, test 5 has 0
    ∷ (malformed (delete_at 1 1 (1 ∷ 0 ∷ 1 ∷ 0 ∷ [])), 4) ∷ (malformed (delete_at 1 1 (1 ∷ 1 ∷ 1 ∷ 0 ∷ [])), 0) ∷ (malformed (delete_at 1 1 (1 ∷ 1 ∷ 1 ∷ 5 ∷ [])), 4)
    ∷ (malformed (delete_at 1 1 (2 ∷ 0 ∷ 5 ∷ 0 ∷ [])), 0) ∷ (malformed (delete_at 1 1 (2 ∷ 0 ∷ 5 ∷ 1 ∷ [])), 4) ∷ (malformed (delete_at 1 1 (2 ∷ 1 ∷ 5 ∷ 1 ∷ [])), 4)
    -- a class constant need not be dominated by c
    ∷ (malformed (delete_at 1 1 (1 ∷ 1 ∷ 1 ∷ 4 ∷ [])), 0)
    ∷ (malformed (delete_at 1 1 (1 ∷ 2 ∷ 1 ∷ 1 ∷ [])), 4) ∷ (malformed (delete_at 1 1 (1 ∷ 7 ∷ 5 ∷ 0 ∷ [])), 4)
    ∷ [])
unfolding computed
conditions-held = (refl, (refl, (refl, (refl, (refl, (refl, (refl, (refl, (refl, (refl, (refl, tt)))))))))))

-- "key missing or 0; key in SET or FROM list; empty SET"
pub keys-held : Each (
    (malformed (insert_at 3 1 (2 ∷ 5 ∷ [])), 4) ∷ (malformed (insert_at 3 1 []), 4) ∷ (malformed (insert_at 3 1 (1 ∷ 0 ∷ [])), 4)
    ∷ (malformed (uplevel_at 1 1 0 255 []), 4) ∷ (malformed (update_at 1 1 (1 ∷ 8 ∷ []) []), 4) ∷ (malformed (uplevel_at 1 1 7 255 (1 ∷ 0 ∷ [])), 4)
    ∷ (malformed (update_at 1 1 [] []), 4)
    ∷ [])
unfolding computed
keys-held = (refl, (refl, (refl, (refl, (refl, (refl, (refl, tt)))))))

-- a list that is cut, and a list that the statement doesn't have
pub lists-held : Each (
    (malformed (insert_at 3 1 (1 ∷ 8 ∷ 2 ∷ [])), 4) ∷ (malformed (update_at 1 1 (2 ∷ 5 ∷ 3 ∷ []) []), 4) ∷ (malformed (uplevel_at 1 1 7 255 (2 ∷ [])), 4)
    ∷ (malformed (delete_at 1 1 (1 ∷ 0 ∷ 1 ∷ [])), 4) ∷ (malformed (select_at 1 1 [] (1 ∷ []) [] []), 4)
    ∷ (malformed (request 1 1 Whats.Delete (2 ∷ 5 ∷ []) []), 4) ∷ (malformed (request 3 1 Whats.Insert (1 ∷ 8 ∷ []) (key 7)), 4)
    ∷ (malformed (request 1 1 (Whats.Uplevel 7 255) [] (key 7)), 4)
    ∷ [])
unfolding computed
lists-held = (refl, (refl, (refl, (refl, (refl, (refl, (refl, (refl, tt))))))))

-- ---- "Each refusal has count 0 and changes no buffer."
pub refusal-changes-nothing : Each (
    (told (ran five (laid_out illegal) (delete_at 0 1 [])), tells 3 0 illegal)
    ∷ (told (ran five (laid_out longer) (delete_at 0 1 [])), tells 2 0 longer)
    ∷ (told (ran unsound (laid_out longer) (delete_at 0 1 [])), tells 1 0 longer)
    ∷ (told (ran five (laid_out several) (uplevel_at 4 1 7 255 [])), tells 8 0 several)
    ∷ [])
unfolding computed
refusal-changes-nothing = (refl, (refl, (refl, (refl, tt))))
