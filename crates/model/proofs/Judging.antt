-- The judge computed: tables that break exactly one rule, and the same mended.
-- Assumes nothing.
use mathlib.Core.Path.{refl}
use mathlib.Core.List.{List, [], ◌∷◌}
use Prim.Native.Nat.{ℕ}
use lib.ListN.{replicate, set}
use Rattle.model.specs.declared.Description.{Description}
use Rattle.model.specs.Numbers.{verdict_number}
use Rattle.model.specs.Tables.{Cell, cell, nocell}
use Rattle.model.specs.Judge.{judge}
use Rattle.model.proofs.Computed.{computed}
use Rattle.model.proofs.Build.{laid_out, lent, Each}
use Rattle.model.proofs.Worked.{described, five, one, no₁, two, no₂, levels, x₀, x₁, x₂, X, row₁, row₈, ref}

abbrev judged : List (List Cell) → ℕ
judged b = verdict_number (judge five (lent five (laid_out b)))

-- column 3 of relation 1 ends at level 2
abbrev narrow : Description
narrow = described (0 ∷ 1 ∷ 2 ∷ 3 ∷ 259 ∷ []) (replicate 81 0) (set (replicate 81 4) 12 2)

abbrev narrowly : List (List Cell) → ℕ
narrowly b = verdict_number (judge narrow (lent narrow (laid_out b)))

-- one level of relation 1 with two rows
abbrev both : Cell → Cell → Cell → Cell → Cell → Cell → List Cell
both u v w x y z = u ∷ v ∷ w ∷ x ∷ y ∷ z ∷ []

-- Form: a class out of range, of a value and of a null; (0, 255) is right; a class that is no level; a class that TC doesn't dominate
pub form-judged : Each (
    (judged (X no₁ no₂ no₂), 0)
    ∷ (narrowly (X (one (cell 7 3) (cell 5 3) nocell) no₂ no₂), 0)
    ∷ (narrowly (X (one (cell 7 3) (cell 5 3) (cell 6 3)) no₂ no₂), 3)
    ∷ (narrowly (X (one (cell 7 3) (cell 5 3) (cell 0 3)) no₂ no₂), 3)
    ∷ (narrowly (X (one (cell 7 0) (cell 21 1) (cell 6 3)) no₂ no₂), 3)
    ∷ (judged (X (one (cell 7 3) nocell nocell) no₂ no₂), 0)
    ∷ (judged (X (one (cell 7 3) (cell 5 255) nocell) no₂ no₂), 3)
    ∷ (judged (X (one (cell 7 3) (cell 0 9) nocell) no₂ no₂), 3)
    ∷ (judged (X (one (cell 7 3) (cell 0 4) nocell) no₂ no₂), 3)
    ∷ (judged (levels x₀ (one (cell 7 0) (cell 21 1) (cell 0 2)) x₂ no₁ no₂ no₂), 3)
    ∷ [])
unfolding computed
form-judged = (refl, (refl, (refl, (refl, (refl, (refl, (refl, (refl, (refl, (refl, tt))))))))))

-- Entity: a null key, a key without class, a row whose key alone is (0, 255), a class below the key's
pub entity-judged : Each (
    (judged (X (one (cell 0 3) (cell 5 3) (cell 0 3)) no₂ no₂), 3)
    ∷ (judged (X (one (cell 7 255) (cell 0 3) (cell 0 3)) no₂ no₂), 3)
    ∷ (judged (X (one nocell (cell 0 3) nocell) no₂ no₂), 3)
    ∷ (judged (X (one (cell 7 3) (cell 0 1) (cell 0 3)) no₂ no₂), 3)
    ∷ [])
unfolding computed
entity-judged = (refl, (refl, (refl, (refl, tt))))

-- Polyinstantiation: a key twice at one level; two values under one class, null counted as a value
pub polyinstantiation-judged : Each (
    (judged (X (both (cell 7 3) (cell 5 3) (cell 0 3) (cell 8 3) (cell 5 3) (cell 0 3)) no₂ no₂), 0)
    ∷ (judged (X (both (cell 7 3) (cell 5 3) (cell 0 3) (cell 7 3) (cell 5 3) (cell 0 3)) no₂ no₂), 3)
    ∷ (judged (levels x₀ x₁ x₂ (one (cell 7 0) (cell 0 1) (cell 0 3)) no₂ no₂), 3)
    ∷ (judged (levels x₀ no₁ x₂ (one (cell 7 0) (cell 0 1) (cell 0 3)) no₂ no₂), 0)
    ∷ [])
unfolding computed
polyinstantiation-judged = (refl, (refl, (refl, (refl, tt))))

-- Data-borrow: another value than the lender's; the lender borrowed it; the lender has no row; the key's base row is missing
pub borrow-judged : Each (
    (judged (X (one (cell 7 0) (cell 21 1) (cell 31 2)) no₂ no₂), 0)
    ∷ (judged (X (one (cell 7 0) (cell 22 1) (cell 31 2)) no₂ no₂), 3)
    ∷ (judged (X (one (cell 7 0) (cell 20 2) (cell 31 2)) no₂ no₂), 3)
    ∷ (judged (levels x₀ no₁ x₂ (one (cell 7 0) (cell 21 1) (cell 31 2)) no₂ no₂), 3)
    ∷ (judged (levels x₀ x₁ x₂ (one (cell 8 1) (cell 0 3) (cell 0 3)) no₂ no₂), 3)
    ∷ [])
unfolding computed
borrow-judged = (refl, (refl, (refl, (refl, (refl, tt)))))

-- Referential: no row with that key at the same level; borrowed, and another entity there
pub references-judged : Each (
    (judged (X row₁ ref ref), 0)
    ∷ (judged (levels x₀ no₁ x₂ no₁ ref no₂), 3)
    ∷ (judged (X no₁ ref ref), 3)
    ∷ (judged (X row₈ ref ref), 3)
    ∷ (judged (X row₈ ref (two (cell 50 1) (cell 7 3))), 0)
    ∷ [])
unfolding computed
references-judged = (refl, (refl, (refl, (refl, (refl, tt)))))
