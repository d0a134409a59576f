-- A computed case for each rule of the statements that P1 to P12 leave open.
-- Assumes nothing.
use mathlib.Core.Path.{◌≡◌, refl}
use mathlib.Core.List.{List, [], ◌∷◌, ◌++◌}
use Prim.Native.Nat.{ℕ}
use lib.ListN.{replicate, set}
use Rattle.model.specs.declared.Description.{Description}
use Rattle.std.specs.Prelude.{Ok, Err}
use Rattle.model.specs.declared.Fault.TheVariants as Faults
use Rattle.model.specs.Tables.{Cell, cell, nocell}
use Rattle.model.specs.Run.{Reply}
use Rattle.model.proofs.Computed.{computed}
use Rattle.model.proofs.Build.{insert_at, delete_at, update_at, uplevel_at, select_at, key, laid_out, lent, ran, last, told, tells, Each}
use Rattle.model.proofs.Worked.{described, five, one, no₁, two, no₂, levels, x₀, x₂, X, row₁, row₈, ref}

-- the worked description with a column whose range ends at a lower level
abbrev narrow : ℕ → ℕ → Description
narrow place high = described (0 ∷ 1 ∷ 2 ∷ 3 ∷ 259 ∷ []) (replicate 81 0) (set (replicate 81 4) place high)

-- ---- DELETE: "a reference whose named row was emptied becomes null, class kept": at level 3 its class is 1, and not its level
pub cleared-reference-keeps-class
    : told (ran five (laid_out (X row₁ ref ref)) (delete_at 0 1 (key 7)))
    ≡ tells 0 1 (levels no₁ no₁ no₁ no₁ (two (cell 50 1) (cell 0 1)) (two (cell 50 1) (cell 0 1)))
unfolding computed
cleared-reference-keeps-class = refl

-- ---- UPDATE: "otherwise that cell becomes own null of its row's level": at level 3 key 7 is another entity than at level 1. Both levels
-- have key 8, which the reference names before.

abbrev eight : Cell → Cell → Cell → List Cell
eight x y z = x ∷ y ∷ z ∷ cell 8 1 ∷ cell 0 1 ∷ cell 0 1 ∷ []

abbrev E : List Cell → List Cell → List Cell → List (List Cell)
E e f g = levels x₀ (eight (cell 7 0) (cell 21 1) (cell 30 0)) x₂ e f g

abbrev before : List Cell
before = two (cell 50 1) (cell 8 1)

abbrev other : List Cell
other = eight (cell 7 3) (cell 5 3) (cell 0 3)

pub handed-reference-in-range
    : told (ran five (laid_out (E other before before)) (update_at 1 2 (2 ∷ 7 ∷ []) []))
    ≡ tells 0 1 (E other ref (two (cell 50 1) (cell 0 3)))
unfolding computed
handed-reference-in-range = refl

-- the reference's range ends at level 1, so that level 3 is out of it: (0, 255)
pub handed-reference-out-of-range
    : told (ran (narrow 20 1) (laid_out (E other before before)) (update_at 1 2 (2 ∷ 7 ∷ []) []))
    ≡ tells 0 1 (E other ref (two (cell 50 1) nocell))
unfolding computed
handed-reference-out-of-range = refl

-- where it is the same entity, the row above takes the reference; and a null is taken like any value
abbrev like : List Cell
like = eight (cell 7 0) (cell 21 1) (cell 31 2)

pub handed-reference-taken : Each (
    (told (ran five (laid_out (E like before before)) (update_at 1 2 (2 ∷ 7 ∷ []) [])), tells 0 1 (E like ref ref))
    ∷ (told (ran five (laid_out (E like before before)) (update_at 1 2 (2 ∷ 0 ∷ []) [])), tells 0 1 (E like (two (cell 50 1) (cell 0 1)) (two (cell 50 1) (cell 0 1))))
    ∷ [])
unfolding computed
handed-reference-taken = (refl, (refl, tt))

-- ---- UPDATE: "cells of class c in that column take the value", a waiting null too
pub waiting-null-filled
    : told (ran five (laid_out (levels x₀ x₀ x₂ (one (cell 7 0) (cell 0 1) (cell 32 3)) no₂ no₂)) (update_at 1 1 (2 ∷ 44 ∷ []) []))
    ≡ tells 0 1 (levels x₀ (one (cell 7 0) (cell 44 1) (cell 30 0)) x₂ (one (cell 7 0) (cell 44 1) (cell 32 3)) no₂ no₂)
unfolding computed
waiting-null-filled = refl

-- ---- UPLEVEL: "own null" where c is out of range, of an unlisted column and of a borrowed reference

pub raised-null-out-of-range
    : told (ran (narrow 12 2) (laid_out (X no₁ no₂ no₂)) (uplevel_at 3 1 7 255 (2 ∷ 1 ∷ [])))
    ≡ tells 0 1 (X (one (cell 7 0) (cell 21 1) nocell) no₂ no₂)
unfolding computed
raised-null-out-of-range = refl

pub borrowed-reference-out-of-range
    : told (ran (narrow 20 1) (laid_out (X row₈ ref no₂)) (uplevel_at 3 2 50 255 (2 ∷ 1 ∷ [])))
    ≡ tells 0 1 (X row₈ ref (two (cell 50 1) nocell))
unfolding computed
borrowed-reference-out-of-range = refl

-- ---- INSERT: "unlisted ones own null" out of range; "freed rows are used again"

pub inserted-null-out-of-range
    : told (ran (narrow 12 2) (laid_out (X no₁ no₂ no₂)) (insert_at 3 1 (1 ∷ 8 ∷ [])))
    ≡ tells 0 1 (X (one (cell 8 3) (cell 0 3) nocell) no₂ no₂)
unfolding computed
inserted-null-out-of-range = refl

abbrev rows : Cell → Cell → List Cell
rows x y = x ∷ cell 0 3 ∷ cell 0 3 ∷ y ∷ cell 0 3 ∷ cell 0 3 ∷ []

pub freed-row-used-again
    : told (last five (laid_out (X (rows (cell 8 3) (cell 9 3)) no₂ no₂)) (delete_at 3 1 (key 8)) (insert_at 3 1 (1 ∷ 6 ∷ []) ∷ []))
    ≡ tells 0 1 (X (rows (cell 6 3) (cell 9 3)) no₂ no₂)
unfolding computed
freed-row-used-again = refl

-- ---- SELECT

-- labels 259, 0, 2, 1, 3, of heights 3, 0, 1, 1, 2; a row at each of the first four levels, two at level 1
abbrev heights : Description
heights = described (259 ∷ 0 ∷ 2 ∷ 1 ∷ 3 ∷ []) (replicate 81 1) (replicate 81 0)

abbrev own : ℕ → ℕ → ℕ → List Cell
own l v w = cell v l ∷ cell w l ∷ cell 0 l ∷ []

abbrev empty : List Cell
empty = nocell ∷ nocell ∷ nocell ∷ []

abbrev ladder : List (List Cell)
ladder = (own 0 30 5 ++ empty) ∷ (own 1 12 6 ++ own 1 11 7) ∷ (own 2 22 8 ++ empty) ∷ (own 3 21 9 ++ empty) ∷ no₁ ∷ no₂ ∷ no₂ ∷ no₂ ∷ no₂ ∷ no₂ ∷ []

-- "Levels come by height, then number; rows by position", in whatever order AT has them
pub selected-in-order
    : ran heights (laid_out ladder) (select_at 0 1 (3 ∷ 0 ∷ 2 ∷ 1 ∷ []) [] (replicate 16 99) (replicate 21 98))
    ≡ record {
      reply = record {
        answer = Ok 5;
        shown = 12 ∷ 6 ∷ 0 ∷ 11 ∷ 7 ∷ 0 ∷ 22 ∷ 8 ∷ 0 ∷ 21 ∷ 9 ∷ 0 ∷ 30 ∷ 5 ∷ 0 ∷ 99 ∷ [];
        owners = replicate 8 1 ++ replicate 4 2 ++ replicate 4 3 ++ replicate 4 0 ++ (98 ∷ []);
      };
      ledger = lent heights (laid_out ladder);
    }
unfolding computed
selected-in-order = refl

-- "none listed: c alone"
pub selected-at-own-level
    : (ran heights (laid_out ladder) (select_at 0 1 [] [] (replicate 3 99) (replicate 4 98))).reply
    ≡ record { answer = Ok 1; shown = 30 ∷ 5 ∷ 0 ∷ []; owners = replicate 4 0 }
unfolding computed
selected-at-own-level = refl

-- "an output buffer is shorter than the rows found fill": one row is 3 values, and 3 classes with TC
abbrev selecting : ℕ → ℕ → Reply
selecting shown owners = (ran heights (laid_out ladder) (select_at 0 1 [] [] (replicate shown 99) (replicate owners 98))).reply

pub values-one-short : selecting 2 4 ≡ record { answer = Err Faults.Short; shown = replicate 2 99; owners = replicate 4 98 }
unfolding computed
values-one-short = refl

pub owners-one-short : selecting 3 3 ≡ record { answer = Err Faults.Short; shown = replicate 3 99; owners = replicate 3 98 }
unfolding computed
owners-one-short = refl

-- ---- counts

-- "DELETE and UPDATE the rows at c that met the conditions"; "No row found is done with count 0"
pub counted : Each (
    (told (ran heights (laid_out ladder) (update_at 1 1 (2 ∷ 6 ∷ []) (key 12))), tells 0 1 ladder)
    ∷ (told (ran heights (laid_out ladder) (delete_at 4 1 [])), tells 0 0 ladder)
    ∷ (told (last heights (laid_out ladder) (update_at 1 1 (2 ∷ 1 ∷ []) []) (delete_at 1 1 [] ∷ [])), tells 0 2 ((own 0 30 5 ++ empty) ∷ no₁ ∷ (own 2 22 8 ++ empty) ∷ (own 3 21 9 ++ empty) ∷ no₁ ∷ no₂ ∷ no₂ ∷ no₂ ∷ no₂ ∷ no₂ ∷ []))
    ∷ [])
unfolding computed
counted = (refl, (refl, (refl, tt)))
