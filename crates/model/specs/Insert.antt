-- INSERT (columns and values).
-- Assumes nothing: these are definitions.
use Rattle.std.specs.Prelude.{ℕ, Bool, true, false, not, ◌&&◌, List, [], ◌∷◌, eqb, if◌then◌else◌}
use Rattle.std.proofs.Math.Option.{none, some}
use Rattle.model.specs.declared.Description.{Description}
use Rattle.model.specs.declared.Fault.{Fault}
use Rattle.model.specs.declared.Fault.TheVariants as Faults
use Rattle.model.specs.Description.{is_column, foreign_of, in_range}
use Rattle.model.specs.Tables.{Row, Tables, cell, used, at, own_null, State, rows_of}
use Rattle.model.specs.Listed.{whole, each, listed, columns_once}
use Rattle.model.specs.Effect.{Rows, Effect, keep, lowest_empty, has_room, names_row}

-- the key that is listed, 0 for none
unfoldable pub key_listed : List ℕ → ℕ
key_listed list = elim (listed list 1) [ none ↦ 0 | some v ↦ v ]

-- 4: every column exists and none is listed twice; "key missing or 0"
unfoldable pub insert_formed : Description → ℕ → List ℕ → Bool
insert_formed d r list =
    whole 2 list && (each (λ k v. is_column d r k) list && (columns_once list && not (eqb (key_listed list) 0)))

-- a reference that is listed is null or has its row at c
unfoldable pub listed_names : Description → ℕ → ℕ → List ℕ → Tables → Bool
listed_names d c r list T = elim (listed list (foreign_of d r)) [ none ↦ true | some v ↦ names_row d c r T v ]

unfoldable pub insert_tests : Description → ℕ → ℕ → List ℕ → State → List (Bool × Fault)
insert_tests d c r list S =
    -- "c outside the range of a listed INSERT column"
    (each (λ k v. in_range d r k c) list, Faults.Range)
    -- "key present at c"
    ∷ (not (used (at d (rows_of S) r c (key_listed list))), Faults.Taken)
    -- "non-null reference and no row with that key at c"
    ∷ (listed_names d c r list (rows_of S), Faults.Reference)
    -- "a new row is needed and none is empty"
    ∷ (has_room d (S c).rows r, Faults.Full)
    ∷ []

-- "listed cells become (value, c), unlisted ones own null"
unfoldable pub new_row : Description → ℕ → ℕ → List ℕ → Row
new_row d c r list k = elim (listed list k) [ none ↦ own_null d r k c | some v ↦ cell v c ]

unfoldable pub inserted : Description → ℕ → ℕ → List ℕ → Rows → Effect
inserted d c r list B =
    record {
      own = λ s i. if eqb s r && eqb i (lowest_empty d B r) then new_row d c r list else B s i;
      above = record { gone = λ s v. false; change = λ s v k. keep };
    }
