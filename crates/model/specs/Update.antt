-- UPDATE.
-- Assumes nothing: these are definitions.
use Rattle.std.specs.Prelude.{ℕ, Bool, false, not, ◌&&◌, ◌||◌, List, [], ◌∷◌, eqb, ltb, length, if◌then◌else◌}
use Rattle.std.proofs.Math.Option.{none, some}
use Rattle.bounded.specs.Bounded.{any_below}
use Rattle.model.specs.declared.Description.{Description}
use Rattle.model.specs.declared.Fault.{Fault}
use Rattle.model.specs.declared.Fault.TheVariants as Faults
use Rattle.model.specs.Description.{row_count, is_column, in_range}
use Rattle.model.specs.Tables.{Row, Tables, cell, seek, State, rows_of}
use Rattle.model.specs.Listed.{whole, each, listed, lists, columns_once}
use Rattle.model.specs.Conditions.{met}
use Rattle.model.specs.Effect.{Rows, Effect, Change, keep, take}
use Rattle.model.specs.Insert.{listed_names}

-- 4: every column exists and none is listed twice; "key in SET"; "empty SET"
unfoldable pub update_formed : Description → ℕ → List ℕ → Bool
update_formed d r list =
    whole 2 list && (each (λ k v. is_column d r k) list && (columns_once list && (not (lists list 1) && ltb 0 (length list))))

unfoldable pub any_met : Description → ℕ → ℕ → List ℕ → Tables → Bool
any_met d c r conditions T = any_below (row_count d r) (λ i. met d conditions (T r c i))

unfoldable pub update_tests : Description → ℕ → ℕ → List ℕ → List ℕ → State → List (Bool × Fault)
update_tests d c r list conditions S =
    -- "c outside the range of a .. SET column"
    (each (λ k v. in_range d r k c) list, Faults.Range)
    -- "UPDATE with a row met ..: non-null reference and no row with that key at c"
    ∷ (not (any_met d c r conditions (rows_of S)) || listed_names d c r list (rows_of S), Faults.Reference)
    ∷ []

-- "each row at c that meets the conditions gets (value, c) in each SET column"
unfoldable pub set_in : ℕ → List ℕ → Row → Row
set_in c list R k = elim (listed list k) [ none ↦ R k | some v ↦ cell v c ]

-- "cells of class c in that column take the value"
unfoldable pub take_in : List ℕ → ℕ → Change
take_in list k = elim (listed list k) [ none ↦ keep | some v ↦ take v ]

unfoldable pub updated : Description → ℕ → ℕ → List ℕ → List ℕ → Rows → Effect
updated d c r list conditions B =
    record {
      own = λ s i. if eqb s r && met d conditions (B s i) then set_in c list (B s i) else B s i;
      above = record {
        gone = λ s v. false;
        change = λ s v k. if eqb s r && met d conditions (seek (row_count d s) (B s) v) then take_in list k else keep;
      };
    }
