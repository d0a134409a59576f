-- DELETE.
-- Assumes nothing: these are definitions.
use Rattle.std.specs.Prelude.{ℕ, suc, Bool, not, ◌&&◌, List, [], ◌∷◌, eqb, if◌then◌else◌}
use Rattle.bounded.specs.Bounded.{any_below}
use Rattle.model.specs.declared.Description.{Description}
use Rattle.model.specs.declared.Fault.{Fault}
use Rattle.model.specs.declared.Fault.TheVariants as Faults
use Rattle.model.specs.Description.{row_count, foreign_of, refers_of}
use Rattle.model.specs.Tables.{Tables, nocell, norow, seek, at, State, rows_of}
use Rattle.model.specs.Conditions.{met}
use Rattle.model.specs.Effect.{Rows, Effect, keep, only}

-- "a row at c refers to a row to be emptied"
unfoldable pub referred : Description → ℕ → ℕ → List ℕ → Tables → Bool
referred d c r conditions T =
    any_below (suc d.relations) (λ s. any_below (row_count d s) (λ i.
    let v = (T s c i (foreign_of d s)).value in
    eqb (refers_of d s) r && (not (eqb v 0) && met d conditions (at d T r c v))))

unfoldable pub delete_tests : Description → ℕ → ℕ → List ℕ → State → List (Bool × Fault)
delete_tests d c r conditions S = (not (referred d c r conditions (rows_of S)), Faults.Referred) ∷ []

unfoldable pub deleted : Description → ℕ → ℕ → List ℕ → Rows → Effect
deleted d c r conditions B =
    record {
      -- "among rows at c that meet the conditions, each is emptied"
      own = λ s i. if eqb s r && met d conditions (B s i) then norow else B s i;
      above = record {
        -- "If its key class is c, every row of that entity above c is emptied"
        gone = λ s v. let R = seek (row_count d s) (B s) v in eqb s r && (met d conditions R && eqb (R 1).class c);
        -- "If its key class is below c, cells of class c in that entity's rows above c become null, class kept."
        change = λ s v k. if eqb s r && met d conditions (seek (row_count d s) (B s) v) then only nocell else keep;
      };
    }
