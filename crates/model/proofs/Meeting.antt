-- Conditions computed: each test on values and on classes, met and unmet.
-- Assumes nothing.
use mathlib.Core.Path.{refl}
use mathlib.Core.Bool.{Bool, true, false}
use mathlib.Core.List.{[], ◌∷◌}
use Prim.Native.Nat.{ℕ}
use lib.ListN.{get_or}
use Rattle.model.specs.Tables.{Row, cell, nocell}
use Rattle.model.specs.Conditions.{met}
use Rattle.model.proofs.Computed.{computed}
use Rattle.model.proofs.Build.{Each}
use Rattle.model.proofs.Worked.{five}

-- 7/1 20/2 0/3 0/255
abbrev row : Row
row k = get_or (nocell ∷ cell 7 1 ∷ cell 20 2 ∷ cell 0 3 ∷ nocell ∷ []) k nocell

-- one condition on it: column, mark, test, constant
abbrev meeting : ℕ → ℕ → ℕ → ℕ → Bool
meeting k mark test constant = met five (k ∷ mark ∷ test ∷ constant ∷ []) row

pub values-tested : Each (
    -- 1 equal, 2 not equal
    (meeting 2 0 1 20, true) ∷ (meeting 2 0 1 21, false) ∷ (meeting 2 0 2 20, false) ∷ (meeting 2 0 2 21, true)
    -- 3 less, 4 at most
    ∷ (meeting 2 0 3 21, true) ∷ (meeting 2 0 3 20, false) ∷ (meeting 2 0 4 20, true) ∷ (meeting 2 0 4 19, false)
    -- 5 null
    ∷ (meeting 3 0 5 0, true) ∷ (meeting 2 0 5 0, false)
    -- "A null meets only test 5"
    ∷ (meeting 3 0 1 20, false) ∷ (meeting 3 0 2 20, false) ∷ (meeting 3 0 3 20, false) ∷ (meeting 3 0 4 20, false)
    ∷ [])
unfolding computed
values-tested = (refl, (refl, (refl, (refl, (refl, (refl, (refl, (refl, (refl, (refl, (refl, (refl, (refl, (refl, tt))))))))))))))

-- column 2 has class 2, column 4 none; levels 1 and 2 don't dominate each other
pub classes-tested : Each (
    (meeting 2 1 1 2, true) ∷ (meeting 2 1 1 3, false) ∷ (meeting 2 1 2 2, false) ∷ (meeting 2 1 2 1, true)
    -- "3 is strictly dominated by and 4 dominated by"
    ∷ (meeting 2 1 3 3, true) ∷ (meeting 2 1 3 2, false) ∷ (meeting 2 1 3 0, false) ∷ (meeting 2 1 3 1, false)
    ∷ (meeting 2 1 4 2, true) ∷ (meeting 2 1 4 1, false) ∷ (meeting 2 1 4 0, false)
    ∷ (meeting 4 1 5 0, true) ∷ (meeting 2 1 5 0, false)
    ∷ (meeting 4 1 1 2, false) ∷ (meeting 4 1 2 2, false) ∷ (meeting 4 1 3 2, false) ∷ (meeting 4 1 4 2, false)
    ∷ [])
unfolding computed
classes-tested = (refl, (refl, (refl, (refl, (refl, (refl, (refl, (refl, (refl, (refl, (refl, (refl, (refl, (refl, (refl, (refl, (refl, tt)))))))))))))))))

-- "all must hold"; an empty row meets no condition, not even "null"
pub all_hold : Each (
    (met five [] row, true)
    ∷ (met five (2 ∷ 0 ∷ 1 ∷ 20 ∷ 1 ∷ 0 ∷ 1 ∷ 7 ∷ []) row, true)
    ∷ (met five (2 ∷ 0 ∷ 1 ∷ 20 ∷ 1 ∷ 0 ∷ 1 ∷ 8 ∷ []) row, false)
    ∷ (met five (2 ∷ 0 ∷ 1 ∷ 21 ∷ 1 ∷ 0 ∷ 1 ∷ 7 ∷ []) row, false)
    ∷ (met five [] (λ k. nocell), false)
    ∷ (met five (2 ∷ 0 ∷ 5 ∷ 0 ∷ []) (λ k. nocell), false)
    ∷ [])
unfolding computed
all_hold = (refl, (refl, (refl, (refl, (refl, (refl, tt))))))
