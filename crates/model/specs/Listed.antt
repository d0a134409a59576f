-- The flat lists beside a statement: pairs of a column and a value or FROM level, and AT levels.
-- Assumes nothing: these are definitions.
use Rattle.std.specs.Prelude.{ℕ, ◌+◌, ◌*◌, ◌/◌, ◌%◌, Bool, List, eqb, ltb, length, get_or, if◌then◌else◌}
use Rattle.std.proofs.Math.Option.{Option, none, some}
use Rattle.bounded.specs.Bounded.{first_below, all_below, any_below}
use Rattle.model.specs.Description.{distinct_below}

-- a list made of entries of n numbers, none cut
unfoldable pub whole : ℕ → List ℕ → Bool
whole n list = eqb (length list % n) 0

-- ---- pairs

unfoldable pub pairs : List ℕ → ℕ
pairs list = length list / 2

unfoldable pub column_at : List ℕ → ℕ → ℕ
column_at list i = get_or list (2 * i) 0

-- a value, or a FROM level
unfoldable pub second_at : List ℕ → ℕ → ℕ
second_at list i = get_or list (2 * i + 1) 0

unfoldable pub each : (ℕ → ℕ → Bool) → List ℕ → Bool
each p list = all_below (pairs list) (λ i. p (column_at list i) (second_at list i))

-- what is listed for column k
unfoldable pub listed : List ℕ → ℕ → Option ℕ
listed list k =
    let i = first_below (pairs list) (λ i. eqb (column_at list i) k) in
    if ltb i (pairs list) then some (second_at list i) else none

unfoldable pub lists : List ℕ → ℕ → Bool
lists list k = any_below (pairs list) (λ i. eqb (column_at list i) k)

-- no column "listed twice"
unfoldable pub columns_once : List ℕ → Bool
columns_once list = distinct_below (pairs list) (column_at list)

-- ---- levels

unfoldable pub among : List ℕ → ℕ → Bool
among list l = any_below (length list) (λ i. eqb (get_or list i 0) l)

unfoldable pub each_level : (ℕ → Bool) → List ℕ → Bool
each_level p list = all_below (length list) (λ i. p (get_or list i 0))

-- no "AT level listed twice"
unfoldable pub levels_once : List ℕ → Bool
levels_once list = distinct_below (length list) (λ i. get_or list i 0)
