-- Conditions (01, "Conditions"), a flat list of column, mark, test and constant.
-- Assumes nothing: these are definitions.
use Rattle.std.specs.Prelude.{ℕ, ◌+◌, ◌*◌, ◌/◌, Bool, false, not, ◌&&◌, List, eqb, leb, length, get_or, if◌then◌else◌}
use Rattle.bounded.specs.Bounded.{all_below}
use Rattle.model.specs.declared.Description.{Description}
use Rattle.model.specs.Description.{between, is_level, is_column, over}
use Rattle.model.specs.Tables.{Row, used}
use Rattle.model.specs.Listed.{whole}

-- "Each names a column, its value or its class, a test and a constant."
pub record Condition : Type 0 where
  pub column : ℕ
  -- 0 for the value, 1 for the class
  pub mark : ℕ
  pub test : ℕ
  pub constant : ℕ

unfoldable pub condition_at : List ℕ → ℕ → Condition
condition_at q i =
    record { column = get_or q (4 * i) 0; mark = get_or q (4 * i + 1) 0; test = get_or q (4 * i + 2) 0; constant = get_or q (4 * i + 3) 0 }

unfoldable pub condition_count : List ℕ → ℕ
condition_count conditions = length conditions / 4

-- ---- what is 4

-- "For tests 1 to 4 a value constant is non-zero and a class constant is a level"; test 5, "whose constant is 0"
unfoldable pub constant_formed : Description → Condition → Bool
constant_formed d q =
    if eqb q.test 5 then eqb q.constant 0
    else if eqb q.mark 0 then not (eqb q.constant 0)
    else is_level d q.constant

unfoldable pub condition_formed : Description → ℕ → Condition → Bool
condition_formed d r q = is_column d r q.column && (leb q.mark 1 && (between 1 5 q.test && constant_formed d q))

-- "Conditions: 0 to 4"
unfoldable pub conditions_formed : Description → ℕ → List ℕ → Bool
conditions_formed d r conditions =
    whole 4 conditions && (leb (condition_count conditions) 4 && all_below (condition_count conditions) (λ i. condition_formed d r (condition_at conditions i)))

-- ---- what meets them

-- "Tests: 1 equal, 2 not equal, 3 less, 4 at most" for x that is not null
unfoldable pub passes : (ℕ → ℕ → Bool) → ℕ → ℕ → ℕ → Bool
passes at_most test x constant =
    if eqb test 1 then eqb x constant
    else if eqb test 2 then not (eqb x constant)
    else if eqb test 3 then at_most x constant && not (eqb x constant)
    else if eqb test 4 then at_most x constant
    else false

-- "A null meets only test 5", and nothing else meets it
unfoldable pub meets_test : (ℕ → ℕ → Bool) → ℕ → Condition → ℕ → Bool
meets_test at_most null q x = if eqb x null then eqb q.test 5 else passes at_most q.test x q.constant

-- "For classes, 3 is strictly dominated by and 4 dominated by."
unfoldable pub meets : Description → Condition → Row → Bool
meets d q R =
    if eqb q.mark 0 then meets_test leb 0 q (R q.column).value
    else meets_test (λ a b. over d b a) 255 q (R q.column).class

-- a row in use that meets all conditions: "all must hold"
unfoldable pub met : Description → List ℕ → Row → Bool
met d conditions R = used R && all_below (condition_count conditions) (λ i. meets d (condition_at conditions i) R)
