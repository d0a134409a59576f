-- What the functions on conditions know and promise.
-- Assumes nothing: these are definitions and statements.
use Rattle.std.specs.Prelude.{◌≡◌, Bool, true, false, not, ◌&&◌, List, ℕ, ◌≤◌, ◌<◌, eqb, leb, length, get_or, if◌then◌else◌, Option, MatchOption, Result, MatchResult}
use Rattle.bounded.specs.Bounded.{count_below}
use Rattle.model.specs.declared.Description.{Description}
use Rattle.model.specs.Description.{between, over, row_count, column_count}
use Rattle.model.specs.Tables.{Row}
use Rattle.model.specs.Buffers.{holding, state_of}
use Rattle.model.specs.Conditions.{Condition, conditions_formed, meets, met}
use Rattle.cells.specs.Changed.{value_at}
use Rattle.asked.specs.Known.{Ordered}
use Rattle.conditions.specs.declared.condition.Asked.{Asked}
use Rattle.conditions.specs.declared.condition.Test.{Test}
use Rattle.conditions.specs.declared.condition.NoTest.{NoTest}
use Rattle.conditions.specs.declared.condition.Test.TheVariants as Tests

-- the number that stands for a test
unfoldable pub number_of : Test → ℕ
number_of Tests.Equal = 1
number_of Tests.NotEqual = 2
number_of Tests.Less = 3
number_of Tests.AtMost = 4
number_of Tests.Null = 5

-- the condition that was read
abbrev pub asks : Asked → Condition
asks a = record { column = a.column; mark = if a.of_class then 1 else 0; test = number_of a.test; constant = a.constant }

-- the condition that four numbers are
abbrev pub condition_of : List ℕ → Condition
condition_of q = record { column = get_or q 0 0; mark = get_or q 1 0; test = get_or q 2 0; constant = get_or q 3 0 }

-- the test that a number stands for, where it stands for one
abbrev pub Numbers : ℕ → Result Test NoTest → Type 0
Numbers n t = MatchResult t (λ t. number_of t ≡ n) (λ e. between 1 5 n ≡ false)

-- what a condition asks, where its mark and its test are some
abbrev pub Read : Condition → Option Asked → Type 0
Read q a = MatchOption a ((leb q.mark 1 && between 1 5 q.test) ≡ false) (λ a. asks a ≡ q)

-- `meets_test`, where it is known whether x is null, whether it is the constant and whether it is at most the constant
unfoldable pub passes_by : ℕ → Bool → Bool → Bool → Bool
passes_by test null equal most =
    if null then eqb test 5
    else if eqb test 1 then equal
    else if eqb test 2 then not equal
    else if eqb test 3 then most && not equal
    else if eqb test 4 then most
    else false

-- the levels that level a dominates; no number past the line's end is one of them
pub record Line (d : Description) (a : ℕ) (line : List Bool) : Type 0 where
  pub long : length line ≡ 16
  pub right : (b : ℕ) → get_or line b false ≡ over d a b

-- a column that exists, and the levels that a constant dominates
pub record Tested (d : Description) (r : ℕ) (q : Condition) (line : List Bool) : Type 0 where
  pub least : 0 < q.column
  pub most : q.column ≤ column_count d r
  pub tells : Line d q.constant line

-- conditions that are well formed, and the order
pub record Asking (d : Description) (order : List (List Bool)) (r : ℕ) (conditions : List ℕ) : Type 0 where
  pub ordered : Ordered d order
  pub formed : conditions_formed d r conditions ≡ true

-- of the first n rows those are chosen where f is true, and no other
pub record ChosenBy (n : ℕ) (f : ℕ → Bool) (chosen : List Bool) : Type 0 where
  pub long : length chosen ≡ 64
  pub right : (i : ℕ) → i < n → get_or chosen i false ≡ f i
  pub rest : (i : ℕ) → n ≤ i → get_or chosen i false ≡ false

-- of n rows those stay chosen that meet one condition more; the rest are as they were
pub record Narrowed (d : Description) (B : ℕ → Row) (n : ℕ) (q : Condition) (before after : List Bool) : Type 0 where
  pub long : length after ≡ 64
  pub right : (i : ℕ) → i < n → get_or after i false ≡ (get_or before i false && meets d q (B i))
  pub rest : (i : ℕ) → n ≤ i → get_or after i false ≡ get_or before i false

-- the same of the rows of relation r at level l, as two lists hold them
abbrev pub NarrowedAt : Description → ℕ → ℕ → Condition → List ℕ → List ℕ → List Bool → List Bool → Type 0
NarrowedAt d r l q values classes = Narrowed d ((state_of d (holding values classes) l).rows r) (row_count d r) q

-- row i of a level is in use
unfoldable pub used_row : Description → List ℕ → ℕ → ℕ → ℕ → Bool
used_row d values r l i = not (eqb (value_at d values r l i 1) 0)

-- row i of a level is in use and meets every condition
unfoldable pub met_at : Description → List ℕ → (ℕ → Row) → ℕ → Bool
met_at d conditions B i = met d conditions (B i)

-- of the rows of relation r at level l, as two lists hold them, those are chosen
abbrev pub ChosenAt : Description → ℕ → ℕ → List ℕ → List ℕ → List ℕ → List Bool → Type 0
ChosenAt d r l conditions values classes = ChosenBy (row_count d r) (met_at d conditions ((state_of d (holding values classes) l).rows r))

-- n is how many of the first rows are chosen
pub record Counted (rows : ℕ) (chosen : List Bool) (n : ℕ) : Type 0 where
  pub is : n ≡ count_below rows (λ i. get_or chosen i false)
  pub few : n ≤ rows
