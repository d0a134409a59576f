-- What the statements' functions know and promise.
-- Assumes nothing: these are definitions and statements.
use Rattle.std.specs.Prelude.{◌≡◌, Bool, true, List, ℕ, ◌≤◌, ◌<◌, length, get_or}
use Rattle.std.proofs.Math.Option.{none, some}
use Rattle.bounded.specs.Bounded.{count_below}
use Rattle.bounded.specs.Lists.{write_at}
use Rattle.model.specs.declared.Description.{Description}
use Rattle.model.specs.declared.Fault.{Fault}
use Rattle.std.specs.Prelude.{Ok, Err}
use Rattle.model.specs.Answers.{Answer}
use Rattle.model.specs.Description.{is_relation, row_count, total_of, sound}
use Rattle.model.specs.Tables.{State, rows_of, seen}
use Rattle.model.specs.Buffers.{holding, state_of}
use Rattle.model.specs.Judge.{legal}
use Rattle.model.specs.Conditions.{met}
use Rattle.model.specs.Listed.{listed}
use Rattle.model.specs.Effect.{Effect}
use Rattle.model.specs.Insert.{insert_tests, inserted}
use Rattle.model.specs.Delete.{delete_tests, deleted}
use Rattle.model.specs.Update.{update_tests, updated}
use Rattle.model.specs.Uplevel.{uplevel_tests, entity_of, uplevelled}
use Rattle.model.specs.Select.{Shown, select_tests, found, values_shown, owners_shown}
use Rattle.model.specs.Run.{first_fault, left}

-- ---- what is known

-- legal tables in two buffers, a relation, and a subject's level
pub record Standing (d : Description) (r c : ℕ) (values classes : List ℕ) : Type 0 where
  pub sound-is : sound d ≡ true
  pub relation : is_relation d r ≡ true
  pub level : c < d.levels
  pub long : length values ≡ total_of d
  pub wide : length classes ≡ total_of d
  pub legal-is : legal d (state_of d (holding values classes)) ≡ true

-- a relation of a sound description, a level, and the length of the values
pub record Naming (d : Description) (r c n : ℕ) : Type 0 where
  pub sound-is : sound d ≡ true
  pub relation : is_relation d r ≡ true
  pub level : c < d.levels
  pub long : n ≡ total_of d

-- what a subject at c sees of the tables in two buffers
abbrev pub sight : Description → ℕ → List ℕ → List ℕ → State
sight d c values classes = seen d c (state_of d (holding values classes))

-- what is listed for column k, 0 where nothing is
unfoldable pub value_listed : List ℕ → ℕ → ℕ
value_listed list k = elim (listed list k) [ none ↦ 0 | some v ↦ v ]

-- nine numbers, those of the first n columns as f has them
pub record Filled (n : ℕ) (f : ℕ → ℕ) (numbers : List ℕ) : Type 0 where
  pub long : length numbers ≡ 9
  pub right : (k : ℕ) → 0 < k → k ≤ n → get_or numbers k 0 ≡ f k

-- ---- what is promised of a statement that writes

-- the first test that fails is answered and every cell stays; where none fails, the count is answered and the tables are what the effect leaves
pub data Answered (d : Description) (c : ℕ) (tests : List (Bool × Fault)) (count : ℕ) (E : Effect) (vs cs vs' cs' : List ℕ) (a : Answer) : Type 0 where
  refuses : (f : Fault) → first_fault tests ≡ some f → a ≡ Err f → vs' ≡ vs → cs' ≡ cs → Answered d c tests count E vs cs vs' cs' a
  does : first_fault tests ≡ none → a ≡ Ok count → state_of d (holding vs' cs') ≡ left d c (some E) (state_of d (holding vs cs)) → Answered d c tests count E vs cs vs' cs' a

-- the rows at c that meet the conditions
unfoldable pub met_rows : Description → ℕ → ℕ → List ℕ → State → ℕ
met_rows d c r conditions S = count_below (row_count d r) (λ i. met d conditions ((S c).rows r i))

abbrev pub Inserts : Description → ℕ → ℕ → List ℕ → List ℕ → List ℕ → List ℕ → List ℕ → Answer → Type 0
Inserts d c r list vs cs = Answered d c (insert_tests d c r list (sight d c vs cs)) 1 (inserted d c r list (sight d c vs cs c).rows) vs cs

abbrev pub Deletes : Description → ℕ → ℕ → List ℕ → List ℕ → List ℕ → List ℕ → List ℕ → Answer → Type 0
Deletes d c r conditions vs cs =
    Answered d c (delete_tests d c r conditions (sight d c vs cs)) (met_rows d c r conditions (sight d c vs cs)) (deleted d c r conditions (sight d c vs cs c).rows) vs cs

abbrev pub Updates : Description → ℕ → ℕ → List ℕ → List ℕ → List ℕ → List ℕ → List ℕ → List ℕ → Answer → Type 0
Updates d c r list conditions vs cs =
    Answered d c (update_tests d c r list conditions (sight d c vs cs)) (met_rows d c r conditions (sight d c vs cs)) (updated d c r list conditions (sight d c vs cs c).rows) vs cs

abbrev pub Uplevels : Description → ℕ → ℕ → ℕ → ℕ → List ℕ → List ℕ → List ℕ → List ℕ → List ℕ → Answer → Type 0
Uplevels d c r key class list vs cs =
    Answered d c (uplevel_tests d c r key class list (sight d c vs cs)) 1
    (uplevelled d c r (entity_of d c r key class (rows_of (sight d c vs cs))) list (rows_of (sight d c vs cs))) vs cs

-- ---- what is promised of SELECT

-- the first test that fails is answered and every cell stays; where none fails, the rows are counted and written
pub data Showed (tests : List (Bool × Fault)) (rows : List Shown) (shown owners shown' owners' : List ℕ) (a : Answer) : Type 0 where
  refuses : (f : Fault) → first_fault tests ≡ some f → a ≡ Err f → shown' ≡ shown → owners' ≡ owners → Showed tests rows shown owners shown' owners' a
  shows : first_fault tests ≡ none → a ≡ Ok (length rows) → shown' ≡ write_at 0 (values_shown rows) shown → owners' ≡ write_at 0 (owners_shown rows) owners
      → Showed tests rows shown owners shown' owners' a

abbrev pub Selects : Description → ℕ → ℕ → List ℕ → List ℕ → List ℕ → List ℕ → List ℕ → List ℕ → List ℕ → List ℕ → Answer → Type 0
Selects d c r list conditions vs cs shown owners =
    Showed (select_tests d c r list conditions shown owners (sight d c vs cs)) (found d c r list conditions (sight d c vs cs)) shown owners
