-- The whole of one call: from a description, the ledger, a statement with its lists and its output buffers to an answer, the output buffers
-- and the ledger at exit.
-- Assumes nothing: these are definitions.
use Rattle.std.specs.Prelude.{ℕ, Bool, ◌&&◌, List, [], ◌∷◌, eqb, length, if◌then◌else◌}
use Rattle.std.proofs.Math.Option.{Option, none, some}
use Rattle.bounded.specs.Bounded.{count_below}
use Rattle.bounded.specs.Lists.{write_at}
use Rattle.model.specs.declared.Description.{Description}
use Rattle.model.specs.declared.Statement.{Statement}
use Rattle.model.specs.declared.What.{What}
use Rattle.model.specs.declared.What.TheVariants as Whats
use Rattle.model.specs.declared.Fault.{Fault}
use Rattle.model.specs.declared.Fault.TheVariants as Faults
use Rattle.std.specs.Prelude.{Ok, Err}
use Rattle.model.specs.Answers.{Answer}
use Rattle.model.specs.Description.{is_level, is_relation, row_count, sound}
use Rattle.model.specs.Tables.{State, rows_of, seen}
use Rattle.model.specs.Ledger.{Ledger, Pages, cells_of, lent_fits, pages_of, ledger_of}
use Rattle.model.specs.Judge.{legal_pages}
use Rattle.model.specs.Conditions.{conditions_formed, met}
use Rattle.model.specs.Effect.{Effect, applied}
use Rattle.model.specs.Insert.{insert_formed, insert_tests, inserted}
use Rattle.model.specs.Delete.{delete_tests, deleted}
use Rattle.model.specs.Update.{update_formed, update_tests, updated}
use Rattle.model.specs.Uplevel.{uplevel_formed, uplevel_tests, entity_of, uplevelled}
use Rattle.model.specs.Select.{Shown, select_formed, select_tests, found, values_shown, owners_shown}

-- what a subject hands in: a statement, its two lists, and output buffers for SELECT's values and for its classes and TC
pub record Request : Type 0 where
  pub statement : Statement
  pub list : List ℕ
  pub conditions : List ℕ
  pub shown : List ℕ
  pub owners : List ℕ

abbrev pub subject : Request → ℕ
subject q = q.statement.level

abbrev pub relation : Request → ℕ
relation q = q.statement.relation

-- ---- what is 4

-- a list that the statement doesn't have is empty
unfoldable pub empty : List ℕ → Bool
empty list = eqb (length list) 0

unfoldable pub formed_as : Description → ℕ → What → List ℕ → List ℕ → Bool
formed_as d r Whats.Insert list conditions = insert_formed d r list && empty conditions
formed_as d r Whats.Delete list conditions = empty list && conditions_formed d r conditions
formed_as d r Whats.Update list conditions = update_formed d r list && conditions_formed d r conditions
formed_as d r (Whats.Uplevel key class) list conditions = uplevel_formed d r key class list && empty conditions
formed_as d r Whats.Select list conditions = select_formed d list && conditions_formed d r conditions

-- "subject, relation, column, level or test does not exist; .."
unfoldable pub formed : Description → Request → Bool
formed d q =
    is_level d (subject q) && (is_relation d (relation q) && formed_as d (relation q) q.statement.what q.list q.conditions)

-- ---- the refusal: "Exactly the least that applies is given."

-- the statement's own tests after that, for a subject that sees S
unfoldable pub further : Description → Request → What → State → List (Bool × Fault)
further d q Whats.Insert S = insert_tests d (subject q) (relation q) q.list S
further d q Whats.Delete S = delete_tests d (subject q) (relation q) q.conditions S
further d q Whats.Update S = update_tests d (subject q) (relation q) q.list q.conditions S
further d q (Whats.Uplevel key class) S = uplevel_tests d (subject q) (relation q) key class q.list S
further d q Whats.Select S = select_tests d (subject q) (relation q) q.list q.conditions q.shown q.owners S

-- the first fault whose test fails
unfoldable pub first_fault : List (Bool × Fault) → Option Fault
first_fault [] = none
first_fault (t ∷ ts) = if t.0 then first_fault ts else some t.1

-- the tests of a statement on legal tables, worked out from what its subject sees
unfoldable pub tests : Description → Request → Pages → List (Bool × Fault)
tests d q P = (formed d q, Faults.Malformed) ∷ further d q q.statement.what (seen d (subject q) (cells_of P))

-- all tests of a call, each with the fault that is given where it fails
abbrev pub all_tests : Description → Ledger → Request → List (Bool × Fault)
all_tests d b q =
    (sound d, Faults.Description)
    ∷ (lent_fits d b, Faults.Length)
    ∷ (legal_pages d (pages_of d b), Faults.Illegal)
    ∷ tests d q (pages_of d b)

unfoldable pub refusal : Description → Ledger → Request → Option Fault
refusal d b q = first_fault (all_tests d b q)

-- ---- what is left

-- what a statement that writes does, for a subject that sees S
unfoldable pub effect_as : Description → Request → What → State → Option Effect
effect_as d q Whats.Insert S = some (inserted d (subject q) (relation q) q.list (S (subject q)).rows)
effect_as d q Whats.Delete S = some (deleted d (subject q) (relation q) q.conditions (S (subject q)).rows)
effect_as d q Whats.Update S = some (updated d (subject q) (relation q) q.list q.conditions (S (subject q)).rows)
effect_as d q (Whats.Uplevel key class) S =
    some (uplevelled d (subject q) (relation q) (entity_of d (subject q) (relation q) key class (rows_of S)) q.list (rows_of S))
effect_as d q Whats.Select S = none

-- the cells T after that
unfoldable pub left : Description → ℕ → Option Effect → State → State
left d c none T = T
left d c (some E) T = λ l. record { rows = λ r i. applied d c E (rows_of T) r l i }

-- what each level keeps after it
unfoldable pub after : Description → Request → Pages → Pages
after d q P =
    let T = left d (subject q) (effect_as d q q.statement.what (seen d (subject q) (cells_of P))) (cells_of P) in
    λ l. record { cells = T l }

-- ---- what is answered

-- the rows at c that meet the conditions
unfoldable pub met_count : Description → Request → State → ℕ
met_count d q S = count_below (row_count d (relation q)) (λ i. met d q.conditions ((S (subject q)).rows (relation q) i))

unfoldable pub shown_as : Description → Request → What → State → List Shown
shown_as d q Whats.Insert S = []
shown_as d q Whats.Delete S = []
shown_as d q Whats.Update S = []
shown_as d q (Whats.Uplevel key class) S = []
shown_as d q Whats.Select S = found d (subject q) (relation q) q.list q.conditions S

-- "Counts: INSERT and UPLEVEL 1; DELETE and UPDATE the rows at c that met the conditions; SELECT rows written."
unfoldable pub count_as : Description → Request → What → State → ℕ
count_as d q Whats.Insert S = 1
count_as d q Whats.Delete S = met_count d q S
count_as d q Whats.Update S = met_count d q S
count_as d q (Whats.Uplevel key class) S = 1
count_as d q Whats.Select S = length (shown_as d q Whats.Select S)

-- ---- one call

-- what a subject hears, with its output buffers at exit
pub record Reply : Type 0 where
  pub answer : Answer
  pub shown : List ℕ
  pub owners : List ℕ

pub record Outcome : Type 0 where
  pub reply : Reply
  pub ledger : Ledger

-- "Each refusal has count 0 and changes no buffer."
unfoldable pub refused : Request → Fault → Reply
refused q fault = record { answer = Err fault; shown = q.shown; owners = q.owners }

-- the rows shown stand "from their starts; cells past the last row written stay"
unfoldable pub done : Description → Request → State → Reply
done d q S =
    let rows = shown_as d q q.statement.what S in
    record {
      answer = Ok (count_as d q q.statement.what S);
      shown = write_at 0 (values_shown rows) q.shown;
      owners = write_at 0 (owners_shown rows) q.owners;
    }

unfoldable pub run : Description → Ledger → Request → Outcome
run d b q =
    let P = pages_of d b in
    elim (refusal d b q) [
      | some fault ↦ record { reply = refused q fault; ledger = b }
      | none ↦ record { reply = done d q (seen d (subject q) (cells_of P)); ledger = ledger_of d (after d q P) }
    ]
