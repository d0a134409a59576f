-- One call of the register: what is handed in, and what comes out.
-- Assumes nothing: these are definitions and statements.
use Rattle.std.specs.Prelude.{◌≡◌, Bool, ◌&&◌, List, ℕ}
use Rattle.std.proofs.Math.Option.{none, some}
use Rattle.std.specs.Borrow.{Bor, MutBor}
use denote.Triple.Both.{Both}
use Rattle.bounded.specs.Lists.{write_at}
use Rattle.model.specs.declared.Description.{Description}
use Rattle.model.specs.declared.Statement.{Statement}
use Rattle.model.specs.declared.Fault.{Fault}
use Rattle.std.specs.Prelude.{Ok, Err}
use Rattle.model.specs.Answers.{Answer}
use Rattle.model.specs.Description.{is_level, is_relation}
use Rattle.model.specs.Buffers.{holding, state_of}
use Rattle.model.specs.Ledger.{lending}
use Rattle.model.specs.Select.{values_shown, owners_shown}
use Rattle.model.specs.Run.{Request, Outcome, subject, formed_as, further, first_fault, effect_as, left, shown_as, count_as, run}
use Rattle.change.specs.Facts.{sight}

abbrev pub request : Statement → List ℕ → List ℕ → List ℕ → List ℕ → Request
request statement list conditions shown owners =
    record { statement = statement; list = list; conditions = conditions; shown = shown; owners = owners }

-- whether a statement is well formed; its output buffers are no part of that
abbrev pub well_formed : Description → Statement → List ℕ → List ℕ → Bool
well_formed d statement list conditions =
    is_level d statement.level
    && (is_relation d statement.relation && formed_as d statement.relation statement.what list conditions)

abbrev pub outcome : Answer → List ℕ → List ℕ → List ℕ → List ℕ → Outcome
outcome answer values classes shown owners =
    record { reply = record { answer = answer; shown = shown; owners = owners }; ledger = lending (holding values classes) }

-- ---- what a call promises

-- a slice that a call is lent to change, as it begins and as it ends
abbrev pub Slice : Type 0
Slice = Both (MutBor (List ℕ)) (MutBor (List ℕ))

abbrev pub entering : Slice → List ℕ
entering s = s.entry.now

abbrev pub leaving : Slice → List ℕ
leaving s = s.exit.now

-- a slice that a call is lent to read
abbrev pub Shared : Type 0
Shared = Both (Bor (List ℕ)) (Bor (List ℕ))

abbrev pub reading : Shared → List ℕ
reading s = s.entry.now

-- one call does what the model's `run` says: the answer, and every buffer as the call ends, are those of the statement, its two lists and
-- the buffers as the call begins
abbrev pub Runs : Description → Statement → Shared → Shared → Slice → Slice → Slice → Slice → Answer → Type 0
Runs d statement list conditions values classes shown owners answer =
    outcome answer (leaving values) (leaving classes) (leaving shown) (leaving owners)
    ≡ run d (lending (holding (entering values) (entering classes)))
    (request statement (reading list) (reading conditions) (entering shown) (entering owners))

-- a statement that is well formed is carried out on the tables' cells: the first of its own tests that fails is answered and every buffer
-- stays; where none fails, its count is answered, the cells are what it leaves, and the rows that it shows are written
pub data Carried (d : Description) (q : Request) (vs cs : List ℕ) (a : Answer) (vs' cs' shown' owners' : List ℕ) : Type 0 where
  refuses : (f : Fault) → first_fault (further d q q.statement.what (sight d (subject q) vs cs)) ≡ some f → a ≡ Err f
      → vs' ≡ vs → cs' ≡ cs → shown' ≡ q.shown → owners' ≡ q.owners → Carried d q vs cs a vs' cs' shown' owners'
  does : first_fault (further d q q.statement.what (sight d (subject q) vs cs)) ≡ none
      → a ≡ Ok (count_as d q q.statement.what (sight d (subject q) vs cs))
      → state_of d (holding vs' cs') ≡ left d (subject q) (effect_as d q q.statement.what (sight d (subject q) vs cs)) (state_of d (holding vs cs))
      → shown' ≡ write_at 0 (values_shown (shown_as d q q.statement.what (sight d (subject q) vs cs))) q.shown
      → owners' ≡ write_at 0 (owners_shown (shown_as d q q.statement.what (sight d (subject q) vs cs))) q.owners
      → Carried d q vs cs a vs' cs' shown' owners'

abbrev pub Carries : Description → Statement → Shared → Shared → Slice → Slice → Slice → Slice → Answer → Type 0
Carries d statement list conditions values classes shown owners answer =
    Carried d (request statement (reading list) (reading conditions) (entering shown) (entering owners)) (entering values) (entering classes) answer
    (leaving values) (leaving classes) (leaving shown) (leaving owners)
