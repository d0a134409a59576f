-- What the functions of a step promise.
-- Assumes nothing: these are definitions and statements.
use Rattle.std.specs.Prelude.{ℕ, ◌≡◌, List, Option, Some, Result, Ok, Err, replicate, if◌then◌else◌}
use Rattle.model.specs.declared.Description.{Description}
use Rattle.model.specs.declared.Statement.{Statement}
use Rattle.model.specs.Buffers.{holding}
use Rattle.model.specs.Ledger.{lending}
use Rattle.model.specs.Run.{run}
use Rattle.lines.specs.Written.{Wrote}
use Rattle.register.specs.Calls.{request, Slice, Shared, entering, leaving, reading}
use Rattle.stream.specs.declared.Kept.{Kept}
use Rattle.stream.specs.declared.Stepped.{Stepped}
use Rattle.stream.specs.Step.{Held, Turn, lent, answered}

abbrev pub holds : Option ℕ → Description → List ℕ → List ℕ → Held
holds last d values classes = record { last = last; description = d; room = lending (holding values classes) }

-- what a turn keeps beside the room: for the next record, or where no other is read
abbrev pub kept_of : Turn → Result Kept Kept
kept_of t =
    let kept : Kept = record { last = t.held.last; description = t.held.description } in
    if t.goes then Ok kept else Err kept

-- a record has been taken, and this is kept
abbrev pub taken_of : ℕ → Option ℕ → Description → Stepped
taken_of printed last d = record { printed = printed; kept = Ok (record { last = last; description = d }) }

-- a record has left this turn: what is kept is in the answer and in the buffers for the tables, what is printed is in the text
pub record Took (t : Turn) (text values' classes' text' : List ℕ) (r : Stepped) : Type 0 where
  pub kept-is : r.kept ≡ kept_of t
  pub room-is : lending (holding values' classes') ≡ t.held.room
  pub text-is : Wrote 0 t.text text text' r.printed

-- the record has this turn, with the tables in two slices and the text in a third
abbrev pub Turns : (Held → Turn) → Kept → Slice → Slice → Slice → Stepped → Type 0
Turns turn kept values classes text r =
    Took (turn (holds kept.last kept.description (entering values) (entering classes))) (entering text) (leaving values) (leaving classes) (leaving text) r

-- it has this turn whatever the last kind was
abbrev pub TurnsAfter : (Held → Turn) → Description → Slice → Slice → Slice → Stepped → Type 0
TurnsAfter turn d values classes text r = (last : Option ℕ) → Turns turn (record { last = last; description = d }) values classes text r

-- it has this turn whatever the tables are, and leaves them
abbrev pub TurnsAny : (Held → Turn) → Kept → Slice → Stepped → Type 0
TurnsAny turn kept text r =
    (values classes : List ℕ) → Took (turn (holds kept.last kept.description values classes)) (entering text) values classes (leaving text) r

-- the turn of a statement with its lists: the register's answer
abbrev pub answering : Statement → ℕ → Shared → Shared → Held → Turn
answering statement kind list conditions h =
    answered h kind statement (run h.description (lent h) (request statement (reading list) (reading conditions) (replicate 8192 0) (replicate 9216 0)))

-- so much is printed in that turn, whatever the record's kind
abbrev pub Answers : Statement → Shared → Shared → Description → Slice → Slice → Slice → ℕ → Type 0
Answers statement list conditions d values classes text printed =
    (kind : ℕ) → TurnsAfter (answering statement kind list conditions) d values classes text (taken_of printed (Some kind) d)
