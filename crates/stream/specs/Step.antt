-- What one record does (01, "mlrun").
-- Assumes nothing: these are definitions.
use Rattle.std.specs.Prelude.{ℕ, Bool, true, false, List, [], ◌++◌, eqb, take, drop, replicate, if◌then◌else◌, Option, Some, None, Ok, Err}
use Rattle.model.specs.declared.Description.{Description}
use Rattle.model.specs.declared.Statement.{Statement}
use Rattle.model.specs.Description.{column_count, total_of, sound}
use Rattle.model.specs.Ledger.{Ledger, lending}
use Rattle.model.specs.Run.{Request, Outcome, run}
use Rattle.records.specs.Record.{kind_after}
use Rattle.records.specs.Statements.{read_of, list_of, conditions_of}
use Rattle.records.specs.Descriptions.{is_labels, labelled, is_related, related}
use Rattle.placing.specs.Placing.{placeable, placed}
use Rattle.lines.specs.Lines.{answer_text, refusal_text}

-- what is kept from record to record: the kind of the last one, none where none has come, the description, and room for the ledger
pub record Held : Type 0 where
  pub last : Option ℕ
  pub description : Description
  pub room : Ledger

-- how many cells the tables take; a description that breaks a rule has none
unfoldable pub extent_of : Description → ℕ
extent_of d = if sound d then total_of d else 0

-- the ledger: the first cells of the room
unfoldable pub lent : Held → Ledger
lent h =
    let n = extent_of h.description in
    lending (record { values = take n h.room.tables.values; classes = take n h.room.tables.classes })

-- what is kept after a record of that kind that left this ledger
unfoldable pub keeping : Held → ℕ → Ledger → Held
keeping h kind b =
    let n = extent_of h.description in
    record {
      last = Some kind;
      description = h.description;
      room = lending (record {
        values = b.tables.values ++ drop n h.room.tables.values;
        classes = b.tables.classes ++ drop n h.room.tables.classes;
      });
    }

-- what is kept after a record of that kind that left this description
unfoldable pub describing : Held → ℕ → Description → Held
describing h kind d = record { last = Some kind; description = d; room = h.room }

-- what a record leaves: what is kept, what is printed, and whether the next record is read
pub record Turn : Type 0 where
  pub held : Held
  pub text : List ℕ
  pub goes : Bool

-- "prints `x`, a space and its number from 1, and ends"
unfoldable pub refuses : Held → ℕ → Turn
refuses h number = record { held = h; text = refusal_text number; goes = false }

unfoldable pub silent : Held → Turn
silent h = record { held = h; text = []; goes = true }

unfoldable pub labels_turn : Held → ℕ → List ℕ → Turn
labels_turn h number bytes = if is_labels bytes then silent (describing h 1 (labelled h.description bytes)) else refuses h number

unfoldable pub relation_turn : Held → ℕ → List ℕ → Turn
relation_turn h number bytes = if is_related bytes then silent (describing h 2 (related h.description bytes)) else refuses h number

unfoldable pub row_turn : Held → ℕ → List ℕ → Turn
row_turn h number bytes =
    if placeable h.description (lent h).tables bytes
    then silent (keeping h 3 (lending (placed h.description (lent h).tables bytes)))
    else refuses h number

-- the call of the register, with room for every answer in the output buffers
unfoldable pub call : Statement → List ℕ → Request
call statement bytes =
    record {
      statement = statement;
      list = list_of bytes;
      conditions = conditions_of bytes;
      shown = replicate 8192 0;
      owners = replicate 9216 0;
    }

-- "Each statement prints ..": the register's answer
unfoldable pub answered : Held → ℕ → Statement → Outcome → Turn
answered h kind statement o =
    record {
      held = keeping h kind o.ledger;
      text = answer_text statement.what o.reply.answer (column_count h.description statement.relation) o.reply.shown o.reply.owners;
      goes = true;
    }

-- "a record is read to a statement or to its place of refusal"
unfoldable pub statement_turn : Held → ℕ → ℕ → List ℕ → Turn
statement_turn h kind number bytes =
    elim (read_of bytes number) [
      | Ok read ↦ answered h kind read.statement (run h.description (lent h) (call read.statement bytes))
      | Err place ↦ refuses h place
    ]

-- the record's kind, if it is whole and in order, says what it does
unfoldable pub turn_of : Held → Option ℕ → ℕ → List ℕ → Turn
turn_of h None number bytes = refuses h number
turn_of h (Some kind) number bytes =
    if eqb kind 1 then labels_turn h number bytes
    else if eqb kind 2 then relation_turn h number bytes
    else if eqb kind 3 then row_turn h number bytes
    else statement_turn h kind number bytes

unfoldable pub step : Held → ℕ → List ℕ → Turn
step h number bytes = turn_of h (kind_after h.last bytes) number bytes
