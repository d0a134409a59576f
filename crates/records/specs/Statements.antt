-- A record read to a statement or to its place of refusal (01, "mlrun"). Places count from the record's first byte, its header included.
-- Assumes nothing: these are definitions.
use Rattle.std.specs.Prelude.{ℕ, ◌+◌, ◌*◌, Bool, ◌&&◌, List, [], ◌∷◌, eqb, length, if◌then◌else◌, Option, Some, None, Result, Ok, Err}
use Rattle.model.specs.declared.What.{What}
use Rattle.model.specs.declared.What.TheVariants as Whats
use Rattle.model.specs.declared.Statement.{Statement}
use Rattle.records.specs.declared.kinds.Entry.{Entry}
use Rattle.records.specs.declared.kinds.Entry.TheVariants as Entries
use Rattle.records.specs.declared.kinds.Form.{Form}
use Rattle.records.specs.declared.Read.{Read}
use Rattle.records.specs.Bytes.{pair, quad, cell_at, test_at, fields_from, cells_from, tests_from}
use Rattle.records.specs.Record.{whole}
use Rattle.records.specs.Kinds.{width, is_kind, form_of}

abbrev pub kind : List ℕ → ℕ
kind bytes = pair bytes 2

abbrev pub form : List ℕ → Form
form bytes = form_of (kind bytes)

-- what the statement asks for, by its kind
unfoldable pub what_of : List ℕ → What
what_of bytes =
    if eqb (kind bytes) 16 then Whats.Insert
    else if eqb (kind bytes) 17 then Whats.Delete
    else if eqb (kind bytes) 18 then Whats.Update
    else if eqb (kind bytes) 19 then Whats.Uplevel (quad bytes 8) (pair bytes 12)
    else Whats.Select

-- what a record asks for, if its kind is a statement's
unfoldable pub what_read : List ℕ → Option What
what_read bytes = if is_kind (kind bytes) then Some (what_of bytes) else None

-- every statement begins with "level, relation"
unfoldable pub statement_of : List ℕ → Statement
statement_of bytes = record { level = pair bytes 4; relation = pair bytes 6; what = what_of bytes }

-- ---- its lists: "n, n of .."

-- where a list ends that begins at a place
unfoldable pub end_of : List ℕ → Option Entry → ℕ → ℕ
end_of bytes None at = at
end_of bytes (Some entry) at = at + 2 + width entry * pair bytes at

-- the numbers of the entry at a place
unfoldable pub entry_at : List ℕ → Entry → ℕ → List ℕ
entry_at bytes Entries.Level at = pair bytes at ∷ []
entry_at bytes Entries.Borrow at = pair bytes at ∷ pair bytes (at + 2) ∷ []
entry_at bytes Entries.Cell at = cell_at bytes at
entry_at bytes Entries.Condition at = test_at bytes at

-- its numbers
unfoldable pub numbers_of : List ℕ → Option Entry → ℕ → List ℕ
numbers_of bytes None at = []
numbers_of bytes (Some Entries.Level) at = fields_from bytes (at + 2) (pair bytes at)
numbers_of bytes (Some Entries.Borrow) at = fields_from bytes (at + 2) (2 * pair bytes at)
numbers_of bytes (Some Entries.Cell) at = cells_from bytes (at + 2) (pair bytes at)
numbers_of bytes (Some Entries.Condition) at = tests_from bytes (at + 2) (pair bytes at)

-- the statement's list, and where it ends
unfoldable pub list_of : List ℕ → List ℕ
list_of bytes = numbers_of bytes (form bytes).list (form bytes).at

unfoldable pub list_end : List ℕ → ℕ
list_end bytes = end_of bytes (form bytes).list (form bytes).at

-- "Conditions: n, n of (column, 0 value or 1 class, test, constant)": the list behind it
unfoldable pub conditions_of : List ℕ → List ℕ
conditions_of bytes = numbers_of bytes (form bytes).conditions (list_end bytes)

-- ---- the whole

-- the length that the kind and its counts ask
unfoldable pub length_asked : List ℕ → ℕ
length_asked bytes = end_of bytes (form bytes).conditions (list_end bytes)

-- a whole record of a statement's kind and "of wrong length" in nothing
unfoldable pub is_statement : List ℕ → Bool
is_statement bytes = whole bytes && (is_kind (kind bytes) && eqb (length bytes) (length_asked bytes))

-- "a record is read to a statement or to its place of refusal": the statement and how many numbers its list and its conditions have, or the
-- number of the record
unfoldable pub read_of : List ℕ → ℕ → Result Read ℕ
read_of bytes number =
    if is_statement bytes then Ok (record {
      statement = statement_of bytes;
      listed = length (list_of bytes);
      tested = length (conditions_of bytes);
    })
    else Err number

-- what is read into the lent lists: nothing of a record that is refused
unfoldable pub list_read : List ℕ → List ℕ
list_read bytes = if is_statement bytes then list_of bytes else []

unfoldable pub conditions_read : List ℕ → List ℕ
conditions_read bytes = if is_statement bytes then conditions_of bytes else []
