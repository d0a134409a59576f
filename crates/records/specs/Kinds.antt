-- The kinds of statements as a table: what a record has behind its level and its relation (01, "mlrun"). Places count from the record's first
-- byte, its header included.
-- Assumes nothing: these are definitions.
use Rattle.std.specs.Prelude.{ℕ, Bool, eqb, if◌then◌else◌, Option, Some, None}
use Rattle.model.specs.declared.What.{What}
use Rattle.model.specs.declared.What.TheVariants as Whats
use Rattle.model.specs.Description.{between}
use Rattle.records.specs.declared.kinds.Entry.{Entry}
use Rattle.records.specs.declared.kinds.Entry.TheVariants as Entries
use Rattle.records.specs.declared.kinds.Form.{Form}

-- how many bytes an entry has: "All fields are two bytes but values, keys and constants (four)"
unfoldable pub width : Entry → ℕ
width Entries.Level = 2
width Entries.Borrow = 4
width Entries.Cell = 6
width Entries.Condition = 10

-- how many numbers an entry is
unfoldable pub numbers : Entry → ℕ
numbers Entries.Level = 1
numbers Entries.Borrow = 2
numbers Entries.Cell = 2
numbers Entries.Condition = 4

-- whether a kind is a statement's
unfoldable pub is_kind : ℕ → Bool
is_kind kind = between 16 20 kind

-- the kind of a statement by what it asks for
unfoldable pub number_of : What → ℕ
number_of Whats.Insert = 16
number_of Whats.Delete = 17
number_of Whats.Update = 18
number_of (Whats.Uplevel key class) = 19
number_of Whats.Select = 20

-- a list from a place on, of such entries if there is one, and such conditions behind it
abbrev pub lists : ℕ → Option Entry → Option Entry → Form
lists at list conditions = record { at = at; list = list; conditions = conditions }

-- the form of each kind, a line a kind
unfoldable pub form_of : ℕ → Form
form_of kind =
    -- "16 INSERT: level, relation, n, n of (column, value)"
    if eqb kind 16 then lists 8 (Some Entries.Cell) None
    -- "17 DELETE: level, relation, conditions"
    else if eqb kind 17 then lists 8 None (Some Entries.Condition)
    -- "18 UPDATE: as 16, then conditions"
    else if eqb kind 18 then lists 8 (Some Entries.Cell) (Some Entries.Condition)
    -- "19 UPLEVEL: level, relation, key, key class or 255, n, n of (column, FROM)"
    else if eqb kind 19 then lists 14 (Some Entries.Borrow) None
    -- "20 SELECT: level, relation, n, n levels, conditions"
    else if eqb kind 20 then lists 8 (Some Entries.Level) (Some Entries.Condition)
    -- no statement's
    else lists 8 None None
