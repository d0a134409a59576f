-- One record: "two-byte body length, two-byte kind, body" (01, "mlrun").
-- Assumes nothing: these are definitions.
use Rattle.std.specs.Prelude.{ℕ, ◌+◌, Bool, false, ◌&&◌, List, eqb, leb, length, if◌then◌else◌, Option, Some, None, is_some, is_none}
use Rattle.model.specs.Description.{between}
use Rattle.records.specs.Bytes.{pair}
use Rattle.records.specs.Kinds.{is_kind}

-- how many bytes a record has by its header
unfoldable pub size_of : List ℕ → ℕ
size_of bytes = 4 + pair bytes 0

-- the record is not "cut" or "with a body over 1,024 bytes"
unfoldable pub whole : List ℕ → Bool
whole bytes = leb 4 (length bytes) && (leb (pair bytes 0) 1024 && eqb (length bytes) (size_of bytes))

-- whether the last kind is in a range
unfoldable pub last_within : ℕ → ℕ → Option ℕ → Bool
last_within low high None = false
last_within low high (Some last) = between low high last

-- "Order: one kind 1, kind 2s, kind 3s, statements": whether a kind is known and may come after the last one, none where none has come
unfoldable pub follows : Option ℕ → ℕ → Bool
follows last kind =
    if eqb kind 1 then is_none last
    else if eqb kind 2 then last_within 1 2 last
    else if eqb kind 3 then last_within 1 3 last
    else is_kind kind && is_some last

-- the kind of a record that is whole and in order, none of any other
unfoldable pub kind_after : Option ℕ → List ℕ → Option ℕ
kind_after last bytes = if whole bytes && follows last (pair bytes 2) then Some (pair bytes 2) else None
