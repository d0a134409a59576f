-- The record at the front of what was read (01, "mlrun").
-- Assumes nothing: these are definitions.
use Rattle.std.specs.Prelude.{ℕ, ◌+◌, List, ltb, length, take, drop, if◌then◌else◌}
use Rattle.records.specs.Bytes.{pair}

-- "two-byte body length, two-byte kind, body": how many bytes are needed to judge the record, those that its header says; its header alone
-- where that is "cut" or says "a body over 1,024 bytes"
unfoldable pub wanted : List ℕ → ℕ
wanted bytes =
    if ltb (length bytes) 4 then 4
    else if ltb 1024 (pair bytes 0) then 4
    else 4 + pair bytes 0

-- the record, as far as it is there
unfoldable pub front : List ℕ → List ℕ
front bytes = take (wanted bytes) bytes

-- what stands behind it
unfoldable pub behind : List ℕ → List ℕ
behind bytes = drop (wanted bytes) bytes
