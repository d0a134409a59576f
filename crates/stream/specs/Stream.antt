-- A whole stream: a fold of one step (01, "mlrun").
-- Assumes nothing: these are definitions.
use Rattle.std.specs.Prelude.{ℕ, zero, suc, None, List, [], ◌∷◌, ◌++◌, length, take, drop, replicate, if◌then◌else◌}
use Rattle.model.specs.Buffers.{holding}
use Rattle.model.specs.Ledger.{lending}
use Rattle.records.specs.Record.{size_of}
use Rattle.records.specs.Descriptions.{nothing}
use Rattle.stream.specs.Step.{Held, step}

-- before the first record: room for every ledger, all of it empty
unfoldable pub start : Held
start = record { last = None; description = nothing; room = lending (holding (replicate 8192 0) (replicate 8192 255)) }

-- what the records from number on print; each takes at least one byte, so as many turns as there are bytes are enough
unfoldable pub printed_in : ℕ → Held → ℕ → List ℕ → List ℕ
printed_in zero h number bytes = []
printed_in (suc turns) h number [] = []
printed_in (suc turns) h number (byte ∷ bytes) =
    let stream = byte ∷ bytes in
    let turn = step h number (take (size_of stream) stream) in
    turn.text ++ (if turn.goes then printed_in turns turn.held (suc number) (drop (size_of stream) stream) else [])

-- what `mlrun` prints for its standard input
unfoldable pub printed : List ℕ → List ℕ
printed bytes = printed_in (length bytes) start 1 bytes
