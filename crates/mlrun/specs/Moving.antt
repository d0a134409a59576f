-- What a read or a write moves.
-- Assumes nothing: these are statements.
use Rattle.std.specs.Prelude.{ℕ, ◌≤◌, IfOk, Result}

-- no more bytes than that, where it moved any
abbrev pub MovesAtMost : {E : Type 0} → ℕ → Result ℕ E → Type 0
MovesAtMost most moved = IfOk moved (λ count. count ≤ most)
