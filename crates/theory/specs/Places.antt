-- What stands at a place of a list.
-- Assumes nothing: this is a definition.
use Rattle.std.specs.Prelude.{ℕ, zero, suc, List, [], ◌∷◌}
use Rattle.std.proofs.Math.Option.{Option, none, some}

-- places are numbered from 0
unfoldable pub entry_at : {A : Type 0} → List A → ℕ → Option A
entry_at [] n = none
entry_at (x ∷ xs) zero = some x
entry_at (x ∷ xs) (suc n) = entry_at xs n
