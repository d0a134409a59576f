-- What was read and not used yet, in its buffer.
-- Assumes nothing: these are statements.
use Rattle.std.specs.Prelude.{ℕ, ◌≡◌, List, ◌++◌, length, drop}
use Rattle.std.proofs.Math.Seq.{slice}

-- what stood from one place to another, as far as the buffer goes, stands at the front; every byte behind it is as it was; this is how many
-- bytes were moved
pub record Shifted (from to : ℕ) (before after : List ℕ) (there : ℕ) : Type 0 where
  pub is : after ≡ slice from to before ++ drop there before
  pub there-is : there ≡ length (slice from to before)
