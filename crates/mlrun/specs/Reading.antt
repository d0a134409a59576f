-- What reading leaves in the buffer. Which bytes are read no contract can say; that those which are there stay is said here.
-- Assumes nothing: these are statements.
use Rattle.std.specs.Prelude.{ℕ, ◌+◌, ◌≤◌, ◌≡◌, List, length, take}
use Rattle.std.proofs.Math.Seq.{slice}

-- so many bytes came behind those up to a place, which are as they were
pub record Added (to count : ℕ) (before after : List ℕ) : Type 0 where
  pub within : to + count ≤ length before
  pub kept : take to after ≡ take to before

-- what stands in the buffer from one place to another begins with what was held before
pub record Holds (held buffer : List ℕ) (from to : ℕ) : Type 0 where
  pub ordered : from ≤ to
  pub within : to ≤ length buffer
  pub begins : take (length held) (slice from to buffer) ≡ held
