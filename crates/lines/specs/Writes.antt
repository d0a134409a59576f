-- What a writer does.
-- Assumes nothing: these are statements.
use Rattle.std.specs.Prelude.{ℕ, ◌+◌, ◌≡◌, ◌≤◌, List}
use Rattle.lines.specs.declared.writer.Writer.{Writer}
use Rattle.lines.specs.Written.{Wrote}

-- a writer has written a text of at most n bytes behind what it wrote before, into the same buffer
pub record Writes (n : ℕ) (text : List ℕ) (before after : Writer) : Type 0 where
  pub same : after.text.ghost_name ≡ before.text.ghost_name
  pub wrote : Wrote before.at text before.text.now after.text.now after.at
  pub near : after.at ≤ before.at + n
