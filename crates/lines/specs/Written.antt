-- Text in a lent buffer.
-- Assumes nothing: these are definitions and statements.
use Rattle.std.specs.Prelude.{ℕ, suc, ◌+◌, ◌≡◌, List, [], ◌∷◌, length, set}

-- the buffer with a text from a place on, byte after byte; a byte that has no place in it is left out
unfoldable pub written : ℕ → List ℕ → List ℕ → List ℕ
written at [] buffer = buffer
written at (byte ∷ text) buffer = written (suc at) text (set buffer at byte)

-- a text has been written from a place on, and this is the place behind it, whether or not the buffer has it
pub record Wrote (at : ℕ) (text before after : List ℕ) (next : ℕ) : Type 0 where
  pub is : after ≡ written at text before
  pub next-is : next ≡ at + length text
