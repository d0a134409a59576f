use native.Mathlib.Nat.{add-zero}
use native.Mathlib.Omega.{arith}
use lib.Seq.{get_or-drop}
use Rattle.records.specs.Bytes.{pair}
use Rattle.records.proofs.bytes.pair.Goals as goal

-- The two bytes from the place on.

pub returns : goal.returns
unfolding pair
returns c = rw (c.from_le_bytes.ensures, c.byte.ensures, c.byte-2.ensures, c.rest-rest.ensures) (simp (get_or-drop, add-zero) (omega arith))
