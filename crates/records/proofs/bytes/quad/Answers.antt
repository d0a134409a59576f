use Prim.Native.Nat.{◌+◌}
use mathlib.Core.Path.{◌≡◌}
use native.Mathlib.Nat.{add-zero}
use native.Mathlib.Omega.{arith}
use lib.Seq.{get_or-drop}
use Rattle.records.specs.Bytes.{pair, quad}
use Rattle.records.proofs.bytes.quad.Goals as goal

-- The four bytes from the place on.

pub returns : goal.returns
unfolding pair quad
returns c = let e : c.args.at + 2 + 1 ≡ c.args.at + 3 = omega arith in
    rw (c.from_le_bytes.ensures, c.byte.ensures, c.byte-2.ensures, c.byte-3.ensures, c.byte-4.ensures, c.rest-rest.ensures)
    (simp (get_or-drop, add-zero, e) (omega arith))
