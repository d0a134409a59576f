use borrow.Author.Rules.{rules}
use native.Mathlib.Omega.{arith}
use lib.Count.{ones-le}
use Prim.Native.Nat.{◌%◌}
use Rattle.level.specs.Label.{height_of, rank_of, compartments_of}
use Rattle.level.proofs.Label.height.Goals as goal

pub overflow_add-result : goal.overflow_add-result
overflow_add-result c = omega (arith, ones-le 8 (c.args.self.0 % 256) (omega arith))

pub returns : goal.returns
unfolding height_of rank_of compartments_of
returns c = search rules
