use native.Mathlib.Omega.{arith}
use Rattle.model.proofs.Border.{inside-says}
use Rattle.cells.proofs.Places.{small}
use Rattle.cells.proofs.layout.Part.place.Goals as goal

-- Nothing wraps, since the place is below the total.

pub overflow_mul-result : goal.overflow_mul-result
overflow_mul-result c = omega (arith, small _ _ _ _ _ _ _ _ c.args.self.laid (inside-says _ _ _ _ _ c.requires))

pub overflow_add-result : goal.overflow_add-result
overflow_add-result c = omega (arith, small _ _ _ _ _ _ _ _ c.args.self.laid (inside-says _ _ _ _ _ c.requires))

pub overflow_mul-result-2 : goal.overflow_mul-result-2
overflow_mul-result-2 c = omega (arith, small _ _ _ _ _ _ _ _ c.args.self.laid (inside-says _ _ _ _ _ c.requires))

pub overflow_sub-result : goal.overflow_sub-result
overflow_sub-result c = omega (arith, (inside-says _ _ _ _ _ c.requires).least)

pub overflow_add-result-2 : goal.overflow_add-result-2
overflow_add-result-2 c = omega (arith, small _ _ _ _ _ _ _ _ c.args.self.laid (inside-says _ _ _ _ _ c.requires))

pub overflow_add-result-3 : goal.overflow_add-result-3
overflow_add-result-3 c = omega (arith, small _ _ _ _ _ _ _ _ c.args.self.laid (inside-says _ _ _ _ _ c.requires))

pub returns : goal.returns
returns c = let k = small _ _ _ _ _ _ _ _ c.args.self.laid (inside-says _ _ _ _ _ c.requires) in record { is = k.is; below = rw k.is k.below }
