use native.Mathlib.Omega.{arith}
use Rattle.change.proofs.Pairs.{pair-there, value_none, value-some}
use Rattle.insert.proofs.value.Goals as goal

pub overflow_mul-result : goal.overflow_mul-result
overflow_mul-result c = omega (arith, pair-there _ _ c.in-Some.ensures)

pub overflow_add-result : goal.overflow_add-result
overflow_add-result c = omega (arith, pair-there _ _ c.in-Some.ensures)

pub offset_bounds-list-at : goal.offset_bounds-list-at
offset_bounds-list-at c = omega (arith, pair-there _ _ c.in-Some.ensures)

pub bounds-list-at : goal.bounds-list-at
bounds-list-at c = omega (arith, pair-there _ _ c.in-Some.ensures)

pub returns-in-Some : goal.returns-in-Some
returns-in-Some c = value-some _ _ c.in-Some.ensures

pub returns-in-None : goal.returns-in-None
returns-in-None c = value_none _ _ c.in-None.ensures
