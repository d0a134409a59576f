use mathlib.Core.Path.{refl}
use native.Mathlib.Omega.{arith}
use Rattle.bounded.proofs.Found.{some-below, none-below}
use Rattle.cells.proofs.Sought.{key-inside}
use Rattle.above.proofs.Unnamed.{owns-null, owns_not, owns-some}
use Rattle.above.proofs.references.owns.Goals as goal

pub value_at-key-requires-clause-cell_inside : goal.value_at-key-requires-clause-cell_inside
value_at-key-requires-clause-cell_inside c = key-inside _ _ _ _ c.requires.lent.1.level c.requires.lent.1.row

pub class_at-class-requires-clause-cell_inside : goal.class_at-class-requires-clause-cell_inside
class_at-class-requires-clause-cell_inside c = key-inside _ _ _ _ c.requires.lent.1.level c.requires.lent.1.row

pub returns-then-key-eq0 : goal.returns-then-key-eq0
returns-then-key-eq0 c = owns-null _ _ _ _ _ _ _ c.value_at-key.ensures c.class_at-class.ensures refl (none-below _ _ c.in_default.ensures) c.if-key-eq0.true

pub returns-else-key-eq0 : goal.returns-else-key-eq0
returns-else-key-eq0 c = owns_not _ _ _ _ _ _ _ c.value_at-key.ensures c.class_at-class.ensures refl (none-below _ _ c.in_default.ensures) c.if-key-eq0.false

pub class_at-requires-clause-cell_inside : goal.class_at-requires-clause-cell_inside
class_at-requires-clause-cell_inside c = let f = some-below _ _ c.in-Some.ensures in key-inside _ _ _ _ c.requires.in_level (omega (arith, f))

pub returns : goal.returns
returns c = let f = some-below _ _ c.in-Some.ensures in
    owns-some _ _ _ _ _ _ _ c.value_at-key.ensures c.class_at-class.ensures f.0 (omega (arith, f)) c.class_at.ensures
