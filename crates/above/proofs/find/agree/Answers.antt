use mathlib.Core.Path.{refl, ap₂, ◌∙◌}
use native.Mathlib.Omega.{arith}
use lib.Dec.{eqb}
use Rattle.bounded.proofs.Found.{some-below, none-below}
use Rattle.cells.proofs.Sought.{key-inside}
use Rattle.above.proofs.Sought.{agree-none, agree-one, agree-other, agree-both}
use Rattle.above.proofs.find.agree.Goals as goal

pub returns-in-None-None : goal.returns-in-None-None
returns-in-None-None c =
    agree-none _ _ _ _ _ _ _ c.requires.lent.1 refl refl (none-below _ _ (rw c.in-None-None.is-0 at c.find-here.ensures)) (none-below _ _ (rw c.in-None-None.is-1 at c.find-there.ensures))

pub class_at-class-requires-clause-cell_inside : goal.class_at-class-requires-clause-cell_inside
class_at-class-requires-clause-cell_inside c = let g = some-below _ _ (rw c.in-Some-Some.is-1 at c.find-there.ensures) in key-inside _ _ _ _ c.requires.in_level.1 (omega (arith, g))

pub class_at-requires-clause-cell_inside : goal.class_at-requires-clause-cell_inside
class_at-requires-clause-cell_inside c = let f = some-below _ _ (rw c.in-Some-Some.is-0 at c.find-here.ensures) in key-inside _ _ _ _ c.requires.in_level.0 (omega (arith, f))

pub returns-in-Some-Some : goal.returns-in-Some-Some
returns-in-Some-Some c = let f = some-below _ _ (rw c.in-Some-Some.is-0 at c.find-here.ensures) in
    let g = some-below _ _ (rw c.in-Some-Some.is-1 at c.find-there.ensures) in
    ap₂ eqb c.class_at.ensures c.class_at-class.ensures ∙ agree-both _ _ _ _ _ _ _ c.requires.lent.1 f.0 g.0 (omega (arith, f)) (omega (arith, g))

pub returns-in-None-Some : goal.returns-in-None-Some
returns-in-None-Some c = let g = some-below _ _ (rw c.in-None-Some.is-1 at c.find-there.ensures) in
    agree-other _ _ _ _ _ _ _ c.requires.lent.1 refl g.0 (none-below _ _ (rw c.in-None-Some.is-0 at c.find-here.ensures)) (omega (arith, g))

pub returns-in-Some-None : goal.returns-in-Some-None
returns-in-Some-None c = let f = some-below _ _ (rw c.in-Some-None.is-0 at c.find-here.ensures) in
    agree-one _ _ _ _ _ _ _ c.requires.lent.1 f.0 refl (omega (arith, f)) (none-below _ _ (rw c.in-Some-None.is-1 at c.find-there.ensures))
