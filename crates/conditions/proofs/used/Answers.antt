use native.Mathlib.Omega.{arith}
use Rattle.cells.proofs.Cells.{row_inside}
use Rattle.conditions.proofs.Choosing.{chosen_none, chosen_more, chosen-end, used-as}
use Rattle.conditions.proofs.used.Goals as goal

-- The invariant: the rows that were passed are chosen where they are in use.

pub loop-row-init : goal.loop-row-init
loop-row-init c = chosen_none _

pub value_at-requires-clause-cell_inside : goal.value_at-requires-clause-cell_inside
value_at-requires-clause-cell_inside c =
    row_inside _ _ _ _ _ (record { level = c.requires.in_level; row = omega (arith, c.args.part.laid.rows, c.loop-row-test.true) }) (omega arith) c.requires.in_level.keyed

pub loop-row-preserved : goal.loop-row-preserved
loop-row-preserved c = let l = c.loop-row in
    chosen_more l.row _ _ _ (omega (arith, c.args.part.laid.few, c.loop-row-test.true)) (used-as _ _ _ _ _ c.value_at.ensures) l.invariant

pub returns : goal.returns
returns c = let l = c.loop-row in
    let e = c.args.part.laid.rows in
    chosen-end _ l.row _ _ l.invariant (omega (arith, e, l.auto.row-end)) (omega (arith, e, c.loop-row-test.false))
