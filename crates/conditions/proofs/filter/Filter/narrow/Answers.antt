use native.Mathlib.Omega.{arith}
use Rattle.conditions.proofs.Choosing.{narrowed_none, narrowed-more, narrowed-same, narrowed-end}
use Rattle.conditions.proofs.filter.Filter.narrow.Goals as goal
use Rattle.conditions.proofs.filter.Filter.narrow.Goals.{then-chosen-row, else-chosen-row}

-- The invariant: of the rows that were passed, those stay chosen that meet the condition.

pub loop-row-init : goal.loop-row-init
loop-row-init c = narrowed_none _ _ _ _ (omega arith)

pub loop-row-preserved : goal.loop-row-preserved
loop-row-preserved c = let l = c.loop-row in
    elim c.if-chosen-row.branch [
      | then-chosen-row w ↦ rw w.chosen-is (narrowed-more _ _ _ _ l.row _ _ (omega (arith, c.args.self.part.laid.few, c.loop-row-test.true)) w.if-chosen-row.true w.meets.ensures l.invariant)
      | else-chosen-row w ↦ rw w.chosen-is (narrowed-same _ _ _ _ l.row _ w.if-chosen-row.false l.invariant)
    ]

pub returns : goal.returns
returns c = let l = c.loop-row in
    let e = c.args.self.part.laid.rows in
    narrowed-end _ _ _ _ _ l.row _ l.invariant (omega (arith, e, l.auto.row-end)) (omega (arith, e, c.loop-row-test.false))
