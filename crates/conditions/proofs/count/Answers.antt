use mathlib.Core.Path.{refl, ◌∙◌}
use native.Mathlib.Omega.{arith}
use Rattle.bounded.proofs.Count.{count-start, count-more, count_same, count-end}
use Rattle.conditions.proofs.count.Goals as goal
use Rattle.conditions.proofs.count.Goals.{then-chosen-row, else-chosen-row}

-- The invariant: what is counted is how many of the rows that were passed are chosen.

pub loop-row-init : goal.loop-row-init
loop-row-init c = (omega arith, count-start _)

pub loop-row-preserved : goal.loop-row-preserved
loop-row-preserved c =
    let l = c.loop-row in
    elim c.if-chosen-row.branch [
      | then-chosen-row w ↦ (omega (arith, w.count-is), w.count-is ∙ count-more l.row _ l.invariant.1 refl w.if-chosen-row.true)
      | else-chosen-row w ↦ (omega (arith, w.count-is), w.count-is ∙ count_same l.row _ l.invariant.1 refl w.if-chosen-row.false)
    ]

pub returns : goal.returns
returns c = let l = c.loop-row in
    record { is = count-end c.args.rows l.row _ l.invariant.1 l.auto.row-end c.loop-row-test.false; few = omega arith }
