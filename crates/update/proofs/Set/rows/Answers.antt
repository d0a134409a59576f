use mathlib.Core.Path.{refl, ap, ◌∙◌}
use lib.ListN.{length}
use Rattle.above.proofs.Turns.{rows_start}
use Rattle.chosen.proofs.Choosing.{more-chosen, more-unchosen}
use Rattle.update.proofs.Set.rows.Goals as goal
use Rattle.update.proofs.Set.rows.Goals.{then-chosen-row, else-chosen-row}

-- The invariant: the rows that were passed are set where they are chosen, and nothing else has changed.

pub loop-row-init : goal.loop-row-init
loop-row-init c = (refl, refl, rows_start _ _ _ _ _)

pub loop-row-preserved : goal.loop-row-preserved
loop-row-preserved c = let l = c.loop-row in
    elim c.if-chosen-row.branch [
      | then-chosen-row w ↦ (
        ap length w.values-is ∙ w.row.auto.values ∙ l.invariant.0,
        ap length w.classes-is ∙ w.row.auto.classes ∙ l.invariant.1,
        more-chosen _ _ _ _ _ _ l.row _ _ _ _ l.invariant.2 w.values-is w.classes-is w.if-chosen-row.true w.row.ensures,
      )
      | else-chosen-row w ↦ (
        ap length w.values-is ∙ l.invariant.0,
        ap length w.classes-is ∙ l.invariant.1,
        more-unchosen _ _ _ _ _ _ l.row _ _ _ _ l.invariant.2 w.values-is w.classes-is w.if-chosen-row.false,
      )
    ]
