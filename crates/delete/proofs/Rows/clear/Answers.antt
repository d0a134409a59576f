use mathlib.Core.Path.{refl, ap, ◌∙◌}
use lib.ListN.{length}
use Rattle.model.specs.Tables.{norow}
use Rattle.above.proofs.Turns.{rows_start}
use Rattle.chosen.proofs.Choosing.{more-chosen, more-unchosen}
use Rattle.delete.proofs.Rows.clear.Goals as goal
use Rattle.delete.proofs.Rows.clear.Goals.{then-self-row, else-self-row}

-- The invariant: the rows that were passed are emptied where they are chosen, and nothing else has changed.

pub loop-row-init : goal.loop-row-init
loop-row-init c = (refl, refl, rows_start _ _ _ _ _)

pub loop-row-preserved : goal.loop-row-preserved
loop-row-preserved c = let l = c.loop-row in
    elim c.if-self-row.branch [
      | then-self-row w ↦ (
        ap length w.values-is ∙ w.clear.auto.values ∙ l.invariant.0,
        ap length w.classes-is ∙ w.clear.auto.classes ∙ l.invariant.1,
        more-chosen _ _ _ _ _ (λ R. norow) l.row _ _ _ _ l.invariant.2 w.values-is w.classes-is w.if-self-row.true w.clear.ensures,
      )
      | else-self-row w ↦ (
        ap length w.values-is ∙ l.invariant.0,
        ap length w.classes-is ∙ l.invariant.1,
        more-unchosen _ _ _ _ _ (λ R. norow) l.row _ _ _ _ l.invariant.2 w.values-is w.classes-is w.if-self-row.false,
      )
    ]
