use mathlib.Core.Path.{refl, ◌∙◌}
use native.Mathlib.Omega.{arith}
use Rattle.above.proofs.Turns.{rows_start, rows_end}
use Rattle.above.proofs.Unnamed.{references-more}
use Rattle.above.proofs.references.Referrer.references.Goals as goal

-- The invariant: the references of the rows that were passed are as they become, and nothing else has changed.

pub loop-row-init : goal.loop-row-init
loop-row-init c = (refl, rows_start _ _ _ _ _)

pub loop-row-preserved : goal.loop-row-preserved
loop-row-preserved c = let l = c.loop-row in
    (c.reference.auto.values ∙ l.invariant.0, references-more _ _ _ _ _ _ _ _ _ c.args.self.referring.apart.other c.args.self.referring.lower l.invariant.1 c.reference.ensures)

pub returns : goal.returns
returns c = rows_end _ _ _ _ _ _ _ c.loop-row.invariant.1 (omega (arith, c.args.self.part.laid.rows, c.loop-row.auto, c.loop-row-test.false))
