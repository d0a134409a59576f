use mathlib.Core.Path.{refl, ◌∙◌}
use native.Mathlib.Omega.{arith}
use Rattle.above.proofs.Turns.{rows_start, rows_end}
use Rattle.above.proofs.Rewritten.{rows-after, rows-one}
use Rattle.above.proofs.reach.Reached.rows.Goals as goal

-- The invariant: the rows that were passed are as planned, and nothing else has changed.

pub loop-row-init : goal.loop-row-init
loop-row-init c = (refl, refl, rows_start _ _ _ _ _)

pub row-requires-clause-one_row : goal.row-requires-clause-one_row
row-requires-clause-one_row c = let l = c.loop-row in rows-one _ _ _ _ _ _ _ _ _ _ _ _ c.requires.apart.0.other l.invariant.2 c.requires.apart.1

pub loop-row-preserved : goal.loop-row-preserved
loop-row-preserved c = let l = c.loop-row in
    (c.row.auto.values ∙ l.invariant.0, c.row.auto.classes ∙ l.invariant.1, rows-after _ _ _ _ _ _ _ _ _ _ c.requires.apart.0.other l.invariant.2 c.row.ensures)

pub returns : goal.returns
returns c = rows_end _ _ _ _ _ _ _ c.loop-row.invariant.2 (omega (arith, c.args.self.part.laid.rows, c.loop-row.auto, c.loop-row-test.false))
