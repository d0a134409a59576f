use mathlib.Core.Path.{refl, sym, ◌∙◌}
use native.Mathlib.Numerals.{add-one}
use native.Mathlib.Omega.{arith}
use Rattle.cells.proofs.Cells.{row_inside}
use Rattle.cells.proofs.Written.{row-start, row-end}
use Rattle.above.proofs.Rewritten.{cell-kept, cell-turned, cells-turned}
use Rattle.above.proofs.rows.cells.Goals as goal

-- The invariant: the columns of the row that were passed are as planned, and nothing else has changed.

pub loop-column-init : goal.loop-column-init
loop-column-init c = (refl, refl, row-start _ _ _ _ _)

pub class_at-requires-clause-cell_inside : goal.class_at-requires-clause-cell_inside
class_at-requires-clause-cell_inside c = let l = c.loop-column in row_inside _ _ _ _ _ c.requires.in_row l.auto.column (omega (arith, c.args.part.laid.columns, c.loop-column-test.true))

-- a cell of another class stays
pub loop-column-preserved-then-class_at-subject : goal.loop-column-preserved-then-class_at-subject
loop-column-preserved-then-class_at-subject c = let l = c.loop-column in (
  l.invariant.0,
  l.invariant.1,
  rw add-one (cells-turned _ _ _ _ _ _ _ _ _ l.auto.column l.invariant.2 (cell-kept _ _ _ _ _ _ _ _ _ (λ e. c.if-class_at-subject.true (c.class_at.ensures ∙ e)))),
)

pub value_at-x-requires-clause-cell_inside : goal.value_at-x-requires-clause-cell_inside
value_at-x-requires-clause-cell_inside c = let l = c.loop-column in row_inside _ _ _ _ _ c.requires.in_row l.auto.column (omega (arith, c.args.part.laid.columns, c.loop-column-test.true))

pub put-requires-clause-cell_inside : goal.put-requires-clause-cell_inside
put-requires-clause-cell_inside c = let l = c.loop-column in row_inside _ _ _ _ _ c.requires.in_row l.auto.column (omega (arith, c.args.part.laid.columns, c.loop-column-test.true))

-- a cell of the subject's class is stored as it becomes
pub loop-column-preserved : goal.loop-column-preserved
loop-column-preserved c = let l = c.loop-column in (
  c.put.auto.values ∙ l.invariant.0,
  c.put.auto.classes ∙ l.invariant.1,
  rw add-one
      (cells-turned
      _ _ _ _ _ _ _ _ _
      l.auto.column
      l.invariant.2
      (cell-turned _ _ _ _ _ _ _ _ _ c.value_at-x.ensures (sym c.class_at.ensures ∙ c.if-class_at-subject.false) c.turns-new.ensures c.put.ensures)),
)

pub returns : goal.returns
returns c = row-end _ _ _ _ _ _ _ c.loop-column.invariant.2 (omega (arith, c.args.part.laid.columns, c.loop-column.auto, c.loop-column-test.false))
