use mathlib.Core.Path.{◌∙◌}
use native.Mathlib.Numerals.{add-one}
use native.Mathlib.Omega.{arith}
use Rattle.bounded.proofs.Lists.{numbers-start, numbers_more, numbers-end}
use Rattle.model.proofs.Border.{inside-shown}
use Rattle.select.specs.Facts.{values_of}
use Rattle.select.proofs.copy.Goals as goal

-- The invariant: the values of the columns passed are written.

pub loop-column-init : goal.loop-column-init
loop-column-init c = numbers-start _ _ _

pub value_at-requires : goal.value_at-requires
value_at-requires c = record {
  sized = c.requires.sized.0;
  cell_inside = inside-shown _ _ _ _ _ (record {
    relation = c.requires.sized.1.level.relation;
    level = c.requires.sized.1.level.level;
    row = c.requires.sized.1.row;
    least = omega arith;
    column = omega (arith, c.args.part.laid.columns, c.loop-column-test.true);
  });
}

pub overflow_add-shown : goal.overflow_add-shown
overflow_add-shown c = omega (arith, c.requires.sized, c.requires.relation_in_bounds)

pub offset_bounds-shown-at : goal.offset_bounds-shown-at
offset_bounds-shown-at c = omega (arith, c.requires.sized, c.requires.relation_in_bounds)

pub bounds-shown-at : goal.bounds-shown-at
bounds-shown-at c = omega (arith, c.requires.sized, c.requires.relation_in_bounds)

pub loop-column-preserved : goal.loop-column-preserved
loop-column-preserved c = numbers_more _ _ _ _ c.loop-column.invariant (omega (arith, c.requires.relation_in_bounds, c.args.part.laid.columns)) (c.value_at.ensures ∙ rw add-one)

pub returns : goal.returns
unfolding values_of
returns c = numbers-end _ _ _ _ _ c.loop-column.invariant (omega (arith, c.args.part.laid.columns, c.loop-column.auto.column-end)) (omega (arith, c.args.part.laid.columns, c.loop-column-test.false))
