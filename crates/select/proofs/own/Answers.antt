use mathlib.Core.Path.{◌∙◌}
use native.Mathlib.Numerals.{add-one}
use native.Mathlib.Omega.{arith}
use Rattle.bounded.proofs.Lists.{numbers-start, numbers_more}
use Rattle.model.proofs.Border.{inside-shown}
use Rattle.select.proofs.Shown.{owners-end}
use Rattle.select.proofs.own.Goals as goal

-- The invariant: the classes of the columns passed are written.

pub loop-column-init : goal.loop-column-init
loop-column-init c = numbers-start _ _ _

pub class_at-requires : goal.class_at-requires
class_at-requires c = record {
  sized = c.requires.sized.0;
  cell_inside = inside-shown _ _ _ _ _ (record {
    relation = c.requires.sized.1.level.relation;
    level = c.requires.sized.1.level.level;
    row = c.requires.sized.1.row;
    least = omega arith;
    column = omega (arith, c.args.part.laid.columns, c.loop-column-test.true);
  });
}

pub overflow_add-owners : goal.overflow_add-owners
overflow_add-owners c = omega (arith, c.requires.sized, c.requires.level_bound)

pub bounds-owners-at : goal.bounds-owners-at
bounds-owners-at c = omega (arith, c.requires.sized, c.requires.level_bound)

pub loop-column-preserved : goal.loop-column-preserved
loop-column-preserved c = numbers_more _ _ _ _ c.loop-column.invariant (omega (arith, c.requires.level_bound, c.args.part.laid.columns)) (c.class_at.ensures ∙ rw add-one)

pub returns : goal.returns
returns c = let l = c.loop-column in
    owners-end _ _ _ _ _ _ _ _ _ l.invariant l.auto.column-end c.loop-column-test.false c.args.part.laid.columns c.requires.level_bound.1
