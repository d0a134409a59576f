use mathlib.Core.Path.{refl, ◌∙◌}
use native.Mathlib.Numerals.{add-one}
use native.Mathlib.Omega.{arith}
use Rattle.cells.specs.Changed.{listed_row}
use Rattle.model.proofs.Border.{inside-shown}
use Rattle.cells.proofs.Written.{row-start, row-next, row-end}
use Rattle.cells.proofs.layout.Part.store.Goals as goal

-- The invariant: the columns that were passed are stored, and nothing else has changed.

pub loop-column-init : goal.loop-column-init
loop-column-init c = (refl, refl, row-start _ _ _ _ _)

pub put-requires : goal.put-requires
put-requires c = let l = c.loop-column in record {
  lent = record { values = l.invariant.0 ∙ c.requires.lent.values; classes = l.invariant.1 ∙ c.requires.lent.classes };
  cell_inside = inside-shown _ _ _ _ _ (record {
    relation = c.requires.in_row.level.relation;
    level = c.requires.in_row.level.level;
    row = c.requires.in_row.row;
    least = l.auto.column;
    column = omega (arith, c.args.self.laid.columns, c.loop-column-test.true);
  });
}

pub loop-column-preserved : goal.loop-column-preserved
unfolding listed_row
loop-column-preserved c = let l = c.loop-column in
    (c.put.auto.values ∙ l.invariant.0, c.put.auto.classes ∙ l.invariant.1, rw add-one (row-next _ _ _ _ _ _ l.auto.column l.invariant.2 c.put.ensures))

pub returns : goal.returns
returns c = row-end _ _ _ _ _ _ _ c.loop-column.invariant.2 (omega (arith, c.args.self.laid.columns, c.loop-column.auto, c.loop-column-test.false))
