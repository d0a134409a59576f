use mathlib.Core.Path.{◌≡◌, sym}
use native.Mathlib.Numerals.{add-one}
use native.Mathlib.Omega.{arith}
use borrow.Author.Rules.{rules}
use Rattle.bounded.proofs.All.{all_start, all_more, all-fails, all_end}
use Rattle.model.specs.Description.{column_count}
use Rattle.model.specs.Tables.{empty_row}
use Rattle.model.proofs.Border.{inside-shown}
use Rattle.cells.proofs.layout.Part.is_empty.Goals as goal

pub loop-column-init : goal.loop-column-init
loop-column-init c = (search rules, all_start _)

pub is_null-requires : goal.is_null-requires
is_null-requires c = record {
  lent = c.requires.lent;
  cell_inside = inside-shown _ _ _ _ _ (record {
    relation = c.requires.in_row.level.relation;
    level = c.requires.in_row.level.level;
    row = c.requires.in_row.row;
    least = omega arith;
    column = omega (arith, c.args.self.laid.columns, c.loop-column-test.true);
  });
}

pub returns-then-not-is_null : goal.returns-then-not-is_null
unfolding empty_row
returns-then-not-is_null c = sym (all-fails _ _ _ (rw add-one at c.is_null.ensures) c.if-not-is_null.true (omega (arith, c.args.self.laid.columns, c.loop-column-test.true)))

pub loop-column-preserved : goal.loop-column-preserved
loop-column-preserved c = let l = c.loop-column in
    (omega arith, all_more l.column _ l.invariant.1 (rw add-one at c.is_null.ensures) c.if-not-is_null.false)

pub returns : goal.returns
unfolding empty_row
returns c = let l = c.loop-column in
    let e : l.column ≡ column_count c.args.self.description c.args.self.relation = omega (arith, c.args.self.laid.columns, l.invariant.0, c.loop-column-test.false) in
    sym (all_end _ l.column _ l.invariant.1 (omega arith) (omega arith))
