use mathlib.Core.Path.{◌≡◌, ◌∙◌}
use mathlib.Core.Bool.{false}
use native.Mathlib.Omega.{arith}
use lib.ListN.{get_or}
use Rattle.cells.proofs.Cells.{row_inside}
use Rattle.conditions.proofs.Meeting.{value-meets, class-meets}
use Rattle.conditions.proofs.filter.Filter.meets.Goals as goal

pub class_at-class-requires-clause-cell_inside : goal.class_at-class-requires-clause-cell_inside
class_at-class-requires-clause-cell_inside c = let T = c.args.self.tested in row_inside _ _ _ _ _ c.requires.in_row T.least T.most

pub returns-then-of_class : goal.returns-then-of_class
returns-then-of_class c =
    let e : c.unwrap_or-below.result ≡ get_or c.args.self.line c.class_at-class.result false = c.unwrap_or-below.ensures ∙ rw c.copied.ensures (c.get.ensures.lookup.4 (omega arith) _) in
    class-meets _ _ _ _ _ _ _ _ c.if-of_class.true c.class_at-class.ensures (e ∙ c.args.self.tested.tells.right _) (rw c.from.ensures at c.passes.ensures)

pub value_at-value-requires-clause-cell_inside : goal.value_at-value-requires-clause-cell_inside
value_at-value-requires-clause-cell_inside c = let T = c.args.self.tested in row_inside _ _ _ _ _ c.requires.in_row T.least T.most

pub returns : goal.returns
returns c = value-meets _ _ _ _ _ _ _ _ c.if-of_class.false c.value_at-value.ensures c.passes-2.ensures
