use Rattle.bounded.proofs.Reflection.{of-true}
use Rattle.model.proofs.Sound.{column-r}
use Rattle.cells.proofs.Cells.{row_inside}
use Rattle.uplevel.proofs.Entities.{entity-found, lent-missing, lent_other, lent-own}
use Rattle.uplevel.proofs.lenders.lent.Goals as goal

pub returns-in_default : goal.returns-in_default
returns-in_default c = lent-missing _ _ _ _ _ _ _ c.args.entity.keyed c.in_default.ensures _

pub class_at-requires-clause-cell_inside : goal.class_at-requires-clause-cell_inside
class_at-requires-clause-cell_inside c = let k = of-true (column-r _ _ _) c.requires.in_level.1 in
    row_inside _ _ _ _ _ (record { level = c.requires.in_level.0; row = (entity-found _ _ _ _ _ _ _ c.in-Some.ensures).within }) k.0 k.1

pub returns-then-class_at-level : goal.returns-then-class_at-level
returns-then-class_at-level c = lent_other _ _ _ _ _ _ _ c.in-Some.ensures _ c.class_at.ensures c.if-class_at-level.true

pub value_at-requires-clause-cell_inside : goal.value_at-requires-clause-cell_inside
value_at-requires-clause-cell_inside c = let k = of-true (column-r _ _ _) c.requires.in_level.1 in
    row_inside _ _ _ _ _ (record { level = c.requires.in_level.0; row = (entity-found _ _ _ _ _ _ _ c.in-Some.ensures).within }) k.0 k.1

pub returns : goal.returns
returns c = lent-own _ _ _ _ _ _ _ c.in-Some.ensures _ c.class_at.ensures c.if-class_at-level.false c.value_at.ensures
