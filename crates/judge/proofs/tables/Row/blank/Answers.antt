use mathlib.Core.Path.{◌∙◌}
use borrow.Author.Tests.{ne_eqb}
use Rattle.judge.proofs.Columns.{stood-full, stood-null}
use Rattle.judge.proofs.tables.Row.blank.Goals as goal

pub returns-then-tables-place-eq0 : goal.returns-then-tables-place-eq0
returns-then-tables-place-eq0 c = let w = c.args.self.now in
    stood-null _ _ _ _ _ w.relation.now.ready _ _ _ _ w.spot.level w.spot.below w.spot.stands c.requires c.if-tables-place-eq0.true

pub returns-else-tables-place-eq0 : goal.returns-else-tables-place-eq0
returns-else-tables-place-eq0 c = let w = c.args.self.now in
    ne_eqb _ _ c.if-tables-place-eq0.false ∙ stood-full _ _ _ _ _ w.relation.now.ready _ _ _ _ w.spot.level w.spot.below w.spot.stands c.requires c.if-tables-place-eq0.false
