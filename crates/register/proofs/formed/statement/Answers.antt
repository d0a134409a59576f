use native.Mathlib.Omega.{arith}
use Rattle.cells.proofs.Counts.{column-count}
use Rattle.register.proofs.Shapes.{no-level, no-relation, past-relation, shaped, relation-there}
use Rattle.register.proofs.Served.{related-of, few-relations}
use Rattle.register.proofs.formed.statement.Goals as goal

pub returns-then-levels-statement : goal.returns-then-levels-statement
returns-then-levels-statement c = no-level _ _ _ _ c.if-levels-statement.true

pub returns-then-statement-eq0 : goal.returns-then-statement-eq0
returns-then-statement-eq0 c = no-relation _ _ _ _ c.if-statement-eq0.true

pub returns-then-levels-statement-2 : goal.returns-then-levels-statement-2
returns-then-levels-statement-2 c = past-relation _ _ _ _ c.if-levels-statement-2.true

pub bounds-levels-relation : goal.bounds-levels-relation
bounds-levels-relation c = omega (arith, few-relations _ c.requires, c.if-levels-statement-2.false)

pub invariant_of-columns : goal.invariant_of-columns
invariant_of-columns c =
    let r = relation-there _ _ c.if-statement-eq0.false c.if-levels-statement-2.false in
    record { related = related-of _ _ c.requires r (column-count _ c.requires _ r) }

pub returns : goal.returns
returns c = shaped _ _ _ _ c.if-levels-statement.false (relation-there _ _ c.if-statement-eq0.false c.if-levels-statement-2.false) c.what.ensures
