use mathlib.Core.Path.{sym}
use Rattle.bounded.proofs.All.{all_start, all_more, all-fails, all_end}
use Rattle.judge.specs.Facts.{tables_right}
use Rattle.judge.proofs.tables.Tables.relations.Goals as goal

pub loop-r-init : goal.loop-r-init
loop-r-init c = all_start _

pub returns-then-not-relation : goal.returns-then-not-relation
unfolding tables_right
returns-then-not-relation c = sym (all-fails _ _ _ c.relation.ensures c.if-not-relation.true (rw c.from-r-end.ensures at c.loop-r-test.true))

pub loop-r-preserved : goal.loop-r-preserved
loop-r-preserved c = all_more c.loop-r.r _ c.loop-r.invariant c.relation.ensures c.if-not-relation.false

pub returns : goal.returns
unfolding tables_right
returns c = let l = c.loop-r in sym (all_end _ l.r _ l.invariant (rw c.from-r-end.ensures at l.auto.r-end) (rw c.from-r-end.ensures at c.loop-r-test.false))
