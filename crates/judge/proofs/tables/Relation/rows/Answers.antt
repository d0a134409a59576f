use mathlib.Core.Path.{sym}
use Rattle.bounded.proofs.All.{all_start, all_more, all-fails}
use Rattle.judge.proofs.tables.Relation.rows.Goals as goal

pub loop-i-init : goal.loop-i-init
loop-i-init c = all_start _

pub returns-then-not-row : goal.returns-then-not-row
returns-then-not-row c = sym (all-fails _ _ _ c.row.ensures c.if-not-row.true c.loop-i-test.true)

pub loop-i-preserved : goal.loop-i-preserved
loop-i-preserved c = all_more c.loop-i.i _ c.loop-i.invariant c.row.ensures c.if-not-row.false
