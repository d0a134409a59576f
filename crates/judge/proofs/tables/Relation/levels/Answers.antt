use mathlib.Core.Path.{sym}
use Rattle.bounded.proofs.All.{all_start, all_more, all-fails}
use Rattle.judge.proofs.tables.Relation.levels.Goals as goal

pub loop-level-init : goal.loop-level-init
loop-level-init c = all_start _

pub returns-then-not-rows : goal.returns-then-not-rows
returns-then-not-rows c = sym (all-fails _ _ _ c.rows.ensures c.if-not-rows.true c.loop-level-test.true)

pub loop-level-preserved : goal.loop-level-preserved
loop-level-preserved c = all_more c.loop-level.level _ c.loop-level.invariant c.rows.ensures c.if-not-rows.false
