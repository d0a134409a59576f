use mathlib.Core.Path.{sym}
use Rattle.bounded.proofs.All.{all_start, all_more, all-fails, all_end}
use Rattle.model.specs.Tables.{empty_row}
use Rattle.judge.proofs.tables.Row.empty.Goals as goal

pub loop-k-init : goal.loop-k-init
loop-k-init c = all_start _

pub returns-then-not-blank : goal.returns-then-not-blank
unfolding empty_row
returns-then-not-blank c = rw (← c.args.self.now.relation.now.ready.cols) (sym (all-fails _ _ _ c.blank.ensures c.if-not-blank.true c.loop-k-test.true))

pub loop-k-preserved : goal.loop-k-preserved
loop-k-preserved c = all_more c.loop-k.k _ c.loop-k.invariant c.blank.ensures c.if-not-blank.false

pub returns : goal.returns
unfolding empty_row
returns c = let l = c.loop-k in rw (← c.args.self.now.relation.now.ready.cols) (sym (all_end _ l.k _ l.invariant l.auto.k-end c.loop-k-test.false))
