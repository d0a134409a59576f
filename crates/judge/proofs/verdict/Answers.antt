use Rattle.judge.proofs.Passes.{judge-unsound, judge-values, judge-classes, judge-illegal, judge-legal}
use Rattle.judge.proofs.verdict.Goals as goal

pub returns-then-not-ordered : goal.returns-then-not-ordered
returns-then-not-ordered c = judge-unsound _ _ _ c.ordered.ensures c.if-not-ordered.true

pub returns-then-values-total : goal.returns-then-values-total
returns-then-values-total c = judge-values _ _ _ c.ordered.ensures c.if-not-ordered.false c.total-total.ensures c.if-values-total.true

pub returns-then-classes-total : goal.returns-then-classes-total
returns-then-classes-total c = judge-classes _ _ _ c.ordered.ensures c.if-not-ordered.false c.total-total.ensures c.if-values-total.false c.if-classes-total.true

pub returns-then-not-legal : goal.returns-then-not-legal
returns-then-not-legal c = judge-illegal _ _ _ c.ordered.ensures c.if-not-ordered.false c.total-total.ensures c.if-values-total.false c.if-classes-total.false c.legal.ensures c.if-not-legal.true

pub returns : goal.returns
returns c = judge-legal _ _ _ c.ordered.ensures c.if-not-ordered.false c.total-total.ensures c.if-values-total.false c.if-classes-total.false c.legal.ensures c.if-not-legal.false
