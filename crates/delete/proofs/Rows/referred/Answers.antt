use native.Mathlib.Omega.{arith}
use Rattle.bounded.proofs.Any.{any-more}
use Rattle.bounded.proofs.Reflection.{is_true, of-true}
use Rattle.model.proofs.Sound.{relation-r}
use Rattle.delete.proofs.Emptying.{referred-start, referred-here, referred-none}
use Rattle.delete.proofs.Rows.referred.Goals as goal

-- The invariant: no row of a relation that was passed refers to a chosen one.

pub loop-referrer-init : goal.loop-referrer-init
loop-referrer-init c = referred-start _ _ _ _ _

pub refers-requires : goal.refers-requires
refers-requires c = let n = c.requires in let l = c.loop-referrer in record {
  relation_nonzero = (of-true (relation-r _ _) n.relation).0;
  naming = record { sound-is = n.sound-is; relation = is_true (relation-r _ _) (l.auto.referrer, omega arith); level = n.level; long = n.long };
}

pub returns-then-refers : goal.returns-then-refers
returns-then-refers c = referred-here _ _ _ _ _ _ c.refers.ensures c.if-refers.true (omega arith)

pub loop-referrer-preserved : goal.loop-referrer-preserved
loop-referrer-preserved c = let l = c.loop-referrer in any-more l.referrer _ l.invariant c.refers.ensures c.if-refers.false

pub returns : goal.returns
returns c = let l = c.loop-referrer in
    referred-none _ _ _ _ _ l.referrer l.invariant (omega arith) (omega arith)
