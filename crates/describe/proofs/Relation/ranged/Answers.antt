use mathlib.Core.Path.{refl, sym}
use native.Mathlib.Omega.{arith}
use Rattle.bounded.proofs.All.{all_start, all_more, all-fails, all_end}
use Rattle.describe.proofs.Descriptions.{ranged-at, columns-are}
use Rattle.describe.proofs.Relation.ranged.Goals as goal

pub loop-k-init : goal.loop-k-init
loop-k-init c = all_start _

pub bounds-d-column : goal.bounds-d-column
bounds-d-column c = let r = c.args.self.now.described in omega (arith, r.relation, r.relations, columns-are _ _ _ r)

pub bounds-d-column-in-loop-k : goal.bounds-d-column-in-loop-k
bounds-d-column-in-loop-k c = let r = c.args.self.now.described in omega (arith, r.relation, r.relations, columns-are _ _ _ r)

pub returns-then-not-over : goal.returns-then-not-over
returns-then-not-over c = let r = c.args.self.now.described in
    rw (← (columns-are _ _ _ r)) (sym (all-fails _ _ _ (ranged-at _ _ _ r _ c.loop-k.k refl c.over.ensures) c.if-not-over.true c.loop-k-test.true))

pub loop-k-preserved : goal.loop-k-preserved
loop-k-preserved c = all_more c.loop-k.k _ c.loop-k.invariant (ranged-at _ _ _ c.args.self.now.described _ c.loop-k.k refl c.over.ensures) c.if-not-over.false

pub returns : goal.returns
returns c = rw (← (columns-are _ _ _ c.args.self.now.described)) (sym (all_end _ c.loop-k.k _ c.loop-k.invariant c.loop-k.auto.k-end c.loop-k-test.false))
