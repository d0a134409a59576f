use Prim.Native.Nat.{◌<◌}
use native.Mathlib.Omega.{arith}
use Rattle.above.specs.declared.plan.Change.TheVariants as Changes
use Rattle.model.specs.Listed.{pairs as pairs_of}
use Rattle.update.proofs.Setting.{columns-none, columns-more, changes-end, pair-column, pair-second}
use Rattle.update.proofs.Updated.{listing-few, update-listing}
use Rattle.update.proofs.Set.changes.Goals as goal

-- The invariant: the pairs that were passed have their cell.

pub loop-column-init : goal.loop-column-init
loop-column-init c = columns-none _ _

pub bounds-changes-column : goal.bounds-changes-column
unfolding pairs_of
bounds-changes-column c = let t = c.args.self.now.table.related in
    let h : c.loop-column.column-index < pairs_of c.args.self.now.list.now = omega (arith, c.as_chunks.ensures.front_len, c.loop-column-test.true) in
    let m = (update-listing _ _ _ c.args.self.now.formed).most c.loop-column.column-index h in
    omega (arith, pair-column _ c.as_chunks.ensures.front _ h, m, t.narrow, t.is)

pub loop-column-preserved : goal.loop-column-preserved
unfolding pairs_of
loop-column-preserved c = let l = c.loop-column in
    let t = c.args.self.now.table.related in
    let h : l.column-index < pairs_of c.args.self.now.list.now = omega (arith, c.as_chunks.ensures.front_len, c.loop-column-test.true) in
    rw (pair-column _ c.as_chunks.ensures.front _ h, pair-second _ c.as_chunks.ensures.front _ h)
    (columns-more _ (λ v. Changes.Take v c.args.self.now.level) l.column-index _ (listing-few _ _ (omega (arith, t.narrow, t.is)) (update-listing _ _ _ c.args.self.now.formed)) h l.invariant)

pub returns : goal.returns
unfolding pairs_of
returns c = let l = c.loop-column in changes-end _ _ l.column-index _ (omega (arith, l.auto.column-index-end, c.as_chunks.ensures.front_len, c.loop-column-test.false)) l.invariant
