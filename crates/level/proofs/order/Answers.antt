use Rattle.std.proofs.Common.{◌≡◌, ◌∙◌, [], arith, length-set}
use Rattle.std.proofs.lemmas.List.Edits.{fill_by_more}
use Rattle.level.specs.Order.{order_of, row_of}
use Rattle.level.proofs.Fill.{filled}
use Rattle.level.proofs.order.Goals as goal

pub loop-a-preserved : goal.loop-a-preserved
loop-a-preserved c = let l = c.loop-a in
    (length-set l.order l.a _ ∙ l.invariant.0, rw c.row.ensures (fill_by_more (row_of c.args.labels c.args.levels) l.order l.a [] (omega arith) l.invariant.1))

pub returns : goal.returns
unfolding order_of
returns c = let e : c.loop-a.a ≡ 16 = omega arith in filled 16 _ [] _ c.loop-a.invariant.0 (rw e at c.loop-a.invariant.1)
