use Rattle.std.proofs.Common.{◌≡◌, ◌∙◌, false, arith, length-set}
use Rattle.std.proofs.lemmas.List.Edits.{fill_by_more}
use Rattle.level.specs.Order.{row_of, level_dominates}
use Rattle.level.proofs.Fill.{filled}
use Rattle.level.proofs.row.Goals as goal

pub loop-b-preserved : goal.loop-b-preserved
loop-b-preserved c = let l = c.loop-b in
    (length-set l.row l.b _ ∙ l.invariant.0, rw c.entry.ensures (fill_by_more (level_dominates c.args.labels c.args.levels c.args.a) l.row l.b false (omega arith) l.invariant.1))

pub returns : goal.returns
unfolding row_of
returns c = let e : c.loop-b.b ≡ 16 = omega arith in filled 16 _ false _ c.loop-b.invariant.0 (rw e at c.loop-b.invariant.1)
