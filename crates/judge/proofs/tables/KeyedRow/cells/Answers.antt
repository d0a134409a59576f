use mathlib.Core.Path.{refl, sym}
use Rattle.bounded.proofs.All.{all_start, all_more, all-fails}
use Rattle.model.proofs.Sound.{sound-says}
use Rattle.judge.proofs.Places.{known-none}
use Rattle.judge.proofs.Columns.{fitting}
use Rattle.judge.proofs.tables.KeyedRow.cells.Goals as goal

pub loop-k-init : goal.loop-k-init
loop-k-init c = (all_start _, known-none _ _ _ _ _ (sound-says _ c.args.self.now.row.relation.now.ready.sound-is).few-levels)

pub cell-requires-clause-fitting : goal.cell-requires-clause-fitting
cell-requires-clause-fitting c = let e = c.args.self.now in let r = e.row.relation.now in
    fitting _ _ _ _ _ _ _ _ _ _ _ r.ready r.tables.now.ranged c.requires c.loop-k-test.true refl

pub returns-then-not-cell : goal.returns-then-not-cell
returns-then-not-cell c = sym (all-fails _ _ _ c.cell.ensures.0 c.if-not-cell.true c.loop-k-test.true)

pub loop-k-preserved : goal.loop-k-preserved
loop-k-preserved c = let l = c.loop-k in (all_more l.k _ l.invariant.0 c.cell.ensures.0 c.if-not-cell.false, c.cell.ensures.1)
