use native.Mathlib.Omega.{arith}
use Rattle.model.proofs.Sound.{sound-says}
use Rattle.judge.proofs.Places.{no_row, known-kept}
use Rattle.judge.proofs.tables.KeyedRow.cached.Goals as goal

pub bounds : goal.bounds
bounds c = omega (arith, (sound-says _ c.args.self.now.row.relation.now.ready.sound-is).few-levels)

pub bounds-cache-level-2 : goal.bounds-cache-level-2
bounds-cache-level-2 c = omega (arith, (sound-says _ c.args.self.now.row.relation.now.ready.sound-is).few-levels)

pub bounds-cache-level-3 : goal.bounds-cache-level-3
bounds-cache-level-3 c = omega (arith, (sound-says _ c.args.self.now.row.relation.now.ready.sound-is).few-levels)

pub bounds-cache-level-4 : goal.bounds-cache-level-4
bounds-cache-level-4 c = omega (arith, (sound-says _ c.args.self.now.row.relation.now.ready.sound-is).few-levels)

pub returns : goal.returns
returns c =
    (c.lender-p.ensures, known-kept _ _ _ _ _ (sound-says _ c.args.self.now.row.relation.now.ready.sound-is).few-levels c.requires.known c.requires.level c.lender-p.ensures (no_row _ c.is_none.ensures))
