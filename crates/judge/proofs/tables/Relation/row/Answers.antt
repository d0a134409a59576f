use mathlib.Core.Path.{refl}
use Rattle.judge.proofs.Entities.{row-empty, row-keyed}
use Rattle.judge.proofs.tables.Relation.row.Goals as goal

pub returns-then-key-eq0 : goal.returns-then-key-eq0
returns-then-key-eq0 c = row-empty _ _ _ _ _ c.args.self.now.ready _ _ _ c.requires.0 c.requires.1 c.at-start.ensures c.if-key-eq0.true c.empty.ensures

pub returns : goal.returns
returns c = row-keyed _ _ _ _ _ c.args.self.now.ready _ _ _ _ _ (record { level = c.requires.0; below = c.requires.1; stands = c.at-start.ensures; key = refl; class = refl; real = c.if-key-eq0.false }) c.keyed.ensures
