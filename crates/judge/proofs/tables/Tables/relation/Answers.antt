use Rattle.judge.proofs.Passes.{laid-ready, laid-refers, laid-relation}
use Rattle.judge.proofs.tables.Tables.relation.Goals as goal

pub invariant_of-levels : goal.invariant_of-levels
invariant_of-levels c = let L = c.args.self.now.laid in
    record { ready = laid-ready _ _ _ _ _ L _ c.requires c.laid-area.ensures; refers = laid-refers _ _ _ _ _ L _ c.requires c.laid-area.ensures c.from-refers.ensures c.laid-target.ensures }

pub returns : goal.returns
returns c = laid-relation _ _ _ _ _ c.args.self.now.laid _ c.requires c.laid-area.ensures _ c.levels.ensures
