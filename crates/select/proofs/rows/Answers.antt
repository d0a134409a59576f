use Prim.Native.Nat.{◌+◌}
use mathlib.Core.Path.{ap}
use native.Mathlib.Omega.{arith}
use Rattle.bounded.proofs.Lists.{concat-start, concat-length}
use Rattle.select.proofs.Found.{level-count, count-found}
use Rattle.select.proofs.rows.Goals as goal

-- The invariant: what is counted is how many rows were found at the levels passed.

pub loop-i-init : goal.loop-i-init
loop-i-init c = (omega arith, concat-start _)

pub chosen-chosen-requires : goal.chosen-chosen-requires
chosen-chosen-requires c = record { lent = c.requires.lent.0; in_level = record { relation = c.requires.lent.1.relation; level = c.requires.lent.1.level _ c.loop-i-test.true; keyed = c.requires.lent.1.keyed }; asking = c.requires.asking }

pub loop-i-preserved : goal.loop-i-preserved
loop-i-preserved c = let l = c.loop-i in (
  omega (arith, c.count-rows.ensures.few, c.args.table.part.laid.few),
  concat-length _ _ _ l.invariant.1 (ap (λ n. l.rows + n) (level-count _ _ _ _ _ _ c.chosen-chosen.ensures c.args.table.part.laid.rows c.count-rows.ensures)),
)

pub returns : goal.returns
returns c = let l = c.loop-i in
    (count-found _ _ _ _ _ _ l.invariant.1 l.auto.i-end c.loop-i-test.false, omega (arith, l.auto.i-end, l.invariant.0, c.requires.lent.1.few))
