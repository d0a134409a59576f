use native.Mathlib.Omega.{arith}
use lib.ListN.{length}
use Prim.Native.Nat.{◌<◌, ◌/◌}
use Rattle.model.specs.Conditions.{condition_count}
use Rattle.conditions.proofs.Choosing.{met_start, met-more, met-end}
use Rattle.conditions.proofs.Meeting.{entry-asks, asks-at, read-at, tested_at}
use Rattle.conditions.proofs.chosen.Goals as goal

-- The invariant: a row is chosen where it is in use and meets the conditions that were passed.

pub loop-condition-init : goal.loop-condition-init
loop-condition-init c = met_start _ _ _ _ _ _ _ _ c.used-chosen.ensures

pub unwrap-asked-requires : goal.unwrap-asked-requires
unfolding condition_count
unwrap-asked-requires c =
    let h : c.loop-condition.condition-index < length c.args.conditions.now / 4 = omega arith in
    read-at _ _ _ _ c.requires.asking.formed h _ (rw c.as_chunks.ensures.front (entry-asks _ _ h)) _ c.read.ensures

pub invariant_of-filter : goal.invariant_of-filter
unfolding condition_count
invariant_of-filter c =
    let h : c.loop-condition.condition-index < length c.args.conditions.now / 4 = omega arith in
    record { tested = tested_at _ _ _ _ c.requires.asking.formed h _ (asks-at _ _ c.as_chunks.ensures.front h c.read.ensures c.unwrap-asked.ensures) c.line-line.ensures }

pub loop-condition-preserved : goal.loop-condition-preserved
loop-condition-preserved c = let l = c.loop-condition in
    met-more _ _ _ _ l.condition-index _ _ l.invariant (rw (asks-at _ _ c.as_chunks.ensures.front (omega arith) c.read.ensures c.unwrap-asked.ensures) at c.narrow.ensures)

pub returns : goal.returns
unfolding condition_count
returns c = let l = c.loop-condition in
    met-end _ _ _ _ l.condition-index _ (omega arith) l.invariant
