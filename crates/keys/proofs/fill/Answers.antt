use native.Mathlib.Omega.{arith}
use Rattle.model.proofs.Sound.{sound-says}
use Rattle.keys.proofs.Starts.{standing-at, fill-room, fill_more}
use Rattle.keys.proofs.fill.Goals as goal

pub laid-area-requires : goal.laid-area-requires
laid-area-requires c = omega (arith, (sound-says _ c.requires.sound_description.0).few-relations, c.from-r-end.ensures)

pub gather-requires : goal.gather-requires
gather-requires c = let k = fill-room _ c.requires.sound_description.0 c.loop-r.r (rw c.from-r-end.ensures at c.loop-r-test.true) _ (standing-at _ _ c.requires.sound_description.1 c.loop-r.r (rw c.from-r-end.ensures at c.loop-r-test.true) _ c.laid-area.ensures) c.args.values.now c.requires.values_len in
    record { rows_in_bounds = k.0; values_len = k.1 }

pub loop-r-preserved : goal.loop-r-preserved
loop-r-preserved c = fill_more _ c.requires.sound_description.0 c.loop-r.r (rw c.from-r-end.ensures at c.loop-r-test.true) _ (standing-at _ _ c.requires.sound_description.1 c.loop-r.r (rw c.from-r-end.ensures at c.loop-r-test.true) _ c.laid-area.ensures) _ _ _ c.loop-r.invariant c.gather.ensures
