use mathlib.Core.Path.{sym}
use native.Mathlib.Numerals.{add-one}
use Rattle.bounded.proofs.All.{all_start, all_more, all-fails}
use Rattle.describe.proofs.relations.Goals as goal

pub loop-r-init : goal.loop-r-init
loop-r-init c = all_start _

pub returns-then-not-sound : goal.returns-then-not-sound
returns-then-not-sound c = sym (all-fails _ c.loop-r.r _ (rw add-one at c.sound.ensures) c.if-not-sound.true c.loop-r-test.true)

pub loop-r-preserved : goal.loop-r-preserved
loop-r-preserved c = all_more c.loop-r.r _ c.loop-r.invariant (rw add-one at c.sound.ensures) c.if-not-sound.false
