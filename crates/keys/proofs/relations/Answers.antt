use mathlib.Core.Path.{sym, ◌∙◌}
use native.Mathlib.Omega.{arith}
use Rattle.bounded.proofs.All.{all_start, all_more, all-fails, all_end}
use Rattle.model.proofs.Sound.{sound-says}
use Rattle.keys.specs.Facts.{distinct_keys}
use Rattle.keys.proofs.Starts.{standing-at, levels-room, distinct-at}
use Rattle.keys.proofs.Notes.{kept_self, kept_then, relation-kept}
use Rattle.keys.proofs.relations.Goals as goal

pub loop-r-init : goal.loop-r-init
loop-r-init c = (all_start _, kept_self _)

pub laid-area-requires : goal.laid-area-requires
laid-area-requires c = omega (arith, (sound-says _ c.requires.sound_description.0).few-relations, c.from-r-end.ensures)

pub levels-requires : goal.levels-requires
levels-requires c = let l = c.loop-r in
    let R = levels-room _ c.requires.sound_description.0 l.r (rw c.from-r-end.ensures at c.loop-r-test.true) _ (standing-at _ _ c.requires.sound_description.1 l.r (rw c.from-r-end.ensures at c.loop-r-test.true) _ c.laid-area.ensures) in
    R

pub returns-then-not-levels : goal.returns-then-not-levels
unfolding distinct_keys
returns-then-not-levels c = let l = c.loop-r in
    let F = c.levels.ensures in
    let G = standing-at _ _ c.requires.sound_description.1 l.r (rw c.from-r-end.ensures at c.loop-r-test.true) _ c.laid-area.ensures in
    let e = distinct-at _ c.requires.sound_description.0 l.r (rw c.from-r-end.ensures at c.loop-r-test.true) _ G l.keys F.0 ∙ relation-kept _ c.requires.sound_description.0 _ _ l.invariant.1 l.r (rw c.from-r-end.ensures at c.loop-r-test.true) in
    (sym (all-fails _ _ _ e c.if-not-levels.true (rw c.from-r-end.ensures at c.loop-r-test.true)), kept_then _ _ _ l.invariant.1 F.1)

pub loop-r-preserved : goal.loop-r-preserved
loop-r-preserved c = let l = c.loop-r in
    let F = c.levels.ensures in
    let G = standing-at _ _ c.requires.sound_description.1 l.r (rw c.from-r-end.ensures at c.loop-r-test.true) _ c.laid-area.ensures in
    let e = distinct-at _ c.requires.sound_description.0 l.r (rw c.from-r-end.ensures at c.loop-r-test.true) _ G l.keys F.0 ∙ relation-kept _ c.requires.sound_description.0 _ _ l.invariant.1 l.r (rw c.from-r-end.ensures at c.loop-r-test.true) in
    (all_more l.r _ l.invariant.0 e c.if-not-levels.false, kept_then _ _ _ l.invariant.1 F.1)

pub returns : goal.returns
unfolding distinct_keys
returns c = let l = c.loop-r in
    (sym (all_end _ l.r _ l.invariant.0 (rw c.from-r-end.ensures at l.auto.r-end) (rw c.from-r-end.ensures at c.loop-r-test.false)), l.invariant.1)
