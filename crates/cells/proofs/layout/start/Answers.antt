use mathlib.Core.Path.{◌≡◌, ap, ◌∙◌}
use native.Mathlib.Omega.{arith}
use Rattle.bounded.proofs.Reflection.{of-true}
use Rattle.model.specs.Description.{start_of}
use Rattle.model.proofs.Sound.{relation-r}
use Rattle.cells.proofs.Counts.{start_small, start_first, start-next, relation-before}
use Rattle.cells.proofs.layout.start.Goals as goal

-- The invariant: what was added up is where the next relation begins.

pub loop-before-init : goal.loop-before-init
loop-before-init c = start_first _

pub size-start-requires : goal.size-start-requires
size-start-requires c = record { sound_description = c.requires.sound_description; known_relation = relation-before _ _ _ c.requires.known_relation c.loop-before.auto.before c.loop-before-test.true }

pub overflow_add-start : goal.overflow_add-start
overflow_add-start c = let l = c.loop-before in
    let h = start_small _ c.requires.sound_description _ (relation-before _ _ _ c.requires.known_relation l.auto.before c.loop-before-test.true) in
    omega (arith, h, l.invariant, c.size-start.ensures.is)

pub loop-before-preserved : goal.loop-before-preserved
loop-before-preserved c = let l = c.loop-before in
    omega (arith, start-next c.args.description l.before, l.invariant, c.size-start.ensures.is)

pub returns : goal.returns
returns c = let l = c.loop-before in
    let f = of-true (relation-r _ _) c.requires.known_relation in
    let e : l.before ≡ c.args.relation = omega (arith, l.auto.before-end f.0, c.loop-before-test.false) in
    l.invariant ∙ ap (start_of c.args.description) e
