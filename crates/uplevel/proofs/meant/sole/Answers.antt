use mathlib.Core.Path.{sym, ◌∙◌}
use Rattle.uplevel.proofs.Sole.{sole-start, sole-same, sole-more, sole-several, sole-end}
use Rattle.uplevel.proofs.Upfaults.{sole-many, sole-answer}
use Rattle.uplevel.proofs.meant.sole.Goals as goal
use Rattle.uplevel.proofs.meant.sole.Goals.{then-based+else-is_some, else-based}

-- The invariant: what was found among the key classes that were passed.

pub loop-class-init : goal.loop-class-init
loop-class-init c = sole-start _

pub returns-then-is_some : goal.returns-then-is_some
returns-then-is_some c =
    sole-many _ _ _ _ _ (sole-several c.loop-class.invariant c.based.ensures c.if-based.true (sym c.is_some.ensures ∙ c.if-is_some.true) c.loop-class-test.true)

pub loop-class-preserved : goal.loop-class-preserved
loop-class-preserved c = let l = c.loop-class in
    elim c.if-based.branch [
      | then-based+else-is_some w ↦ rw (w.sole-is) (sole-more l.invariant c.based.ensures w.if-based.true (sym w.is_some.ensures ∙ w.if-is_some.false))
      | else-based w ↦ rw (w.sole-is) (sole-same l.invariant c.based.ensures w.if-based.false)
    ]

pub returns : goal.returns
returns c = let l = c.loop-class in c.ok_or.ensures.value ∙ sole-answer _ _ _ _ _ (sole-end l.auto.class-end c.loop-class-test.false l.invariant)
