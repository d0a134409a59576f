use native.Mathlib.Omega.{arith}
use Rattle.placing.proofs.Tested.{there-not, there-level}
use Rattle.placing.proofs.there.Goals as goal

pub returns-then-relation-lt1 : goal.returns-then-relation-lt1
returns-then-relation-lt1 c = there-not _ _ _ (λ h. omega (arith, h.0, c.if-relation-lt1.true))

pub returns-then-relation-description : goal.returns-then-relation-description
returns-then-relation-description c = there-not _ _ _ (λ h. omega (arith, h.1, c.if-relation-description.true))

pub returns : goal.returns
returns c = there-level _ _ _ c.if-relation-lt1.false c.if-relation-description.false
