use borrow.Author.Tests.{eq-eqb, ne_eqb}
use Rattle.uplevel.specs.Raising.{given_of}
use Rattle.uplevel.proofs.given.Goals as goal

pub returns-then-class-eq255 : goal.returns-then-class-eq255
unfolding given_of
returns-then-class-eq255 c = rw (eq-eqb _ _ c.if-class-eq255.true)

pub returns : goal.returns
unfolding given_of
returns c = rw (ne_eqb _ _ c.if-class-eq255.false)
