use mathlib.Core.Path.{refl, sym, ◌∙◌}
use borrow.Author.Tests.{le-ltb}
use Rattle.keys.specs.Facts.{has_bit}
use Rattle.keys.proofs.Sets.{bit-none}
use Rattle.keys.proofs.words.has.Goals as goal

pub returns-then-class-lt16 : goal.returns-then-class-lt16
unfolding has_bit
returns-then-class-lt16 c = refl

pub returns-else-class-lt16 : goal.returns-else-class-lt16
returns-else-class-lt16 c = le-ltb _ _ c.if-class-lt16.false ∙ sym (bit-none c.args.word c.args.class c.ranges.word.fits c.if-class-lt16.false)
