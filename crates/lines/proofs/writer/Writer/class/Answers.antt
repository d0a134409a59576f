use borrow.Author.Tests.{eq-eqb, ne_eqb}
use native.Mathlib.Omega.{arith}
use Rattle.lines.specs.Lines.{class_text}
use Rattle.lines.proofs.Writing.{writes-within}
use Rattle.lines.proofs.writer.Writer.class.Goals as goal

pub returns-then-class-eq255 : goal.returns-then-class-eq255
unfolding class_text
returns-then-class-eq255 c = rw (eq-eqb _ _ c.if-class-eq255.true) (writes-within 20 (omega arith) c.put.ensures)

pub returns-else-class-eq255 : goal.returns-else-class-eq255
unfolding class_text
returns-else-class-eq255 c = rw (ne_eqb _ _ c.if-class-eq255.false) c.decimal.ensures
