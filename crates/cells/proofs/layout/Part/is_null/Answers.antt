use borrow.Author.Tests.{ne_eqb, eq-eqb}
use Rattle.model.specs.Tables.{same}
use Rattle.cells.proofs.Cells.{state-cell}
use Rattle.cells.proofs.layout.Part.is_null.Goals as goal

pub returns-then-value_at-ne0 : goal.returns-then-value_at-ne0
unfolding same
returns-then-value_at-ne0 c = rw (state-cell, ← c.value_at.ensures, ne_eqb _ _ c.if-value_at-ne0.true)

pub returns : goal.returns
unfolding same
returns c = rw (state-cell, ← c.value_at.ensures, ← c.class_at.ensures, eq-eqb _ _ c.if-value_at-ne0.false)
