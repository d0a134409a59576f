use borrow.Author.Tests.{eq-eqb, ne_eqb}
use Rattle.model.specs.Description.{label_of, height_at}
use Rattle.select.specs.Facts.{wanted}
use Rattle.select.proofs.wanted.Goals as goal

pub returns-then-height : goal.returns-then-height
unfolding wanted height_at label_of
returns-then-height c = rw (← c.height.ensures, ne_eqb _ _ c.if-height.true)

pub returns : goal.returns
unfolding wanted height_at label_of
returns c = rw (← c.height.ensures, eq-eqb _ _ c.if-height.false, c.asked.ensures)
