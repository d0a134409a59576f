use Rattle.model.proofs.Border.{inside-says}
use Rattle.cells.proofs.Cells.{state-value}
use Rattle.cells.proofs.layout.Part.put_value.Goals as goal

pub returns : goal.returns
returns c = λ classes. rw c.place.ensures.is (state-value _ _ classes _ _ _ _ _ (inside-says _ _ _ _ _ c.requires.cell_inside) c.requires.sized)
