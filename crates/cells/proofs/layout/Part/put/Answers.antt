use Rattle.model.proofs.Border.{inside-says}
use Rattle.cells.proofs.Cells.{state-put}
use Rattle.cells.proofs.layout.Part.put.Goals as goal

pub returns : goal.returns
returns c = rw c.place-at.ensures.is (state-put _ _ _ _ _ _ _ _ (inside-says _ _ _ _ _ c.requires.cell_inside) c.requires.lent.values _ c.requires.lent.classes)
