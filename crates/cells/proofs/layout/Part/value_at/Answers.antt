use mathlib.Core.Path.{sym}
use Rattle.model.proofs.Border.{inside-says}
use Rattle.cells.proofs.Cells.{number-inside}
use Rattle.cells.proofs.layout.Part.value_at.Goals as goal

pub returns : goal.returns
returns c = rw c.place.ensures.is (sym (number-inside 0 _ _ _ _ _ _ (inside-says _ _ _ _ _ c.requires.cell_inside)))
