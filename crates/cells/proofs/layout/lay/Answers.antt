use Rattle.cells.proofs.Counts.{sound-says}
use Rattle.cells.proofs.layout.lay.Goals as goal

pub invariant_of-result : goal.invariant_of-result
invariant_of-result c = record {
  laid = record {
    start = c.start.ensures;
    rows = c.rows.ensures.is;
    columns = c.columns.ensures.is;
    few = c.rows.ensures.few;
    narrow = c.columns.ensures.few;
    total = (sound-says _ c.requires.sound_description).total;
  };
}
