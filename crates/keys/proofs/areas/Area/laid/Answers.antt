use Rattle.keys.proofs.Starts.{column-sub}
use Rattle.keys.proofs.areas.Area.laid.Goals as goal

pub returns : goal.returns
returns c = rw (c.from.ensures, c.from-2.ensures, c.from-3.ensures, column-sub _ _ c.checked_sub.ensures, c.from-4.ensures)
