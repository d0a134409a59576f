use Rattle.select.proofs.Heights.{holds_more}
use Rattle.select.proofs.add.Goals as goal

pub returns : goal.returns
returns c = holds_more _ _ _ c.requires.holds c.requires.count_bound
