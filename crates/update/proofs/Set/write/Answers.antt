use mathlib.Core.Path.{refl}
use Rattle.change.proofs.Known.{lent}
use Rattle.chosen.proofs.Carrying.{working}
use Rattle.update.proofs.Updated.{update-listing, update-keyless, update-left, update-planned}
use Rattle.update.proofs.Set.write.Goals as goal

pub above-requires : goal.above-requires
above-requires c = let k = c.requires.standing in
    record { carrying = (lent k, working k); planned_in = update-planned _ _ _ _ _ _ c.changes-changes.ensures c.requires.only_used (update-keyless _ _ _ c.args.self.now.formed) }

pub returns : goal.returns
returns c = update-left _ _ _ c.changes-changes.ensures _ _ _ refl _ (update-listing _ _ _ c.args.self.now.formed) c.requires.only_used c.above.ensures c.rows.ensures
