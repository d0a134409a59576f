use mathlib.Core.Path.{refl}
use Rattle.change.proofs.Known.{lent}
use Rattle.chosen.proofs.Carrying.{working}
use Rattle.delete.proofs.Deleted.{delete-left, delete-planned}
use Rattle.delete.proofs.Rows.write.Goals as goal

pub above-requires : goal.above-requires
above-requires c = let k = c.requires.standing in
    record { carrying = (lent k, working k); planned_in = delete-planned _ (record { gone = refl; changes = refl }) _ _ _ _ (working k) c.requires.only_used }

pub returns : goal.returns
returns c = delete-left _ (record { gone = refl; changes = refl }) _ _ _ _ (working c.requires.standing) c.requires.only_used c.above.ensures c.clear.ensures
