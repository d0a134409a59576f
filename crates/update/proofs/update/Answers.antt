use Rattle.std.proofs.lemmas.Result.{err_from_is_err_and}
use Rattle.change.proofs.Ended.{failed-answer, passed-by}
use Rattle.change.proofs.Known.{own-level}
use Rattle.chosen.proofs.Carrying.{met-chosen, counted}
use Rattle.update.proofs.Updated.{update-done}
use Rattle.update.proofs.update.Goals as goal

pub chosen-chosen-requires-clause-in_level : goal.chosen-chosen-requires-clause-in_level
chosen-chosen-requires-clause-in_level c = own-level c.requires.standing

pub invariant_of-set : goal.invariant_of-set
invariant_of-set c = record { in_level = own-level c.requires.standing; formed = c.requires.formed_list.0 }

pub check-requires : goal.check-requires
check-requires c = let k = c.requires.standing in
    record { standing = k; counted = counted k _ c.chosen-chosen.ensures c.args.table.part.laid.rows c.count-count.ensures }

pub returns-in_err-check : goal.returns-in_err-check
returns-in_err-check c = let p = err_from_is_err_and c.from_residual.result c.from_residual.ensures.1 in
    rw (p.1, p.2) (failed-answer c.check.ensures c.in_err-check.was)

pub write-requires-clause-only_used : goal.write-requires-clause-only_used
write-requires-clause-only_used c = met-chosen _ _ _ _ _ c.chosen-chosen.ensures

pub returns : goal.returns
returns c = let k = c.requires.standing in
    let m = c.chosen-chosen.ensures in
    update-done k _ _ m (passed-by c.check.ensures c.in_ok-check.was) (counted k _ m c.args.table.part.laid.rows c.count-count.ensures) c.write.ensures
