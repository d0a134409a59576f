use Rattle.std.proofs.lemmas.Result.{err_from_is_err_and}
use Rattle.change.proofs.Ended.{failed-answer, passed-by}
use Rattle.change.proofs.Known.{own-level}
use Rattle.chosen.proofs.Carrying.{met-chosen, counted}
use Rattle.delete.proofs.Deleted.{delete-done}
use Rattle.delete.proofs.delete.Goals as goal

pub chosen-chosen-requires-clause-in_level : goal.chosen-chosen-requires-clause-in_level
chosen-chosen-requires-clause-in_level c = own-level c.requires.standing

pub invariant_of-rows : goal.invariant_of-rows
invariant_of-rows c = record { in_level = own-level c.requires.standing }

pub returns-in_err-check : goal.returns-in_err-check
returns-in_err-check c = let p = err_from_is_err_and c.from_residual.result c.from_residual.ensures.1 in
    rw (p.1, p.2) (failed-answer c.check.ensures c.in_err-check.was)

pub write-requires-clause-only_used : goal.write-requires-clause-only_used
write-requires-clause-only_used c = met-chosen _ _ _ _ _ c.chosen-chosen.ensures

pub returns : goal.returns
returns c = let k = c.requires.standing in
    let m = c.chosen-chosen.ensures in
    delete-done k _ m (passed-by c.check.ensures c.in_ok-check.was) (counted k _ m c.args.table.part.laid.rows c.count.ensures) c.write.ensures
