use native.Mathlib.Omega.{arith}
use Rattle.std.proofs.lemmas.Result.{err_from_is_err_and}
use Rattle.change.proofs.Ended.{failed-answer, passed-by}
use Rattle.change.proofs.Known.{own-level}
use Rattle.insert.proofs.Inserted.{found, room, insert-done}
use Rattle.insert.proofs.insert.Goals as goal

pub lowest-row-requires-clause-in_level : goal.lowest-row-requires-clause-in_level
lowest-row-requires-clause-in_level c = own-level c.requires.standing

pub returns-in_err-check : goal.returns-in_err-check
returns-in_err-check c = let p = err_from_is_err_and c.from_residual.result c.from_residual.ensures.1 in
    rw (p.1, p.2) (failed-answer c.check.ensures c.in_err-check.was)

pub unwrap-requires : goal.unwrap-requires
unwrap-requires c = room c.requires.standing _ c.requires.formed_list c.lowest-row.ensures (passed-by c.check.ensures c.in_ok-check.was)

pub store-requires-clause-in_row : goal.store-requires-clause-in_row
store-requires-clause-in_row c = let s = c.requires.standing in
    record { level = own-level s; row = let f = found s _ c.requires.formed_list c.lowest-row.ensures c.unwrap.ensures in omega (arith, f) }

pub returns : goal.returns
returns c = let s = c.requires.standing in
    let f = c.requires.formed_list in
    let k = c.columns-columns.ensures in
    let n = rw (k.counted, c.args.table.part.laid.columns) at c.news-news.ensures in
    let o = rw (k.counted, c.args.table.part.laid.columns, k.described, k.of_relation) at c.owners-owners.ensures in
    insert-done s _ f (found s _ f c.lowest-row.ensures c.unwrap.ensures).0 (passed-by c.check.ensures c.in_ok-check.was) n o c.store.ensures
