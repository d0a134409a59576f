use mathlib.Core.Path.{refl, sym, ◌∙◌}
use native.Mathlib.Omega.{arith}
use Rattle.std.proofs.lemmas.Result.{err_from_is_err_and}
use Rattle.change.specs.Facts.{does}
use Rattle.change.proofs.Ended.{failed-answer, passed-by}
use Rattle.change.proofs.Known.{own-level, own-over}
use Rattle.uplevel.proofs.Entities.{entity-found}
use Rattle.uplevel.proofs.Upfaults.{room}
use Rattle.uplevel.proofs.Uplevelled.{in_rows, row-used, uplevel-left}
use Rattle.uplevel.proofs.raise.Goals as goal

pub entity-here-requires-clause-in_level : goal.entity-here-requires-clause-in_level
entity-here-requires-clause-in_level c = own-level c.requires

pub spot-row-requires-clause-in_level : goal.spot-row-requires-clause-in_level
spot-row-requires-clause-in_level c = own-level c.requires

pub returns-in_err-check : goal.returns-in_err-check
returns-in_err-check c = let p = err_from_is_err_and c.from_residual.result c.from_residual.ensures.1 in
    rw (p.1, p.2) (failed-answer c.check.ensures c.in_err-check.was)

pub reach-requires-clause-in_use : goal.reach-requires-clause-in_use
reach-requires-clause-in_use c = λ i e.
    let h = rw e at c.entity-here.ensures in
    ((entity-found _ _ _ _ _ _ _ h).within, row-used _ _ _ _ _ _ _ c.args.raising.now.entity.keyed h)

pub unwrap-requires : goal.unwrap-requires
unwrap-requires c = room _ _ _ _ _ _ _ (own-over c.requires) c.args.raising.now.entity.keyed c.entity-here.ensures _ c.spot-row.ensures (passed-by c.check.ensures c.in_ok-check.was)

pub store-requires-clause-in_row : goal.store-requires-clause-in_row
store-requires-clause-in_row c = let s = c.requires in
    let w = sym c.unwrap.ensures ∙ c.spot-row.ensures in
    record { level = own-level s; row = in_rows s _ _ _ c.args.raising.now.entity.keyed c.args.raising.now.listing c.entity-here.ensures w }

pub returns : goal.returns
returns c = let s = c.requires in
    let w = sym c.unwrap.ensures ∙ c.spot-row.ensures in
    let k = c.args.raising.now.table.part.laid in
    does (passed-by c.check.ensures c.in_ok-check.was) refl
    (uplevel-left s _ _ _ c.args.raising.now.entity.keyed c.args.raising.now.listing c.entity-here.ensures w c.compose-news.ensures (omega (arith, k.narrow, k.columns)) (omega (arith, k.few, k.rows)) _ c.reach.ensures c.store.ensures)
