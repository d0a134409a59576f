use Rattle.std.proofs.lemmas.Result.{err_from_is_err_and}
use Rattle.cells.proofs.Counts.{sound-says}
use Rattle.uplevel.proofs.Upformed.{class-small, formed-key, formed-lists}
use Rattle.uplevel.proofs.Upfaults.{from-sees, unseen-answer, range-answer, refused-answer, raised-answer}
use Rattle.uplevel.proofs.uplevel.Goals as goal

pub given-given-requires : goal.given-given-requires
given-given-requires c = class-small _ _ _ _ _ c.requires.formed_list (sound-says _ c.requires.standing.sound-is).few-levels

pub returns-then-not-seen : goal.returns-then-not-seen
returns-then-not-seen c = let k = c.columns-columns.ensures in
    let x = rw (k.described, c.given-given.ensures) at c.seen.ensures in
    unseen-answer _ _ _ _ _ _ _ _ x c.if-not-seen.true

pub returns-then-not-each : goal.returns-then-not-each
returns-then-not-each c = let k = c.columns-columns.ensures in
    let x = rw (k.described, c.given-given.ensures) at c.seen.ensures in
    let y = rw (k.described, k.of_relation) at c.each.ensures in
    range-answer _ _ _ _ _ _ _ _ x c.if-not-seen.false y c.if-not-each.true

pub own-requires-clause-key_nonzero : goal.own-requires-clause-key_nonzero
own-requires-clause-key_nonzero c = formed-key _ _ _ _ _ c.requires.formed_list

pub returns-in_err-own : goal.returns-in_err-own
returns-in_err-own c = let k = c.columns-columns.ensures in
    let x = rw (k.described, c.given-given.ensures) at c.seen.ensures in
    let y = rw (k.described, k.of_relation) at c.each.ensures in
    let p = err_from_is_err_and c.from_residual.result c.from_residual.ensures.1 in
    let e = rw (c.given-given.ensures) at c.in_err-own.ensures in
    rw (p.1, p.2) (refused-answer _ _ _ _ _ _ _ _ x c.if-not-seen.false y c.if-not-each.false c.requires.standing.sound-is e)

pub invariant_of-raising : goal.invariant_of-raising
invariant_of-raising c = let k = c.columns-columns.ensures in
    let x = rw (k.described, c.given-given.ensures) at c.seen.ensures in
    record { listing = formed-lists _ _ _ _ _ c.requires.formed_list _ (from-sees _ _ _ _ x c.if-not-seen.false) }

pub returns : goal.returns
returns c = let k = c.columns-columns.ensures in
    let x = rw (k.described, c.given-given.ensures) at c.seen.ensures in
    let y = rw (k.described, k.of_relation) at c.each.ensures in
    let e = rw (c.given-given.ensures) at c.in_ok-own.ensures in
    raised-answer _ _ _ _ _ _ _ _ x c.if-not-seen.false y c.if-not-each.false e c.raise.ensures

pub invariant_of-entity : goal.invariant_of-entity
invariant_of-entity c = record { keyed = formed-key _ _ _ _ _ c.requires.formed_list }
