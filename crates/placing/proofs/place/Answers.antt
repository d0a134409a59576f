use native.Mathlib.Omega.{arith}
use Rattle.bounded.proofs.Found.{some-below}
use Rattle.placing.proofs.Placed.{place-unfit, place-nowhere, described, standing, place-miscounted, place-large, place-full, place-done}
use Rattle.placing.proofs.place.Goals as goal

pub returns-then-not-fits : goal.returns-then-not-fits
returns-then-not-fits c = place-unfit _ _ _ _ c.pair-relation.ensures c.pair-level.ensures c.fits.ensures c.if-not-fits.true

pub returns-then-not-there : goal.returns-then-not-there
returns-then-not-there c = place-nowhere _ _ _ _ c.pair-relation.ensures c.pair-level.ensures c.fits.ensures c.if-not-fits.false c.there.ensures c.if-not-there.true

pub lay-part-requires : goal.lay-part-requires
lay-part-requires c = let k = described _ _ _ _ c.pair-relation.ensures c.pair-level.ensures c.fits.ensures c.if-not-fits.false c.there.ensures c.if-not-there.false in record { sound_description = k.0; known_relation = k.1 }

pub overflow_mul-columns : goal.overflow_mul-columns
overflow_mul-columns c = omega (arith, c.lay-part.result.laid.narrow)

pub overflow_add-columns : goal.overflow_add-columns
overflow_add-columns c = omega (arith, c.lay-part.result.laid.narrow)

pub returns-then-bytes-columns : goal.returns-then-bytes-columns
returns-then-bytes-columns c = place-miscounted _ _ _ _ c.pair-relation.ensures c.pair-level.ensures c.fits.ensures c.if-not-fits.false c.there.ensures c.if-not-there.false (rw (c.lay-part.ensures.described, c.lay-part.ensures.of_relation) at c.lay-part.result.laid) (λ n. omega (arith, c.if-bytes-columns.true))

pub small-requires : goal.small-requires
small-requires c = c.lay-part.result.laid.narrow

pub returns-then-not-small : goal.returns-then-not-small
returns-then-not-small c = place-large _ _ _ _ c.pair-relation.ensures c.pair-level.ensures c.fits.ensures c.if-not-fits.false c.there.ensures c.if-not-there.false (rw (c.lay-part.ensures.described, c.lay-part.ensures.of_relation) at c.lay-part.result.laid) c.if-bytes-columns.false c.small.ensures c.if-not-small.true

pub lowest-requires : goal.lowest-requires
lowest-requires c = let k = standing _ _ _ _ c.pair-relation.ensures c.pair-level.ensures c.fits.ensures c.if-not-fits.false c.there.ensures c.if-not-there.false in
    rw (c.lay-part.ensures.described, c.lay-part.ensures.of_relation) (record { lent = k.0; in_level = k.1 })

pub returns-in_default : goal.returns-in_default
returns-in_default c = let q = rw (c.lay-part.ensures.described, c.lay-part.ensures.of_relation) at c.in_default.ensures in
    place-full _ _ _ _ c.pair-relation.ensures c.pair-level.ensures c.fits.ensures c.if-not-fits.false c.there.ensures c.if-not-there.false (rw (c.lay-part.ensures.described, c.lay-part.ensures.of_relation) at c.lay-part.result.laid) c.if-bytes-columns.false c.small.ensures c.if-not-small.false q

pub store-requires : goal.store-requires
store-requires c = let k = standing _ _ _ _ c.pair-relation.ensures c.pair-level.ensures c.fits.ensures c.if-not-fits.false c.there.ensures c.if-not-there.false in
    let f = some-below _ _ (rw (c.lay-part.ensures.described, c.lay-part.ensures.of_relation) at c.in-Some.ensures) in
    rw (c.lay-part.ensures.described, c.lay-part.ensures.of_relation) (record { lent = k.0; in_row = record { level = k.1; row = omega (arith, f) } })

pub returns : goal.returns
returns c = let q = rw (c.lay-part.ensures.described, c.lay-part.ensures.of_relation) at c.in-Some.ensures in
    let w = rw (c.lay-part.ensures.described, c.lay-part.ensures.of_relation) at c.store.ensures in
    place-done _ _ _ _ c.pair-relation.ensures c.pair-level.ensures c.fits.ensures c.if-not-fits.false c.there.ensures c.if-not-there.false (rw (c.lay-part.ensures.described, c.lay-part.ensures.of_relation) at c.lay-part.result.laid) c.if-bytes-columns.false c.small.ensures c.if-not-small.false q c.news-news.ensures c.owners-owners.ensures w c.store.auto.values c.store.auto.classes
