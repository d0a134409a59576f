use mathlib.Core.Path.{sym, ap, ◌∙◌}
use mathlib.Core.Bool.{not}
use Rattle.model.specs.Insert.{insert_tests}
use Rattle.change.proofs.Ended.{fails, passes, no_more, range-test, names-test}
use Rattle.change.proofs.Known.{own-level, own-over}
use Rattle.insert.proofs.Inserted.{formed-columns, taken-test, room-test}
use Rattle.insert.proofs.check.Goals as goal

pub returns-then-not-each : goal.returns-then-not-each
unfolding insert_tests
returns-then-not-each c = let e = rw (c.columns.ensures.described, c.columns.ensures.of_relation) at c.each.ensures in
    fails _ _ (range-test _ _ _ _ e ∙ c.if-not-each.true)

pub find-requires-clause-in_level : goal.find-requires-clause-in_level
find-requires-clause-in_level c = own-level c.requires.standing

pub returns-then-is_some : goal.returns-then-is_some
unfolding insert_tests
returns-then-is_some c = let e = rw (c.columns.ensures.described, c.columns.ensures.of_relation) at c.each.ensures in
    passes _ _ (range-test _ _ _ _ e ∙ c.if-not-each.false)
    (fails _ _ (taken-test c.requires.standing _ c.requires.formed_list c.value-key.ensures c.find.ensures ∙ ap not (sym c.is_some.ensures ∙ c.if-is_some.true)))

pub listed-requires-clause-columns_listed : goal.listed-requires-clause-columns_listed
listed-requires-clause-columns_listed c = formed-columns _ _ _ c.requires.formed_list

pub returns-then-not-listed : goal.returns-then-not-listed
unfolding insert_tests
returns-then-not-listed c = let e = rw (c.columns.ensures.described, c.columns.ensures.of_relation) at c.each.ensures in
    passes _ _ (range-test _ _ _ _ e ∙ c.if-not-each.false)
    (passes _ _ (taken-test c.requires.standing _ c.requires.formed_list c.value-key.ensures c.find.ensures ∙ ap not (sym c.is_some.ensures ∙ c.if-is_some.false))
    (fails _ _ (names-test _ _ _ _ _ _ (own-over c.requires.standing) c.listed.ensures ∙ c.if-not-listed.true)))

pub returns-then-is_none : goal.returns-then-is_none
unfolding insert_tests
returns-then-is_none c = let e = rw (c.columns.ensures.described, c.columns.ensures.of_relation) at c.each.ensures in
    passes _ _ (range-test _ _ _ _ e ∙ c.if-not-each.false)
    (passes _ _ (taken-test c.requires.standing _ c.requires.formed_list c.value-key.ensures c.find.ensures ∙ ap not (sym c.is_some.ensures ∙ c.if-is_some.false))
    (passes _ _ (names-test _ _ _ _ _ _ (own-over c.requires.standing) c.listed.ensures ∙ c.if-not-listed.false)
    (fails _ _ (room-test c.requires.standing _ c.requires.formed_list c.requires.row ∙ c.is_none.ensures ∙ ap not c.if-is_none.true))))

pub returns : goal.returns
unfolding insert_tests
returns c = let e = rw (c.columns.ensures.described, c.columns.ensures.of_relation) at c.each.ensures in
    passes _ _ (range-test _ _ _ _ e ∙ c.if-not-each.false)
    (passes _ _ (taken-test c.requires.standing _ c.requires.formed_list c.value-key.ensures c.find.ensures ∙ ap not (sym c.is_some.ensures ∙ c.if-is_some.false))
    (passes _ _ (names-test _ _ _ _ _ _ (own-over c.requires.standing) c.listed.ensures ∙ c.if-not-listed.false)
    (passes _ _ (room-test c.requires.standing _ c.requires.formed_list c.requires.row ∙ c.is_none.ensures ∙ ap not c.if-is_none.false) no_more)))
