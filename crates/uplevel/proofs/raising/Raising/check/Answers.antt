use Rattle.std.specs.Option.{is_some}
use mathlib.Core.Path.{sym, ap, ◌∙◌}
use mathlib.Core.Bool.{not}
use Rattle.change.proofs.Ended.{fails, passes, no_more}
use Rattle.change.proofs.Known.{own-level, own-over}
use Rattle.uplevel.specs.Raising.{later_tests}
use Rattle.uplevel.proofs.Upfaults.{taken-test, full-test, class-test}
use Rattle.uplevel.proofs.raising.Raising.check.Goals as goal

pub taken-requires-clause-in_level : goal.taken-requires-clause-in_level
taken-requires-clause-in_level c = own-level c.requires.standing

pub returns-then-taken : goal.returns-then-taken
unfolding later_tests
returns-then-taken c =
    fails _ _ (taken-test _ _ _ _ _ _ _ (own-over c.requires.standing) c.args.self.now.entity.keyed c.requires.found ∙ ap not (sym c.taken.ensures ∙ c.if-taken.true))

pub returns-then-not-each : goal.returns-then-not-each
unfolding later_tests
returns-then-not-each c = let e = rw (c.columns.ensures.described, c.columns.ensures.of_relation) at c.each.ensures in
    passes _ _ (taken-test _ _ _ _ _ _ _ (own-over c.requires.standing) c.args.self.now.entity.keyed c.requires.found ∙ ap not (sym c.taken.ensures ∙ c.if-taken.false))
    (fails _ _ (class-test _ _ _ _ e ∙ c.if-not-each.true))

pub returns-then-not-borrowed : goal.returns-then-not-borrowed
unfolding later_tests
returns-then-not-borrowed c = let e = rw (c.columns.ensures.described, c.columns.ensures.of_relation) at c.each.ensures in
    passes _ _ (taken-test _ _ _ _ _ _ _ (own-over c.requires.standing) c.args.self.now.entity.keyed c.requires.found ∙ ap not (sym c.taken.ensures ∙ c.if-taken.false))
    (passes _ _ (class-test _ _ _ _ e ∙ c.if-not-each.false)
    (fails _ _ (sym c.borrowed.ensures ∙ c.if-not-borrowed.true)))

pub returns-then-is_none : goal.returns-then-is_none
unfolding later_tests
returns-then-is_none c = let e = rw (c.columns.ensures.described, c.columns.ensures.of_relation) at c.each.ensures in
    passes _ _ (taken-test _ _ _ _ _ _ _ (own-over c.requires.standing) c.args.self.now.entity.keyed c.requires.found ∙ ap not (sym c.taken.ensures ∙ c.if-taken.false))
    (passes _ _ (class-test _ _ _ _ e ∙ c.if-not-each.false)
    (passes _ _ (sym c.borrowed.ensures ∙ c.if-not-borrowed.false)
    (fails _ _ (full-test _ _ _ _ _ _ _ (own-over c.requires.standing) c.args.self.now.entity.keyed c.requires.found ∙ ap is_some (sym c.requires.spot) ∙ c.is_none.ensures ∙ ap not c.if-is_none.true))))

pub returns : goal.returns
unfolding later_tests
returns c = let e = rw (c.columns.ensures.described, c.columns.ensures.of_relation) at c.each.ensures in
    passes _ _ (taken-test _ _ _ _ _ _ _ (own-over c.requires.standing) c.args.self.now.entity.keyed c.requires.found ∙ ap not (sym c.taken.ensures ∙ c.if-taken.false))
    (passes _ _ (class-test _ _ _ _ e ∙ c.if-not-each.false)
    (passes _ _ (sym c.borrowed.ensures ∙ c.if-not-borrowed.false)
    (passes _ _ (full-test _ _ _ _ _ _ _ (own-over c.requires.standing) c.args.self.now.entity.keyed c.requires.found ∙ ap is_some (sym c.requires.spot) ∙ c.is_none.ensures ∙ ap not c.if-is_none.false) no_more)))
