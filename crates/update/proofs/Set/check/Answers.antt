use mathlib.Core.Path.{◌∙◌}
use Rattle.model.specs.Update.{update_tests}
use Rattle.change.proofs.Ended.{fails, passes, no_more, range-test}
use Rattle.change.proofs.Known.{own-over}
use Rattle.update.proofs.Updated.{reference-test}
use Rattle.update.proofs.Set.check.Goals as goal

pub returns-then-not-each : goal.returns-then-not-each
unfolding update_tests
returns-then-not-each c = let e = rw (c.columns.ensures.described, c.columns.ensures.of_relation) at c.each.ensures in
    fails _ _ (range-test _ _ _ _ e ∙ c.if-not-each.true)

pub returns-then-not-reference : goal.returns-then-not-reference
unfolding update_tests
returns-then-not-reference c = let e = rw (c.columns.ensures.described, c.columns.ensures.of_relation) at c.each.ensures in
    passes _ _ (range-test _ _ _ _ e ∙ c.if-not-each.false)
    (fails _ _ (reference-test _ _ _ _ _ (own-over c.requires.standing) _ _ c.requires.counted c.reference.ensures ∙ c.if-not-reference.true))

pub returns : goal.returns
unfolding update_tests
returns c = let e = rw (c.columns.ensures.described, c.columns.ensures.of_relation) at c.each.ensures in
    passes _ _ (range-test _ _ _ _ e ∙ c.if-not-each.false)
    (passes _ _ (reference-test _ _ _ _ _ (own-over c.requires.standing) _ _ c.requires.counted c.reference.ensures ∙ c.if-not-reference.false) no_more)
