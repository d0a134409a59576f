use mathlib.Core.Path.{ap, ◌∙◌}
use mathlib.Core.Bool.{not}
use Rattle.model.specs.Delete.{delete_tests}
use Rattle.change.proofs.Ended.{fails, passes, no_more}
use Rattle.change.proofs.Known.{over-self}
use Rattle.delete.proofs.Deleted.{referred-test}
use Rattle.delete.proofs.Rows.check.Goals as goal

pub returns-then-referred : goal.returns-then-referred
unfolding delete_tests
returns-then-referred c = let n = c.requires.naming in
    fails _ _ (referred-test _ _ _ _ _ (over-self _ n.sound-is _ n.level) _ c.requires.chosen_at c.referred.ensures ∙ ap not c.if-referred.true)

pub returns : goal.returns
unfolding delete_tests
returns c = let n = c.requires.naming in
    passes _ _ (referred-test _ _ _ _ _ (over-self _ n.sound-is _ n.level) _ c.requires.chosen_at c.referred.ensures ∙ ap not c.if-referred.false) no_more
