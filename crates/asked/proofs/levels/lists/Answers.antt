use mathlib.Core.Path.{◌∙◌}
use lib.Dec.{eqb}
use borrow.Author.Rules.{rules}
use borrow.Author.Tests.{tests}
use Rattle.std.proofs.lemmas.Iterator.{YieldsList-from_slice}
use Rattle.std.proofs.lemmas.Iterator.Search.{any_from_yields_List}
use Rattle.model.specs.Listed.{among}
use Rattle.asked.proofs.Lists.{any-listed}
use Rattle.asked.proofs.levels.lists.Goals as goal

pub returns : goal.returns
unfolding among
returns c =
    any_from_yields_List (λ x. eqb x c.args.level) _ _ _ c.any.ensures.ran (YieldsList-from_slice c.args.list.now cc) (λ x b q k. search (rules, tests))
    ∙ any-listed _ 0 _
