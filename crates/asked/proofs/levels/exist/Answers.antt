use mathlib.Core.Path.{◌∙◌}
use lib.Dec.{ltb}
use borrow.Author.Rules.{rules}
use borrow.Author.Tests.{tests}
use Rattle.std.proofs.lemmas.Iterator.{YieldsList-from_slice}
use Rattle.std.proofs.lemmas.Iterator.Search.{all_from_yields_List}
use Rattle.model.specs.Description.{is_level}
use Rattle.model.specs.Listed.{each_level}
use Rattle.asked.proofs.Lists.{all-listed}
use Rattle.asked.proofs.levels.exist.Goals as goal

pub returns : goal.returns
unfolding each_level is_level
returns c =
    all_from_yields_List (λ x. ltb x c.args.description.levels) _ _ _ c.all.ensures.ran (YieldsList-from_slice c.args.list.now cc) (λ x b q k. search (rules, tests))
    ∙ all-listed _ 0 _
