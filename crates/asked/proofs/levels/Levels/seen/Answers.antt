use mathlib.Core.Path.{◌∙◌}
use borrow.Author.Rules.{rules}
use borrow.Author.Tests.{tests}
use Rattle.std.proofs.lemmas.Iterator.{YieldsList-from_slice}
use Rattle.std.proofs.lemmas.Iterator.Search.{all_from_yields_List}
use Rattle.model.specs.Description.{over}
use Rattle.model.specs.Listed.{each_level}
use Rattle.asked.proofs.Lists.{all-listed}
use Rattle.asked.proofs.levels.Levels.seen.Goals as goal

pub returns : goal.returns
unfolding each_level
returns c =
    all_from_yields_List (over c.args.self.description c.args.level) _ _ _ c.all.ensures.ran (YieldsList-from_slice c.args.list.now cc) (λ x b q k. search (rules, tests))
    ∙ all-listed _ 0 _
