use mathlib.Core.Path.{◌∙◌}
use lib.ListN.{get_or}
use borrow.Author.Rules.{rules}
use borrow.Author.Tests.{tests}
use Rattle.std.proofs.lemmas.Iterator.{YieldsList-from_slice}
use Rattle.std.proofs.lemmas.Iterator.Search.{all_from_yields_List}
use Rattle.asked.specs.Facts.{rule_of}
use Rattle.asked.proofs.Listing.{each-pair}
use Rattle.asked.proofs.columns.Columns.each.Goals as goal

pub returns : goal.returns
returns c =
    all_from_yields_List (λ x. rule_of c.args.self.levels.description c.args.self.relation c.args.rule (get_or x 0 0) (get_or x 1 0)) _ _ _ c.all.ensures.ran (YieldsList-from_slice c.as_chunks.result.0.now cc) (λ x b q k. search (rules, tests))
    ∙ rw c.as_chunks.ensures.front (each-pair _ _)
