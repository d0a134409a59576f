use mathlib.Core.Path.{◌∙◌}
use lib.Dec.{eqb}
use lib.ListN.{get_or}
use borrow.Author.Rules.{rules}
use borrow.Author.Tests.{tests}
use Rattle.std.proofs.lemmas.Iterator.{YieldsList-from_slice}
use Rattle.std.proofs.lemmas.Iterator.Search.{position_from_yields_List}
use Rattle.asked.proofs.Listing.{first-pair}
use Rattle.asked.proofs.pairs.find.Goals as goal

pub returns : goal.returns
returns c =
    position_from_yields_List (λ x. eqb (get_or x 0 0) c.args.column) _ _ _ c.position.ensures.ran (YieldsList-from_slice c.as_chunks.result.0.now cc) (λ x b q k. search (rules, tests))
    ∙ rw c.as_chunks.ensures.front (first-pair _ _)
