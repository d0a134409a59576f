use mathlib.Core.Path.{sym, ◌∙◌}
use native.Mathlib.Omega.{arith}
use borrow.Author.Rules.{rules}
use borrow.Author.Tests.{tests, eqb-true, eqb-false}
use Rattle.std.proofs.lemmas.Iterator.{YieldsList-from_slice}
use Rattle.std.proofs.lemmas.Iterator.Search.{all_from_yields_List}
use Rattle.model.specs.Conditions.{condition_formed}
use Rattle.conditions.specs.Facts.{condition_of}
use Rattle.conditions.proofs.Meeting.{cut-fails, many-fails, each-formed, all-formed}
use Rattle.conditions.proofs.formed.Goals as goal

pub returns-then-not-is_empty : goal.returns-then-not-is_empty
returns-then-not-is_empty c = sym (cut-fails _ _ _ (λ e. eqb-false _ _ (sym c.is_empty.ensures ∙ c.if-not-is_empty.true) (omega arith)))

pub returns-then-conditions-gt4 : goal.returns-then-conditions-gt4
returns-then-conditions-gt4 c = sym (many-fails _ _ _ (omega arith))

pub returns : goal.returns
returns c =
    all_from_yields_List (λ x. condition_formed c.args.description c.args.relation (condition_of x)) _ _ _ c.all.ensures.ran (YieldsList-from_slice c.as_chunks.result.0.now cc) (λ x b q k. search (rules, tests))
    ∙ rw c.as_chunks.ensures.front (each-formed _ _ _)
    ∙ all-formed _ _ _ (omega (arith, eqb-true _ _ (sym c.is_empty.ensures ∙ c.if-not-is_empty.false))) (omega arith)
