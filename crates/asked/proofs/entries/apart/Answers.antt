use mathlib.Core.Bool.{not}
use mathlib.Core.Path.{◌≡◌, refl, sym, ap, ◌∙◌}
use native.Mathlib.Omega.{arith}
use borrow.Author.Tests.{eq-eqb, ne_eqb}
use lib.ListN.{get_or}
use Rattle.std.proofs.lemmas.List.{length-take-le}
use Rattle.bounded.proofs.All.{all_start, all_more, all-fails, all_end}
use Rattle.asked.specs.Facts.{first_of}
use Rattle.asked.proofs.Lists.{before-is}
use Rattle.asked.proofs.entries.apart.Goals as goal

pub loop-before-init : goal.loop-before-init
loop-before-init g c = all_start _

pub returns-then-before-first : goal.returns-then-before-first
unfolding first_of
returns-then-before-first g c =
    let e : get_or c.before-item.result 0 0 ≡ first_of c.args.entries.now c.loop-before.before-index = before-is _ _ _ c.before-item.is c.requires.known c.loop-before-test.true in
    sym (all-fails _ c.loop-before.before-index _ refl (ap not (eq-eqb _ _ (sym c.if-before-first.true ∙ e))) (omega (arith, length-take-le c.args.i c.args.entries.now (omega arith))))

pub loop-before-preserved : goal.loop-before-preserved
unfolding first_of
loop-before-preserved g c =
    let e : get_or c.before-item.result 0 0 ≡ first_of c.args.entries.now c.loop-before.before-index = before-is _ _ _ c.before-item.is c.requires.known c.loop-before-test.true in
    all_more _ _ c.loop-before.invariant refl (ap not (ne_eqb _ _ (λ f. c.if-before-first.false (e ∙ sym f))))

pub returns : goal.returns
returns g c = let l = c.loop-before in
    let e = length-take-le c.args.i c.args.entries.now (omega arith) in
    sym (all_end _ l.before-index _ l.invariant (omega (arith, e, l.auto.before-index-end)) (omega (arith, e, c.loop-before-test.false)))
