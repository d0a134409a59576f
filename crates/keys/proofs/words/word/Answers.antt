use mathlib.Core.Path.{◌≡◌, ◌∙◌}
use Rattle.keys.specs.Facts.{pair_of}
use Rattle.keys.proofs.Sets.{pair-as, pair-turned, word_none, word_more}
use Rattle.keys.proofs.words.word.Goals as goal
use Rattle.keys.proofs.words.word.Goals.{then-turned, else-turned}

pub loop-b-init : goal.loop-b-init
loop-b-init c = word_none _

pub loop-b-preserved : goal.loop-b-preserved
loop-b-preserved c =
    let on : c.if-turned.on ≡ pair_of c.args.order c.args.turned c.args.a c.loop-b.b = elim c.if-turned.branch [
      | then-turned w ↦ w.on-is ∙ pair-turned _ _ _ _ c.requires c.loop-b-test.true w.if-turned.true
      | else-turned w ↦ w.on-is ∙ pair-as _ _ _ _ c.requires c.loop-b-test.true w.if-turned.false
    ] in
    word_more _ _ _ c.loop-b.invariant on c.with-word.ensures
