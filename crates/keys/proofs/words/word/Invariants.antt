use Rattle.keys.specs.Facts.{pair_of, Word}
use Rattle.keys.proofs.words.word.Given as goal

abbrev pub invariant-loop-b : goal.invariant-loop-b
invariant-loop-b l =
    Word (pair_of l.order l.turned l.a) l.b l.word
