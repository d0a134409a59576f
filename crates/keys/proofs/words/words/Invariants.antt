use Rattle.keys.specs.Facts.{Words}
use Rattle.keys.proofs.words.words.Given as goal

abbrev pub invariant-loop-a : goal.invariant-loop-a
invariant-loop-a l =
    Words l.order l.turned l.a l.words
