use Rattle.change.specs.Facts.{Filled}
use Rattle.placing.specs.Placing.{row_read}
use Rattle.placing.proofs.news.Given as goal

abbrev pub invariant-loop-k : goal.invariant-loop-k
invariant-loop-k l =
    Filled l.k (λ k. (row_read l.bytes k).value) l.news
