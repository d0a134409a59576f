use Rattle.std.proofs.Common.{◌≡◌, suc, true}
use Rattle.bounded.specs.Bounded.{all_below}
use Rattle.model.specs.Description.{over, high_of, low_of}
use Rattle.describe.proofs.Relation.ranged.Given as goal

abbrev pub invariant-loop-k : goal.invariant-loop-k
invariant-loop-k l = all_below l.k (λ j. over l.d (high_of l.d l.self.number (suc j)) (low_of l.d l.self.number (suc j))) ≡ true
