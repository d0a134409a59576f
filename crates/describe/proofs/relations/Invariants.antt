use Rattle.std.proofs.Common.{◌≡◌, suc, true}
use Rattle.bounded.specs.Bounded.{all_below}
use Rattle.model.specs.Description.{relation_sound}
use Rattle.describe.proofs.relations.Given as goal

abbrev pub invariant-loop-r : goal.invariant-loop-r
invariant-loop-r l = all_below l.r (λ q. relation_sound l.d (suc q)) ≡ true
