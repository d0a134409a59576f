-- The last call moved no more than each may, and one more may be made, which moves no more either.
use Rattle.std.proofs.Common.{ℕ}
use Rattle.std.specs.Fn.{AlwaysReturns}
use Rattle.mlrun.specs.Moving.{MovesAtMost}
use Rattle.mlrun.proofs.waiting.patiently.Given as goal

abbrev pub invariant-loop : goal.invariant-loop
invariant-loop g l =
    goal.F-IsAlwaysCallable g l.call
    × ((most : ℕ)
    → AlwaysReturns g.F.FnMut (λ _ moved. MovesAtMost most moved) l.fn.call
    → MovesAtMost most l.done × AlwaysReturns g.F.FnMut (λ _ moved. MovesAtMost most moved) l.call)
