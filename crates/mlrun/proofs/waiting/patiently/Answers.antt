-- What each call may at most move, this one did, and those after it will.
use Rattle.std.proofs.Common.{[], ◌∷◌, of_calls}
use Rattle.std.specs.Fn.{Called, AlwaysReturns}
use denote.Param.Members.{Mut}
use Rattle.mlrun.proofs.waiting.patiently.Goals as goal

-- what is said of each call is said of this one, and of those after it
then : {F X R : Type 0} {g : Mut F X R} {P : X → R → Type 0} {f f' : F} {a : X} {r : R} → Called g f a r f' → AlwaysReturns g P f → P a r × AlwaysReturns g P f'
then {f'} {a} {r} called h = ((h.at (a ∷ []) r f' called).0, record { at = λ xs. (h.at (a ∷ xs) r f' called).1 })

pub loop-init : goal.loop-init
loop-init g c = (search of_calls, λ most h. then c.call-done.ensures h)

pub loop-preserved : goal.loop-preserved
loop-preserved g c = (search of_calls, λ most h. then c.call-done-in-Err.ensures (c.loop.invariant.1 most h).1)
