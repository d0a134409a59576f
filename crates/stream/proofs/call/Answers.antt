use native.Mathlib.Omega.{arith}
use lib.ListN.{length-take}
use Rattle.records.proofs.Outcomes.{holds, refuses}
use Rattle.stream.proofs.Turns.{took-as, statement-refused, statement-taken}
use Rattle.stream.proofs.call.Goals as goal

-- Refused, or answered with the lists that were read.

pub slice_bounds-list-end : goal.slice_bounds-list-end
slice_bounds-list-end c = let h = holds c.statement.ensures c.in-Ok.is in
    omega (arith, h.listed-short, c.statement.array_long)

pub slice_bounds-answer-end : goal.slice_bounds-answer-end
slice_bounds-answer-end c = let h = holds c.statement.ensures c.in-Ok.is in
    simp length-take (omega (arith, h.listed-short, c.statement.array_long))

pub slice_bounds-conditions-end : goal.slice_bounds-conditions-end
slice_bounds-conditions-end c = let h = holds c.statement.ensures c.in-Ok.is in
    omega (arith, h.tested-short, c.statement.array_long2)

pub slice_bounds-answer-end-in-Ok : goal.slice_bounds-answer-end-in-Ok
slice_bounds-answer-end-in-Ok c = let h = holds c.statement.ensures c.in-Ok.is in
    simp length-take (omega (arith, h.tested-short, c.statement.array_long2))

pub returns-in-Err : goal.returns-in-Err
returns-in-Err c = let e = refuses c.statement.ensures c.in-Err.is in
    took-as (statement-refused _ _ _ _ _ _ _ e.0) (rw (← e.1) (c.refuse.ensures _ _))

pub returns-in-Ok : goal.returns-in-Ok
returns-in-Ok c = took-as (statement-taken _ _ _ _ _ _ _ (holds c.statement.ensures c.in-Ok.is)) (rw c.taken.ensures (c.answer-printed.ensures _ _))
