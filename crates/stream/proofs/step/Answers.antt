use Rattle.stream.proofs.Turns.{took-as, step-refused, step-labels, step-relation, step_row, step-statement}
use Rattle.stream.proofs.step.Goals as goal

-- By the record's kind, if it is whole and in order.

pub returns-in-None : goal.returns-in-None
returns-in-None c = took-as (step-refused _ _ _ _ _ _ c.kind.ensures c.in-None.is) (c.refuse.ensures _ _)

pub returns-in-Some-eq1 : goal.returns-in-Some-eq1
returns-in-Some-eq1 c = let a = c.in-Some-eq1 in
    took-as (step-labels _ _ _ _ _ _ c.kind.ensures a.is a.field-0-test) (c.labels.ensures _ _)

pub returns-in-Some-eq2 : goal.returns-in-Some-eq2
returns-in-Some-eq2 c = let a = c.in-Some-eq2 in
    took-as (step-relation _ _ _ _ _ _ c.kind.ensures a.is a.field-0-test) (c.relation.ensures _ _)

pub returns-in-Some-eq3 : goal.returns-in-Some-eq3
returns-in-Some-eq3 c = let a = c.in-Some-eq3 in
    took-as (step_row _ _ _ _ _ _ c.kind.ensures a.is a.field-0-test) c.row.ensures

pub returns-in-Some : goal.returns-in-Some
returns-in-Some c = let h = c.in-Some.kind-test in
    took-as (step-statement _ _ _ _ _ _ c.kind.ensures c.in-Some.is h.0.0.1 h.0.1 h.1) c.call.ensures
