use Rattle.stream.proofs.Turns.{took-as, quiet, row-values, row-classes, row-refused, row-taken}
use Rattle.stream.proofs.row.Goals.{then-values-extent-via-then-values-extent, then-values-extent-via-else-values-extent+then-classes-extent}
use Rattle.stream.proofs.row.Goals as goal

-- Refused where the room is too small or the row can't be placed, or placed.

pub returns-then-values-extent : goal.returns-then-values-extent
returns-then-values-extent c = elim c.then-values-extent.branch [
  | then-values-extent-via-then-values-extent w ↦ took-as (row-values _ _ _ _ _ _ c.total-extent.ensures w.if-values-extent.true) (c.refuse.ensures _ _)
  | then-values-extent-via-else-values-extent+then-classes-extent w ↦ took-as (row-classes _ _ _ _ _ _ c.total-extent.ensures w.if-classes-extent.true) (c.refuse.ensures _ _)
]

pub returns-then-not-place : goal.returns-then-not-place
returns-then-not-place c = took-as (row-refused _ _ _ _ _ _ c.total-extent.ensures c.place.ensures c.if-not-place.true) (c.refuse-then-not-place.ensures _ _)

pub returns : goal.returns
returns c = quiet _ _ _ _ _ c.taken.ensures (row-taken _ _ _ _ _ _ c.total-extent.ensures c.place.ensures c.if-not-place.false)
