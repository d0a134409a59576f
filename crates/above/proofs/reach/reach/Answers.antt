use mathlib.Core.Path.{◌∙◌}
use native.Mathlib.Omega.{arith}
use Rattle.cells.proofs.Counts.{in-level}
use Rattle.above.proofs.Reached.{reached-own, reached-aside, reached-above, one-row-kept, few-levels, apart}
use Rattle.above.proofs.reach.reach.Goals as goal

-- Each way ends in what the model leaves at the level: its own and those aside as they are; above, the references first and then the rows.

pub returns-then-level-subject : goal.returns-then-level-subject
returns-then-level-subject c = reached-own _ _ _ _ _ _ c.if-level-subject.true

pub returns-then-not-over : goal.returns-then-not-over
returns-then-not-over c = reached-aside _ _ _ _ _ _ c.if-level-subject.false (rw c.levels.ensures.described at c.over.ensures) c.if-not-over.true

pub overflow_cast-reached : goal.overflow_cast-reached
overflow_cast-reached c = omega (arith, c.requires.carrying.1.level, few-levels c.requires.carrying.1)

pub invariant_of-reached : goal.invariant_of-reached
invariant_of-reached c = let W = c.requires.carrying.1 in
    record { at = in-level _ W.sound-is _ W.relation _ c.requires.planned_in.1; own = in-level _ W.sound-is _ W.relation _ W.level }

pub referrers-requires : goal.referrers-requires
referrers-requires c = let W = c.requires.carrying.1 in
    record { lent = (c.requires.carrying.0, W.sound-is); apart = apart W _ c.if-level-subject.false }

pub rows-requires : goal.rows-requires
rows-requires c = let W = c.requires.carrying.1 in record {
  lent = record { values = c.referrers.auto.values ∙ c.requires.carrying.0.values; classes = c.requires.carrying.0.classes };
  apart = (apart W _ c.if-level-subject.false, one-row-kept _ _ _ _ _ _ _ _ W c.if-level-subject.false c.referrers.ensures);
}

pub returns : goal.returns
returns c = reached-above
    _ _ _ _ _ _
    c.if-level-subject.false
    (rw c.levels.ensures.described at c.over.ensures)
    c.if-not-over.false
    c.requires.carrying.1
    c.requires.planned_in.0
    c.given-given.ensures
    c.referrers.ensures
    c.rows.ensures
