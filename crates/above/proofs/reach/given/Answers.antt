use Rattle.cells.proofs.Counts.{foreign-is}
use Rattle.above.proofs.Taken.{foreign-few, given-whole, given-handed}
use Rattle.above.proofs.reach.given.Goals as goal

pub returns-then-not-lost : goal.returns-then-not-lost
returns-then-not-lost c = given-whole _ _ _ _ _ _ c.lost.ensures c.if-not-lost.true

pub hand-requires : goal.hand-requires
hand-requires c = foreign-few _ c.requires.sound-is _ c.requires.relation

pub returns : goal.returns
returns c = given-handed
    _ _ _ _ _ _
    c.lost.ensures
    c.if-not-lost.false
    (foreign-is _ _ c.requires.relation)
    (rw (c.columns.ensures.described, c.columns.ensures.of_relation) at c.null-class.ensures)
    c.hand.ensures
