use Rattle.select.proofs.Shown.{wrote-start}
use Rattle.select.proofs.Found.{level-room, level-next, level-end}
use Rattle.select.proofs.write.Goals as goal

-- The invariant: the rows found at the levels passed are written.

pub loop-next-init : goal.loop-next-init
loop-next-init c = wrote-start _ _ _ _

pub show-at-requires : goal.show-at-requires
show-at-requires c = let l = c.loop-next in
    let small = c.loop-next-test.true in record { lent = (c.requires.lent.0, (record { relation = c.requires.lent.1.0.relation; level = c.requires.lent.1.0.level _ small; keyed = c.requires.lent.1.0.keyed }, c.requires.lent.1.1)); room = level-room _ _ _ _ _ _ l.invariant small c.requires.room l.auto.shown l.auto.owners }

pub loop-next-preserved : goal.loop-next-preserved
loop-next-preserved c = let l = c.loop-next in
    level-next _ _ _ _ _ _ l.invariant c.loop-next-test.true c.requires.room c.show-at.ensures

pub returns : goal.returns
returns c = let l = c.loop-next in
    let w = level-end _ _ _ _ _ _ l.invariant l.auto.next-end c.loop-next-test.false in
    record { values-is = w.values-is; owners-is = w.owners-is }
