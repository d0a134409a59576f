use Rattle.model.specs.Tables.{State}
use Rattle.model.specs.Buffers.{holding, state_of}
use Rattle.select.proofs.Shown.{wrote-start, wrote-unchosen}
use Rattle.select.proofs.Found.{show-room, show-next, show-end}
use native.Mathlib.Omega.{arith}
use Rattle.select.proofs.show.Goals as goal
use Rattle.select.proofs.show.Goals.{then-chosen-row, else-chosen-row}

-- The invariant: the rows passed that meet the conditions are written.

pub loop-row-init : goal.loop-row-init
loop-row-init c = wrote-start _ _ _ _

pub put-at-requires : goal.put-at-requires
put-at-requires c = let l = c.loop-row in
    let small = c.loop-row-test.true in
    let room = show-room _ _ _ _ _ c.args.table.part.laid.rows _ c.chosen-chosen.ensures small c.requires.room l.invariant l.auto.shown l.auto.owners in
    record {
      lent = (c.requires.lent.0, (record { level = c.requires.lent.1.0; row = omega (arith, small, c.args.table.part.laid.rows) }, omega (arith, c.requires.lent.1.0.level, c.args.table.ordered.few)));
      room = rw c.if-chosen-row.true at room;
    }

pub loop-row-preserved : goal.loop-row-preserved
loop-row-preserved c = let l = c.loop-row in
    let S : State = state_of c.args.table.part.description (holding c.args.values.now c.args.classes.now) in
    elim c.if-chosen-row.branch [
      | then-chosen-row w ↦ rw (w.shown-is, w.owners-is, w.at-is)
          (show-next _ _ _ S _ c.args.table.part.laid.rows l.row c.chosen-chosen.ensures c.loop-row-test.true c.requires.room l.invariant
          (rw w.if-chosen-row.true w.put-at.ensures))
      | else-chosen-row w ↦ rw (w.shown-is, w.owners-is, w.at-is)
          (show-next _ _ _ S _ c.args.table.part.laid.rows l.row c.chosen-chosen.ensures c.loop-row-test.true c.requires.room l.invariant
          (wrote-unchosen _ _ _ _ _ _ _ _ w.if-chosen-row.false))
    ]

pub returns : goal.returns
returns c = let l = c.loop-row in
    show-end _ _ _ _ _ c.args.table.part.laid.rows l.invariant l.auto.row-end c.loop-row-test.false
