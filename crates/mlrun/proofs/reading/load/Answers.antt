-- No record takes more than 1,028 bytes, so there is room for one more byte; what was held at the start is held after one more read.
use Rattle.std.proofs.Common.{◌∙◌, arith, take}
use Rattle.input.proofs.Stepping.{wanted-most}
use Rattle.mlrun.proofs.Holding.{added-on}
use Rattle.mlrun.proofs.reading.load.Goals as goal

pub more-requires : goal.more-requires
more-requires g c =
    let i = c.loop-to.invariant in
    omega (arith, i.2, c.loop-to-test.true, c.wanted.ensures, wanted-most (take c.loop-to.to c.loop-to.buffer))

pub loop-to-preserved : goal.loop-to-preserved
loop-to-preserved g c =
    let i = c.loop-to.invariant in
    let came = rw c.in_ok-count.was at c.more.ensures in
    (omega (arith, i.0), omega (arith, came.within, i.2), c.more.auto.buffer ∙ i.2, added-on i.0 i.2 i.3 came)
