use mathlib.Core.Path.{refl}
use mathlib.Core.List.{[]}
use native.Mathlib.Omega.{arith}
use Rattle.select.specs.Facts.{shown_levels}
use Rattle.select.proofs.Heights.{holds-none, holds-held, holds-next, holds-end, levels-room}
use Rattle.select.proofs.lay.Goals as goal

-- The invariant: the levels of the heights passed stand in order.

pub loop-height-init : goal.loop-height-init
loop-height-init c = holds-none _

pub high-found-requires : goal.high-found-requires
high-found-requires c = let l = c.loop-height in
    record { holds = holds-held l.invariant; levels_bound = (c.requires, omega (arith, l.invariant.count, levels-room c.args.d c.args.subject c.args.list.now l.height c.loop-height-test.true)) }

pub loop-height-preserved : goal.loop-height-preserved
loop-height-preserved c = let l = c.loop-height in
    holds-next _ _ [] l.invariant refl c.high-found.ensures

pub returns : goal.returns
unfolding shown_levels
returns c = holds-end _ _ _ [] c.loop-height.invariant c.loop-height.auto.height-end c.loop-height-test.false
