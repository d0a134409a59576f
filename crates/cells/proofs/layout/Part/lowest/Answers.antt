use mathlib.Core.Path.{◌≡◌}
use native.Mathlib.Omega.{arith}
use Rattle.bounded.proofs.Found.{first-some, first-none}
use Rattle.bounded.proofs.First.{first-start, first_more}
use Rattle.model.specs.Effect.{lowest_empty}
use Rattle.cells.proofs.layout.Part.lowest.Goals as goal

-- The invariant: no row that was passed is empty.

pub loop-row-init : goal.loop-row-init
loop-row-init c = first-start _

pub is_empty-requires : goal.is_empty-requires
is_empty-requires c = record { lent = c.requires.lent; in_row = record { level = c.requires.in_level; row = omega (arith, c.args.self.laid.rows, c.loop-row-test.true) } }

pub returns-then-is_empty : goal.returns-then-is_empty
unfolding lowest_empty
returns-then-is_empty c = first-some _ _ _ c.loop-row.invariant c.is_empty.ensures c.if-is_empty.true (omega (arith, c.args.self.laid.rows, c.loop-row-test.true))

pub loop-row-preserved : goal.loop-row-preserved
loop-row-preserved c = first_more c.loop-row.row _ c.loop-row.invariant c.is_empty.ensures c.if-is_empty.false

pub returns : goal.returns
unfolding lowest_empty
returns c = first-none _ _ _ c.loop-row.invariant (omega (arith, c.args.self.laid.rows)) (omega (arith, c.args.self.laid.rows, c.loop-row-test.false))
