use mathlib.Core.Path.{◌≡◌, refl, sym, ◌∙◌}
use native.Mathlib.Omega.{arith}
use borrow.Author.Tests.{eq-eqb, ne_eqb}
use Rattle.bounded.proofs.Found.{first-some, first-none}
use Rattle.bounded.proofs.First.{first-start, first_more}
use Rattle.cells.specs.Changed.{key_place}
use Rattle.cells.proofs.Sought.{key-inside}
use Rattle.cells.proofs.layout.Part.find.Goals as goal

-- The invariant: no row that was passed has the key.

pub loop-row-init : goal.loop-row-init
loop-row-init c = first-start _

pub value_at-requires : goal.value_at-requires
value_at-requires c = record {
  sized = c.requires.sized;
  cell_inside = key-inside _ _ _ _ c.requires.in_level (omega (arith, c.args.self.laid.rows, c.loop-row-test.true));
}

pub returns-then-value_at-key : goal.returns-then-value_at-key
unfolding key_place
returns-then-value_at-key c = first-some _ _ _ c.loop-row.invariant refl (eq-eqb _ _ (sym c.value_at.ensures ∙ c.if-value_at-key.true)) (omega (arith, c.args.self.laid.rows, c.loop-row-test.true))

pub loop-row-preserved : goal.loop-row-preserved
loop-row-preserved c = first_more c.loop-row.row _ c.loop-row.invariant refl (ne_eqb _ _ (λ e. c.if-value_at-key.false (c.value_at.ensures ∙ e)))

pub returns : goal.returns
unfolding key_place
returns c = first-none _ _ _ c.loop-row.invariant (omega (arith, c.args.self.laid.rows)) (omega (arith, c.args.self.laid.rows, c.loop-row-test.false))
