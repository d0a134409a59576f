use mathlib.Core.Path.{sym, ◌∙◌}
use native.Mathlib.Omega.{arith}
use Rattle.bounded.proofs.Found.{some-found, none-at, some-below, none-below}
use Rattle.cells.proofs.Sought.{key-inside}
use Rattle.cells.proofs.Written.{entity-nowhere, entity-here, entity-other}
use Rattle.cells.proofs.layout.Part.entity.Goals as goal

pub returns-in_err-row : goal.returns-in_err-row
returns-in_err-row c = rw c.from_residual.ensures (none-at (entity-nowhere _ _ _ _ _ _ _ (none-below _ _ c.in_err-row.ensures)))

pub class_at-requires : goal.class_at-requires
class_at-requires c = record { sized = c.requires.lent.classes; cell_inside = let f = some-below _ _ c.in_ok-row.ensures in key-inside _ _ _ _ c.requires.in_level (omega (arith, f)) }

pub returns-then-class_at-class : goal.returns-then-class_at-class
returns-then-class_at-class c = let f = some-below _ _ c.in_ok-row.ensures in
    some-found (f.0 ∙ sym (entity-here _ _ _ _ _ _ _ f.1 f.0 (sym c.class_at.ensures ∙ c.if-class_at-class.true))) (omega (arith, f))

pub returns : goal.returns
returns c = let f = some-below _ _ c.in_ok-row.ensures in
    none-at (entity-other _ _ _ _ _ _ _ f.0 (λ e. c.if-class_at-class.false (c.class_at.ensures ∙ e)))
