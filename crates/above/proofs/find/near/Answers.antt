use mathlib.Core.Path.{sym, ◌∙◌}
use Rattle.bounded.proofs.Found.{some-found}
use Rattle.cells.proofs.Sought.{key-inside}
use Rattle.above.proofs.Sought.{key_here}
use Rattle.above.proofs.find.near.Goals as goal

pub value_at-requires-clause-cell_inside : goal.value_at-requires-clause-cell_inside
value_at-requires-clause-cell_inside c = key-inside _ _ _ _ c.requires.sized.1.level c.requires.sized.1.row

pub returns-then-value_at-key : goal.returns-then-value_at-key
returns-then-value_at-key c = let e = key_here _ _ _ _ _ _ c.requires.one_row.0 c.requires.one_row.1 c.requires.sized.1.row (sym c.value_at.ensures ∙ c.if-value_at-key.true) in
    some-found e c.requires.sized.1.row
