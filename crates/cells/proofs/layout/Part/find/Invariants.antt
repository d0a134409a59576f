use mathlib.Core.Path.{◌≡◌}
use lib.Dec.{eqb}
use Rattle.bounded.specs.Bounded.{first_below}
use Rattle.cells.specs.Changed.{value_at}
use Rattle.cells.proofs.layout.Part.find.Given as goal

abbrev pub invariant-loop-row : goal.invariant-loop-row
invariant-loop-row l = first_below l.row (λ i. eqb (value_at l.self.description l.values l.self.relation l.level i 1) l.key) ≡ l.row
