use mathlib.Core.Path.{◌≡◌}
use Rattle.bounded.specs.Bounded.{first_below}
use Rattle.model.specs.Tables.{empty_row}
use Rattle.model.specs.Buffers.{holding, state_of}
use Rattle.cells.proofs.layout.Part.lowest.Given as goal

abbrev pub invariant-loop-row : goal.invariant-loop-row
invariant-loop-row l =
    first_below l.row (λ i. empty_row l.self.description l.self.relation ((state_of l.self.description (holding l.values l.classes) l.level).rows l.self.relation i)) ≡ l.row
