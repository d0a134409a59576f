use Prim.Native.Nat.{suc, ◌≤◌, ◌-◌}
use mathlib.Core.Bool.{true}
use mathlib.Core.Path.{◌≡◌}
use Rattle.bounded.specs.Bounded.{all_below}
use Rattle.model.specs.Tables.{nocell, same}
use Rattle.model.specs.Buffers.{holding, state_of}
use Rattle.cells.proofs.layout.Part.is_empty.Given as goal

abbrev pub invariant-loop-column : goal.invariant-loop-column
invariant-loop-column l =
    (l.column ≤ l.self.columns) × (all_below l.column (λ k. same ((state_of l.self.description (holding l.values l.classes) l.level).rows l.self.relation l.row (suc k)) nocell) ≡ true)
