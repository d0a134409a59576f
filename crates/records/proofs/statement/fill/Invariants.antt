use Prim.Native.Nat.{◌+◌, ◌*◌}
use mathlib.Core.Path.{◌≡◌}
use Rattle.bounded.specs.Lists.{concat_below, write_at}
use Rattle.records.specs.Kinds.{width}
use Rattle.records.specs.Statements.{entry_at}
use Rattle.records.proofs.statement.fill.Given as goal

abbrev pub invariant-loop-i : goal.invariant-loop-i
invariant-loop-i l =
    l.list ≡ write_at 0 (concat_below l.i (λ j. entry_at l.bytes l.entry (l.at + 2 + width l.entry * j))) l.initial.list
