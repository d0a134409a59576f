use Prim.Native.Nat.{◌+◌, ◌*◌}
use mathlib.Core.Path.{◌≡◌}
use Rattle.bounded.specs.Lists.{list_below, write_at}
use Rattle.records.specs.Bytes.{pair}
use Rattle.records.proofs.descriptions.ends.Given as goal

abbrev pub invariant-loop-k : goal.invariant-loop-k
invariant-loop-k l = l.next ≡ write_at (9 * l.relation + 1) (list_below l.k (λ j. pair l.bytes (l.at + 4 * j))) l.fn.before
