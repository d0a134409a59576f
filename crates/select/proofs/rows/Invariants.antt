use Prim.Native.Nat.{◌*◌, ◌≤◌}
use mathlib.Core.Path.{◌≡◌}
use lib.ListN.{length}
use Rattle.bounded.specs.Lists.{concat_below}
use Rattle.model.specs.Buffers.{holding, state_of}
use Rattle.select.specs.Facts.{level_found}
use Rattle.select.proofs.rows.Given as goal

abbrev pub invariant-loop-i : goal.invariant-loop-i
invariant-loop-i l =
    (l.rows ≤ 64 * l.i)
    × (l.rows ≡ length (concat_below l.i (level_found l.table.part.description l.table.part.relation l.conditions (state_of l.table.part.description (holding l.values l.classes)) l.laid)))
