use Prim.Native.Nat.{ℕ, ◌+◌, ◌*◌, ◌≤◌, ◌<◌}
use mathlib.Core.Path.{◌≡◌}
use lib.ListN.{length, get_or}
use Rattle.bounded.specs.Bounded.{sum_below}
use Rattle.model.specs.Description.{size_of, start_of}
use Rattle.keys.proofs.areas.starts.Given as goal

abbrev pub invariant-loop-r : goal.invariant-loop-r
invariant-loop-r l =
    (l.sum ≡ sum_below l.r (size_of l.d)) × (l.sum ≤ l.r * 8192) × (length l.starts ≡ 9) × ((k : ℕ) → k < l.r + 1 → get_or l.starts k 0 ≡ start_of l.d k) × ((k : ℕ) → l.r < k → get_or l.starts k 0 ≡ 0)
