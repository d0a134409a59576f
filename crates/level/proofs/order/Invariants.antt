use Rattle.std.proofs.Common.{ℕ, ◌≡◌, ◌<◌, [], length, get_or}
use Rattle.level.specs.Order.{row_of}
use Rattle.level.proofs.order.Given as goal

abbrev pub invariant-loop-a : goal.invariant-loop-a
invariant-loop-a l = (length l.order ≡ 16) × ((k : ℕ) → k < l.a → get_or l.order k [] ≡ row_of l.labels l.levels k)
