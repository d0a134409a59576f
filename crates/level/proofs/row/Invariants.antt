use Rattle.std.proofs.Common.{ℕ, ◌≡◌, ◌<◌, false, length, get_or}
use Rattle.level.specs.Order.{level_dominates}
use Rattle.level.proofs.row.Given as goal

abbrev pub invariant-loop-b : goal.invariant-loop-b
invariant-loop-b l = (length l.row ≡ 16) × ((k : ℕ) → k < l.b → get_or l.row k false ≡ level_dominates l.labels l.levels l.a k)
