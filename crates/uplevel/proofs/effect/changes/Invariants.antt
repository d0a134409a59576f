use Prim.Native.Nat.{ℕ, ◌<◌}
use mathlib.Core.Path.{◌≡◌}
use lib.ListN.{length, get_or}
use Rattle.above.specs.declared.plan.Change.TheVariants as Changes
use Rattle.uplevel.proofs.effect.changes.Given as goal

abbrev pub invariant-loop-column : goal.invariant-loop-column
invariant-loop-column l = record {
  long : length l.changes ≡ 9;
  only : (k : ℕ) → k < l.column → get_or l.changes k Changes.Keep ≡ Changes.Only (get_or l.news.values k 0) (get_or l.news.classes k 0);
}
