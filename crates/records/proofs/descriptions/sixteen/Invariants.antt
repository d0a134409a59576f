use mathlib.Core.Path.{◌≡◌}
use Rattle.bounded.specs.Lists.{list_below, write_at}
use Rattle.records.specs.Descriptions.{label_at}
use Rattle.records.proofs.descriptions.sixteen.Given as goal

abbrev pub invariant-loop-level : goal.invariant-loop-level
invariant-loop-level l = l.labels ≡ write_at 0 (list_below l.level (λ k. label_at l.bytes k)) l.initial.labels
