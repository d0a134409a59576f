use mathlib.Core.Path.{sym, ◌∙◌}
use Rattle.stream.proofs.Turns.{took-as, quiet, labels-refused, labels-taken}
use Rattle.stream.proofs.labels.Goals as goal

-- Refused by its length, or described.

pub returns-then-not-is_labels : goal.returns-then-not-is_labels
returns-then-not-is_labels c = λ values classes. took-as (labels-refused _ _ values classes _ _ (sym c.is_labels.ensures ∙ c.if-not-is_labels.true)) (c.refuse.ensures values classes)

pub returns : goal.returns
returns c = λ values classes. quiet _ _ values classes _ c.taken.ensures (labels-taken _ _ values classes _ _ (sym c.is_labels.ensures ∙ c.if-not-is_labels.false) c.labels.ensures)
