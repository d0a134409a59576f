use mathlib.Core.Path.{sym, ◌∙◌}
use Rattle.stream.proofs.Turns.{took-as, quiet, relation-refused, relation-taken}
use Rattle.stream.proofs.relation.Goals as goal

-- Refused by its length, or described.

pub returns-then-not-is_relation : goal.returns-then-not-is_relation
returns-then-not-is_relation c = λ values classes. took-as (relation-refused _ _ values classes _ _ (sym c.is_relation.ensures ∙ c.if-not-is_relation.true)) (c.refuse.ensures values classes)

pub returns : goal.returns
returns c = λ values classes. quiet _ _ values classes _ c.taken.ensures (relation-taken _ _ values classes _ _ (sym c.is_relation.ensures ∙ c.if-not-is_relation.false) c.relation.ensures)
