use mathlib.Core.Path.{sym, ◌∙◌}
use Rattle.model.specs.Select.{asked}
use Rattle.select.proofs.asked.Goals as goal

pub returns-then-is_empty : goal.returns-then-is_empty
unfolding asked
returns-then-is_empty c = rw (sym c.is_empty.ensures ∙ c.if-is_empty.true)

pub returns : goal.returns
unfolding asked
returns c = rw (sym c.is_empty.ensures ∙ c.if-is_empty.false) c.lists.ensures
