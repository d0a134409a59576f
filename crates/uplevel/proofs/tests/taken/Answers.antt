use mathlib.Core.Path.{ap, ◌∙◌}
use Rattle.std.specs.Prelude.{is_some}
use Rattle.uplevel.proofs.Entities.{some-is}
use Rattle.uplevel.proofs.tests.taken.Goals as goal

pub returns-then-is_none : goal.returns-then-is_none
returns-then-is_none c = let n = c.if-is_none.ensures in rw n (c.is_some.ensures ∙ (ap is_some c.find.ensures ∙ some-is _ _))
