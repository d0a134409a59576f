use Rattle.std.proofs.Common.{arith}
use Rattle.std.proofs.lemmas.Grind.{common_steps}
use Rattle.model.specs.Description.{column_count, of_relation, is_relation, between}
use Rattle.stream.proofs.columns.Goals as goal

-- Whether the relation exists, as the description says, and then its number.

pub returns-then-not-contains : goal.returns-then-not-contains
unfolding column_count of_relation is_relation between
returns-then-not-contains c = grind (arith, common_steps)

pub returns : goal.returns
unfolding column_count of_relation is_relation between
returns c = grind (arith, common_steps)
