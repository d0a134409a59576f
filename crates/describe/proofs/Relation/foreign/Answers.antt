use borrow.Author.Tests.{ne_eqb}
use Rattle.std.proofs.Common.{arith}
use Rattle.std.proofs.lemmas.Grind.{common_steps}
use Rattle.describe.proofs.Descriptions.{foreign-none, foreign-as}
use Rattle.describe.proofs.Relation.foreign.Goals as goal

pub returns-then-column-eq0 : goal.returns-then-column-eq0
returns-then-column-eq0 c = foreign-none _ _ _ c.args.self.now.described c.if-column-eq0.true

pub returns-then-refers-ne0 : goal.returns-then-refers-ne0
returns-then-refers-ne0 c = rw (foreign-as _ _ _ c.args.self.now.described c.if-column-eq0.false, ← c.between.ensures, c.if-refers-ne0.true.0, ne_eqb _ 0 c.if-refers-ne0.true.1)

pub returns-else-refers-ne0 : goal.returns-else-refers-ne0
returns-else-refers-ne0 c = grind (arith, common_steps, foreign-as _ _ _ c.args.self.now.described c.if-column-eq0.false)
