use Rattle.std.proofs.Common.{arith}
use Rattle.std.proofs.lemmas.Grind.{common_steps}
use Rattle.describe.proofs.Descriptions.{relation-as, few-columns}
use Rattle.describe.proofs.Relation.sound.Goals as goal

pub ranged-requires : goal.ranged-requires
ranged-requires c = grind (arith, common_steps, few-columns _ _ _ c.args.self.now.described c.between.ensures)

pub returns-then-ranged : goal.returns-then-ranged
returns-then-ranged c = grind (arith, common_steps, relation-as _ _ _ c.args.self.now.described)

pub returns-else-ranged : goal.returns-else-ranged
returns-else-ranged c = grind (arith, common_steps, relation-as _ _ _ c.args.self.now.described)
