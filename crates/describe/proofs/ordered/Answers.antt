use Rattle.std.proofs.Common.{arith}
use Rattle.std.proofs.lemmas.Grind.{common_steps}
use Rattle.describe.proofs.Descriptions.{between-says}
use Rattle.describe.proofs.ordered.Goals as goal

pub labels-requires : goal.labels-requires
labels-requires c = (between-says 1 16 _ c.between.ensures c.if-between.true).1

pub relations-requires : goal.relations-requires
relations-requires c = (c.requires, grind (arith, common_steps, between-says 1 16 c.args.d.levels c.between.ensures), grind (arith, common_steps, between-says 1 8 c.args.d.relations))
