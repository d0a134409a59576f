use Rattle.std.proofs.Common.{arith}
use Rattle.std.proofs.lemmas.Grind.{common_steps}
use Rattle.insert.proofs.Inserted.{formed-tests}
use Rattle.insert.proofs.formed.Goals as goal

pub returns-then-once : goal.returns-then-once
returns-then-once c = let k = c.args.columns in grind (arith, common_steps, formed-tests k.levels.description k.relation c.args.list.now)

pub returns-else-once : goal.returns-else-once
returns-else-once c = let k = c.args.columns in grind (arith, common_steps, formed-tests k.levels.description k.relation c.args.list.now)
