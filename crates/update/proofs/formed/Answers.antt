use Rattle.std.proofs.Common.{arith}
use Rattle.std.proofs.lemmas.Grind.{common_steps}
use Rattle.update.proofs.Setting.{unlisted, formed-tests}
use Rattle.update.proofs.formed.Goals as goal

pub returns-then-is_none : goal.returns-then-is_none
returns-then-is_none c = let k = c.args.columns in grind (arith, common_steps, formed-tests k.levels.description k.relation c.args.list.now, unlisted c.args.list.now 1)

pub returns-else-is_none : goal.returns-else-is_none
returns-else-is_none c = let k = c.args.columns in grind (arith, common_steps, formed-tests k.levels.description k.relation c.args.list.now, unlisted c.args.list.now 1)
