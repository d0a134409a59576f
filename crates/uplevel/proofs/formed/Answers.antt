use Rattle.std.proofs.Common.{arith}
use Rattle.std.proofs.lemmas.Grind.{common_steps}
use Rattle.uplevel.proofs.Upformed.{formed-tests, key-lists}
use Rattle.uplevel.proofs.formed.Goals as goal

pub returns-then-class-eq255 : goal.returns-then-class-eq255
returns-then-class-eq255 c = let k = c.args.columns in grind (arith, common_steps, formed-tests k.levels.description k.relation c.args.key c.args.class c.args.list.now, key-lists c.args.list.now)

pub returns-else-class-eq255 : goal.returns-else-class-eq255
returns-else-class-eq255 c = let k = c.args.columns in grind (arith, common_steps, formed-tests k.levels.description k.relation c.args.key c.args.class c.args.list.now, key-lists c.args.list.now)

pub returns-else-key-ne0 : goal.returns-else-key-ne0
returns-else-key-ne0 c = let k = c.args.columns in grind (arith, common_steps, formed-tests k.levels.description k.relation c.args.key c.args.class c.args.list.now, key-lists c.args.list.now)
