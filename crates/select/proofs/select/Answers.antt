use Rattle.select.proofs.Selected.{few-levels, lent, in-levels, unseen, selected}
use Rattle.select.proofs.select.Goals as goal

pub returns-then-not-seen : goal.returns-then-not-seen
returns-then-not-seen c = let e = rw c.levels.ensures.described at c.seen.ensures in
    unseen c.requires.standing _ _ _ _ e c.if-not-seen.true

pub lay-laid-requires : goal.lay-laid-requires
lay-laid-requires c = few-levels c.requires.standing

pub fill-requires : goal.fill-requires
fill-requires c = record { lent = (lent c.requires.standing, in-levels c.requires.standing _ c.lay-laid.ensures); asking = record { ordered = c.args.table.ordered; formed = c.requires.formed_list.1 } }

pub returns : goal.returns
returns c = let e = rw c.levels.ensures.described at c.seen.ensures in
    selected c.requires.standing _ _ _ _ e c.if-not-seen.false c.lay-laid.ensures c.fill.ensures
