use mathlib.Core.Path.{sym, ◌∙◌}
use Rattle.cells.proofs.Counts.{in-level}
use Rattle.uplevel.proofs.Entities.{level-few, based-unseen, based-seen}
use Rattle.uplevel.proofs.meant.based.Goals as goal

pub returns-then-not-over : goal.returns-then-not-over
returns-then-not-over c = let o = rw (c.levels.ensures.described) at c.over.ensures in
    based-unseen _ _ _ _ _ _ _ o c.if-not-over.true

pub entity-requires-clause-in_level : goal.entity-requires-clause-in_level
entity-requires-clause-in_level c = let s = c.requires in
    let o = rw (c.levels.ensures.described) at c.over.ensures in
    in-level _ s.sound-is _ s.relation _ (level-few _ s.sound-is _ _ (sym o ∙ c.if-not-over.false)).0

pub returns : goal.returns
returns c = let o = rw (c.levels.ensures.described) at c.over.ensures in
    c.is_some.ensures ∙ based-seen _ _ _ _ _ _ _ o c.if-not-over.false c.args.entity.keyed c.entity.ensures
