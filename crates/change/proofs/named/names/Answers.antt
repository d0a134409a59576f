use mathlib.Core.Path.{◌∙◌}
use native.Mathlib.Omega.{arith}
use Rattle.cells.proofs.Counts.{relation-few, in-level, refers-is, target-relation}
use Rattle.change.proofs.Sought.{names-null, names-sought}
use Rattle.change.proofs.named.names.Goals as goal

pub returns-then-key-eq0 : goal.returns-then-key-eq0
returns-then-key-eq0 c = λ cs. names-null _ _ _ _ _ _ c.if-key-eq0.true

pub offset_bounds-description-relation : goal.offset_bounds-description-relation
offset_bounds-description-relation c = omega (arith, relation-few _ c.requires.naming.sound-is _ c.requires.naming.relation)

pub bounds-description-relation : goal.bounds-description-relation
bounds-description-relation c = omega (arith, relation-few _ c.requires.naming.sound-is _ c.requires.naming.relation)

pub lay-requires-clause-known_relation : goal.lay-requires-clause-known_relation
lay-requires-clause-known_relation c = let k = c.requires.naming in
    target-relation _ k.sound-is _ k.relation c.requires.relation_nonzero

pub find-requires-clause-in_level : goal.find-requires-clause-in_level
find-requires-clause-in_level c = let k = c.requires.naming in
    rw (c.lay.ensures.described, c.lay.ensures.of_relation) (in-level _ k.sound-is _ (target-relation _ k.sound-is _ k.relation c.requires.relation_nonzero) _ k.level)

pub returns : goal.returns
returns c = let k = c.requires.naming in
    let f = rw (c.lay.ensures.described, c.lay.ensures.of_relation) at c.find.ensures in
    λ cs. c.is_some.ensures ∙ names-sought _ _ cs _ _ _ c.if-key-eq0.false (refers-is _ _ k.relation) f
