use native.Mathlib.Omega.{arith}
use Rattle.cells.proofs.Counts.{relation-few, in-level, foreign-is, refers-is}
use Rattle.above.proofs.Taken.{foreign-few, referred, lost-unreferring, lost-untaken, lost-null, lost-named}
use Rattle.above.proofs.reach.lost.Goals as goal

pub bounds-description-part : goal.bounds-description-part
bounds-description-part c = omega (arith, relation-few _ c.requires.sound-is _ c.requires.relation)

pub offset_bounds-description-part : goal.offset_bounds-description-part
offset_bounds-description-part c = omega (arith, relation-few _ c.requires.sound-is _ c.requires.relation)

pub returns-then-column-eq0 : goal.returns-then-column-eq0
returns-then-column-eq0 c = lost-unreferring _ _ _ _ _ _ (foreign-is _ _ c.requires.relation) c.if-column-eq0.true

pub bounds : goal.bounds
bounds c = foreign-few _ c.requires.sound-is _ c.requires.relation

pub returns-in_default : goal.returns-in_default
returns-in_default c = lost-untaken _ _ _ _ _ _ (foreign-is _ _ c.requires.relation) c.in_default.not-Take

pub returns-then-key-eq0 : goal.returns-then-key-eq0
returns-then-key-eq0 c = lost-null _ _ _ _ _ _ (foreign-is _ _ c.requires.relation) c.if-column-eq0.false c.in-Take.is c.if-key-eq0.true

pub lay-target-requires-clause-known_relation : goal.lay-target-requires-clause-known_relation
lay-target-requires-clause-known_relation c = referred _ c.requires.sound-is _ c.requires.relation c.if-column-eq0.false

pub agree-requires : goal.agree-requires
agree-requires c = let t = referred _ c.requires.sound-is _ c.requires.relation c.if-column-eq0.false in
    rw (c.lay-target.ensures.described, c.lay-target.ensures.of_relation)
    (record {
      lent = (record { values = c.requires.values; classes = c.requires.classes }, c.if-key-eq0.false);
      in_level = (in-level _ c.requires.sound-is _ t _ c.requires.level, in-level _ c.requires.sound-is _ t _ c.requires.subject);
    })

pub returns : goal.returns
returns c = lost-named
    _ _ _ _ _ _
    (foreign-is _ _ c.requires.relation)
    c.if-column-eq0.false
    c.in-Take.is
    c.if-key-eq0.false
    (refers-is _ _ c.requires.relation)
    (rw (c.lay-target.ensures.described, c.lay-target.ensures.of_relation) at c.agree.ensures)
