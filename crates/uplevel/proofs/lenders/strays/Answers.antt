use mathlib.Core.Path.{◌∙◌}
use native.Mathlib.Omega.{arith}
use Rattle.cells.proofs.Counts.{relation-few, foreign-is, refers-is, target-relation, in-level}
use Rattle.uplevel.proofs.Borrowing.{strays-other, strays-null, strays-named}
use Rattle.uplevel.proofs.lenders.strays.Goals as goal

pub offset_bounds-description-relation : goal.offset_bounds-description-relation
offset_bounds-description-relation c = omega (arith, relation-few _ c.requires.reaching.sound-is _ c.requires.reaching.relation)

pub bounds-description-relation : goal.bounds-description-relation
bounds-description-relation c = omega (arith, relation-few _ c.requires.reaching.sound-is _ c.requires.reaching.relation)

pub returns-then-column-description : goal.returns-then-column-description
returns-then-column-description c = strays-other _ _ _ _ _ _ _ (foreign-is _ _ c.requires.reaching.relation) c.if-column-description.true

pub returns-then-value-eq0 : goal.returns-then-value-eq0
returns-then-value-eq0 c = strays-null _ _ _ _ _ _ _ (foreign-is _ _ c.requires.reaching.relation) c.if-column-description.false c.if-value-eq0.true

pub lay-target-requires-clause-known_relation : goal.lay-target-requires-clause-known_relation
lay-target-requires-clause-known_relation c = let q = c.requires.reaching in
    target-relation _ q.sound-is _ q.relation (λ z. c.requires.column_nonzero (c.if-column-description.false ∙ foreign-is _ _ q.relation ∙ z))

pub agree-requires-clause-in_level : goal.agree-requires-clause-in_level
agree-requires-clause-in_level c = let q = c.requires.reaching in
    let t = target-relation _ q.sound-is _ q.relation (λ z. c.requires.column_nonzero (c.if-column-description.false ∙ foreign-is _ _ q.relation ∙ z)) in
    rw (c.lay-target.ensures.described, c.lay-target.ensures.of_relation) (in-level _ q.sound-is _ t _ q.subject, in-level _ q.sound-is _ t _ q.level)

pub returns : goal.returns
returns c = let q = c.requires.reaching in
    let a = rw (c.lay-target.ensures.described, c.lay-target.ensures.of_relation) at c.agree.ensures in
    strays-named _ _ _ _ _ _ _ (foreign-is _ _ q.relation) c.if-column-description.false c.if-value-eq0.false (refers-is _ _ q.relation) a
