use mathlib.Core.Path.{sym, ◌∙◌}
use native.Mathlib.Omega.{arith}
use Rattle.cells.proofs.Counts.{relation-few, foreign-is}
use Rattle.change.proofs.Pairs.{pair-there, names-unreferring, names-unlisted, names-listed}
use Rattle.change.proofs.named.listed.Goals as goal

pub offset_bounds-description-relation : goal.offset_bounds-description-relation
offset_bounds-description-relation c = let k = c.requires.naming in
    omega (arith, relation-few _ k.sound-is _ k.relation)

pub bounds-description-relation : goal.bounds-description-relation
bounds-description-relation c = let k = c.requires.naming in
    omega (arith, relation-few _ k.sound-is _ k.relation)

pub returns-then-column-eq0 : goal.returns-then-column-eq0
returns-then-column-eq0 c = let k = c.requires.naming in
    λ cs. names-unreferring _ _ _ _ _ c.requires.columns_listed (sym (foreign-is _ _ k.relation) ∙ c.if-column-eq0.true)

pub overflow_mul-at : goal.overflow_mul-at
overflow_mul-at c = omega (arith, pair-there _ _ c.in-Some.ensures)

pub overflow_add-at : goal.overflow_add-at
overflow_add-at c = omega (arith, pair-there _ _ c.in-Some.ensures)

pub offset_bounds-list-at : goal.offset_bounds-list-at
offset_bounds-list-at c = omega (arith, pair-there _ _ c.in-Some.ensures)

pub bounds-list-at : goal.bounds-list-at
bounds-list-at c = omega (arith, pair-there _ _ c.in-Some.ensures)

pub names-requires-clause-relation_nonzero : goal.names-requires-clause-relation_nonzero
names-requires-clause-relation_nonzero c = λ z. c.if-column-eq0.false (foreign-is _ _ c.requires.naming.relation ∙ z)

pub returns-in-Some : goal.returns-in-Some
returns-in-Some c = let k = c.requires.naming in
    λ cs. names-listed _ _ _ _ _ (foreign-is _ _ k.relation) c.in-Some.ensures (c.names.ensures cs)

pub returns-in-None : goal.returns-in-None
returns-in-None c = let k = c.requires.naming in
    λ cs. names-unlisted _ _ _ _ _ (foreign-is _ _ k.relation) c.in-None.ensures
