use mathlib.Core.Path.{sym, ◌∙◌}
use native.Mathlib.Omega.{arith}
use Rattle.bounded.proofs.Any.{any-start, any-more}
use Rattle.cells.proofs.Counts.{relation-few, foreign-is, refers-is}
use Rattle.delete.proofs.Emptying.{refers-other, row-refers, refers-here, refers-none, reference-inside}
use Rattle.delete.proofs.Rows.refers.Goals as goal

-- The invariant: no row that was passed refers to a chosen one.

pub offset_bounds-description-referrer : goal.offset_bounds-description-referrer
offset_bounds-description-referrer c = omega (arith, relation-few _ c.requires.naming.sound-is _ c.requires.naming.relation)

pub bounds-description-referrer : goal.bounds-description-referrer
bounds-description-referrer c = omega (arith, relation-few _ c.requires.naming.sound-is _ c.requires.naming.relation)

pub returns-then-description-referrer : goal.returns-then-description-referrer
returns-then-description-referrer c = refers-other _ _ _ _ _ _ (λ e. c.if-description-referrer.true (refers-is _ _ c.requires.naming.relation ∙ e))

pub loop-row-init : goal.loop-row-init
loop-row-init c = any-start _

pub value_at-key-requires : goal.value_at-key-requires
value_at-key-requires c = let k = c.requires.naming in
    let p = c.lay-place.ensures in
    let n = rw (p.described, p.of_relation) at c.lay-place.result.laid.rows in record {
      sized = rw p.described k.long;
      cell_inside = rw (p.described, p.of_relation, foreign-is _ _ k.relation)
          (reference-inside _ _ _ _ _ k c.requires.relation_nonzero (sym (refers-is _ _ k.relation) ∙ c.if-description-referrer.false) c.loop-row.row (omega (arith, n, c.loop-row-test.true)));
    }

pub returns-then-names : goal.returns-then-names
returns-then-names c = let k = c.requires.naming in
    let p = c.lay-place.ensures in
    let n = rw (p.described, p.of_relation) at c.lay-place.result.laid.rows in
    let v = rw (p.described, p.of_relation) at c.value_at-key.ensures in
    refers-here _ _ _ _ _ _ c.loop-row.row
    (row-refers _ _ _ _ _ _ c.loop-row.row (sym (refers-is _ _ k.relation) ∙ c.if-description-referrer.false) (foreign-is _ _ k.relation) v c.names.ensures)
    c.if-names.true (omega (arith, n, c.loop-row-test.true))

pub loop-row-preserved : goal.loop-row-preserved
loop-row-preserved c = let k = c.requires.naming in
    let p = c.lay-place.ensures in
    let v = rw (p.described, p.of_relation) at c.value_at-key.ensures in
    any-more c.loop-row.row _ c.loop-row.invariant
    (row-refers _ _ _ _ _ _ c.loop-row.row (sym (refers-is _ _ k.relation) ∙ c.if-description-referrer.false) (foreign-is _ _ k.relation) v c.names.ensures)
    c.if-names.false

pub returns : goal.returns
returns c = let p = c.lay-place.ensures in
    let n = rw (p.described, p.of_relation) at c.lay-place.result.laid.rows in
    refers-none _ _ _ _ _ _ c.loop-row.row c.loop-row.invariant (omega (arith, n)) (omega (arith, n, c.loop-row-test.false))
