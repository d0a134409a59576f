use Prim.Native.Nat.{◌+◌}
use mathlib.Core.Path.{◌≡◌, refl, ◌∙◌}
use native.Mathlib.Omega.{arith}
use lib.ListN.{length-take, length-drop}
use Rattle.std.specs.Prelude.{Some}
use Rattle.bounded.proofs.Lists.{write-none, pieces-start, pieces_end}
use Rattle.records.specs.Bytes.{pair}
use Rattle.records.specs.Statements.{numbers_of}
use Rattle.records.proofs.Extents.{end-behind, entry-within}
use Rattle.records.proofs.Written.{filled, entries-length, entry-more, numbers-each}
use Rattle.records.proofs.statement.fill.Goals as goal

-- The invariant: the entries passed are written. A list that ends in the record has at most 512 numbers.

pub returns-in_default : goal.returns-in_default
unfolding numbers_of
returns-in_default c = filled (rw c.in_default.is) refl (write-none 0 _)

pub loop-i-init : goal.loop-i-init
loop-i-init c = pieces-start _ _

pub slice_bounds-put-count : goal.slice_bounds-put-count
slice_bounds-put-count c = let w = entry-within c.args.bytes.now c.in-Some.entry c.args.at c.loop-i.i (omega (arith, c.pair-n.ensures)) c.requires.0 (rw c.in-Some.is at c.requires.1.0) in
    rw c.numbers-numbers.ensures.0 (omega (arith, w.room))

pub slice_bounds-put-start : goal.slice_bounds-put-start
slice_bounds-put-start c = let w = entry-within c.args.bytes.now c.in-Some.entry c.args.at c.loop-i.i (omega (arith, c.pair-n.ensures)) c.requires.0 (rw c.in-Some.is at c.requires.1.0) in
    rw c.numbers-numbers.ensures.0 (omega (arith, w.room))

pub overflow_add-at : goal.overflow_add-at
overflow_add-at c = omega (arith, c.requires.1.0, end-behind c.args.bytes.now c.args.entry c.args.at)

pub overflow_add-at-in-loop-i : goal.overflow_add-at-in-loop-i
overflow_add-at-in-loop-i c = let w = entry-within c.args.bytes.now c.in-Some.entry c.args.at c.loop-i.i (omega (arith, c.pair-n.ensures)) c.requires.0 (rw c.in-Some.is at c.requires.1.0) in
    rw c.width-width.ensures.0 (omega (arith, w.begins))

pub put-requires : goal.put-requires
put-requires c = let w = entry-within c.args.bytes.now c.in-Some.entry c.args.at c.loop-i.i (omega (arith, c.pair-n.ensures)) c.requires.0 (rw c.in-Some.is at c.requires.1.0) in
    rw (c.numbers-numbers.ensures.0, c.width-width.ensures.0) (omega (arith, w.begins), simp (length-take, length-drop) (omega (arith, w.room)))

pub loop-i-preserved : goal.loop-i-preserved
loop-i-preserved c = let w = entry-within c.args.bytes.now c.in-Some.entry c.args.at c.loop-i.i (omega (arith, c.pair-n.ensures)) c.requires.0 (rw c.in-Some.is at c.requires.1.0) in
    let l = c.loop-i in
    entry-more c.args.bytes.now c.in-Some.entry (c.args.at + 2) l.i _ _ c.numbers-numbers.ensures.0 c.width-width.ensures.0 l.auto.list (omega (arith, w.room)) l.invariant c.put.ensures

pub returns : goal.returns
returns c = let l = c.loop-i in
    let h : numbers_of c.args.bytes.now c.args.entry c.args.at ≡ numbers_of c.args.bytes.now (Some c.in-Some.entry) c.args.at = rw c.in-Some.is in
    filled (h ∙ numbers-each c.args.bytes.now c.in-Some.entry c.args.at)
    (entries-length c.args.bytes.now c.in-Some.entry (c.args.at + 2) (pair c.args.bytes.now c.args.at) ∙ rw (c.numbers-numbers.ensures.0, c.pair-n.ensures))
    (rw (← c.pair-n.ensures) (pieces_end _ _ _ _ l.invariant l.auto.i-end c.loop-i-test.false))
