use Prim.Native.Nat.{◌%◌}
use mathlib.Core.Path.{sym}
use lib.ListN.{get_or}
use native.Mathlib.Omega.{arith}
use borrow.Author.Tests.{eq-eqb}
use Rattle.bounded.proofs.Found.{below-some}
use Rattle.keys.specs.Facts.{has_key}
use Rattle.keys.proofs.Notes.{slot-room, once-first}
use Rattle.keys.proofs.find.Goals as goal

pub offset_bounds-keys-place : goal.offset_bounds-keys-place
offset_bounds-keys-place c = omega (arith, c.slot-place.ensures, (slot-room c.args.from c.args.key).1)

pub bounds-keys-place : goal.bounds-keys-place
bounds-keys-place c = omega (arith, c.slot-place.ensures, (slot-room c.args.from c.args.key).1)

pub returns-then-keys-from : goal.returns-then-keys-from
unfolding has_key
returns-then-keys-from c = let i = get_or c.args.keys.now c.slot-place.result 0 % 64 in
    let e = once-first c.args.keys.now c.args.from c.args.rows c.args.key i c.requires.once c.if-i-rows.true (eq-eqb _ _ c.if-keys-from.true) in
    rw (← e) (sym (below-some c.args.rows i c.if-i-rows.true))
