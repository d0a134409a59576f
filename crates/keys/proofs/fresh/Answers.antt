use Prim.Native.Nat.{◌+◌, ◌<◌}
use lib.ListN.{get_or}
use native.Mathlib.Omega.{arith}
use borrow.Author.Tests.{eq-eqb, ne_eqb}
use Rattle.keys.specs.Facts.{first_of}
use Rattle.keys.proofs.Sought.{sought-first}
use Rattle.keys.proofs.Once.{once-of}
use Rattle.keys.proofs.Notes.{slot-room, kept_self, noted_more, fresh-new}
use Rattle.keys.proofs.fresh.Goals as goal

pub returns-then-key-eq0 : goal.returns-then-key-eq0
unfolding first_of
returns-then-key-eq0 c = (rw (eq-eqb _ _ c.if-key-eq0.true), kept_self _, noted_more _ _ _ c.requires.firsts.1 (λ z. absurd (z c.if-key-eq0.true)))

pub offset_bounds-keys-place : goal.offset_bounds-keys-place
offset_bounds-keys-place c = omega (arith, c.slot-place.ensures, (slot-room c.args.from (get_or c.args.keys.now (c.args.from + c.args.i) 0)).1)

pub bounds-keys-place : goal.bounds-keys-place
bounds-keys-place c = omega (arith, c.slot-place.ensures, (slot-room c.args.from (get_or c.args.keys.now (c.args.from + c.args.i) 0)).1)

pub offset_bounds-keys-place-then-keys-place-eq0 : goal.offset_bounds-keys-place-then-keys-place-eq0
offset_bounds-keys-place-then-keys-place-eq0 c = omega (arith, c.slot-place.ensures, (slot-room c.args.from (get_or c.args.keys.now (c.args.from + c.args.i) 0)).1)

pub bounds-keys-place-then-keys-place-eq0 : goal.bounds-keys-place-then-keys-place-eq0
bounds-keys-place-then-keys-place-eq0 c = omega (arith, c.slot-place.ensures, (slot-room c.args.from (get_or c.args.keys.now (c.args.from + c.args.i) 0)).1)

pub returns-then-keys-place-eq0 : goal.returns-then-keys-place-eq0
unfolding first_of
returns-then-keys-place-eq0 c = let e = c.slot-place.ensures in
    let h : c.args.from + c.args.i < 8192 = omega arith in
    rw e (fresh-new c.args.keys.now c.args.from c.args.i (64 + c.args.i) h c.told-keys c.if-key-eq0.false (rw e at c.if-keys-place-eq0.true) (λ z. absurd (omega arith)) c.requires.firsts.1)

pub search-requires : goal.search-requires
search-requires c = record { rows_in_bounds = (omega arith, omega arith); once = once-of _ _ _ _ c.requires.firsts.0 c.if-key-eq0.false }

pub returns : goal.returns
unfolding first_of
returns c = (
  rw (ne_eqb _ _ c.if-key-eq0.false) (sought-first _ _ c.search.ensures c.is_none.ensures),
  kept_self _,
  noted_more _ _ _ c.requires.firsts.1 (λ _. rw c.slot-place.ensures at c.if-keys-place-eq0.false),
)
