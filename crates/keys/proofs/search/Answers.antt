use Rattle.std.specs.Prelude.{if◌then◌else◌}
use Prim.Native.Nat.{ℕ, ◌+◌}
use mathlib.Core.Path.{◌≡◌, ◌∙◌}
use native.Mathlib.Omega.{arith}
use borrow.Author.Tests.{eq-eqb, ne_eqb}
use Rattle.bounded.proofs.Cases.{at-end}
use Rattle.keys.specs.Facts.{has_key}
use Rattle.keys.proofs.Sought.{Sought, sought-none, sought-le, sought-more, sought-zero, sought-some}
use Rattle.keys.proofs.search.Goals as goal
use Rattle.keys.proofs.search.Goals.{then-keys-from, else-keys-from}

pub loop-i-init : goal.loop-i-init
loop-i-init c = (omega arith, sought-none _)

pub loop-i-preserved : goal.loop-i-preserved
unfolding has_key
loop-i-preserved c = let l = c.loop-i in
    let p = has_key c.args.keys.now c.args.from c.args.key in
    let x : c.if-keys-from.found ≡ (if p l.i then l.i + 1 else 0) = elim c.if-keys-from.branch [
      | then-keys-from w ↦ w.found-is ∙ rw (eq-eqb _ _ w.if-keys-from.true)
      | else-keys-from w ↦ w.found-is ∙ rw (ne_eqb _ _ w.if-keys-from.false)
    ] in
    let s = sought-more l.i c.args.rows p l.found c.loop-i-test.true c.requires.once.one l.invariant.1 x in
    (sought-le _ _ _ s, s)

pub returns-then-found-eq0 : goal.returns-then-found-eq0
returns-then-found-eq0 c = sought-zero _ _ _ (at-end (λ (n : ℕ). Sought n (has_key c.args.keys.now c.args.from c.args.key) c.loop-i.found) c.loop-i.auto.i-end c.loop-i-test.false c.loop-i.invariant.1) c.if-found-eq0.true

pub returns : goal.returns
returns c = sought-some _ _ _ (at-end (λ (n : ℕ). Sought n (has_key c.args.keys.now c.args.from c.args.key) c.loop-i.found) c.loop-i.auto.i-end c.loop-i-test.false c.loop-i.invariant.1) c.if-found-eq0.false
