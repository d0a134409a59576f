use Prim.Native.Nat.{◌+◌, ◌≤◌}
use mathlib.Core.Path.{sym, ◌∙◌}
use native.Mathlib.Omega.{arith}
use Rattle.bounded.proofs.All.{all_start, all_more, all-fails, all_end}
use Rattle.keys.proofs.Notes.{kept_self, kept_then, all-kept, noted-none}
use Rattle.keys.proofs.distinct.Goals as goal

pub loop-i-init : goal.loop-i-init
loop-i-init c = (all_start _, noted-none _ _, kept_self _)

pub returns-then-not-fresh : goal.returns-then-not-fresh
returns-then-not-fresh c = let l = c.loop-i in
    let F = c.fresh.ensures in (
      sym (all-fails _ _ _ F.0 c.if-not-fresh.true c.loop-i-test.true) ∙ all-kept _ _ l.invariant.2 _ _ c.requires.0,
      kept_then _ _ _ l.invariant.2 F.1,
    )

pub loop-i-preserved : goal.loop-i-preserved
loop-i-preserved c = let l = c.loop-i in
    let F = c.fresh.ensures in
    let h : c.args.from + (l.i + 1) ≤ 8192 = omega arith in
    (all-kept _ _ F.1 _ _ h ∙ all_more l.i _ l.invariant.0 F.0 c.if-not-fresh.false, F.2, kept_then _ _ _ l.invariant.2 F.1)

pub returns : goal.returns
returns c = let l = c.loop-i in (sym (all_end _ l.i _ l.invariant.0 l.auto.i-end c.loop-i-test.false) ∙ all-kept _ _ l.invariant.2 _ _ c.requires.0, l.invariant.2)
