use Prim.Native.Nat.{ℕ, ◌+◌, ◌*◌, ◌≤◌}
use mathlib.Core.Path.{sym, ◌∙◌}
use native.Mathlib.Omega.{arith}
use native.Mathlib.Nat.{mul-le-mul_right}
use Rattle.bounded.specs.Bounded.{all_below}
use Rattle.bounded.proofs.All.{all_start, all_more, all-fails}
use Rattle.keys.specs.Facts.{first_of}
use Rattle.keys.proofs.Notes.{kept_self, kept_then, all-kept}
use Rattle.keys.proofs.levels.Goals as goal

pub loop-l-init : goal.loop-l-init
loop-l-init c = (all_start _, kept_self _)

pub returns-then-not-distinct : goal.returns-then-not-distinct
returns-then-not-distinct c = let l = c.loop-l in
    let F = c.distinct.ensures in
    let h : c.args.area.start + l.l * c.args.area.rows + c.args.area.rows ≤ 8192 = omega (arith, mul-le-mul_right c.args.area.rows c.loop-l-test.true, c.requires.0) in
    let e = F.0 ∙ all-kept _ _ l.invariant.1 (c.args.area.start + l.l * c.args.area.rows) c.args.area.rows h in
    (sym (all-fails _ _ (λ (m : ℕ). all_below c.args.area.rows (first_of c.args.keys.now (c.args.area.start + m * c.args.area.rows))) e c.if-not-distinct.true c.loop-l-test.true), kept_then _ _ _ l.invariant.1 F.1)

pub loop-l-preserved : goal.loop-l-preserved
loop-l-preserved c = let l = c.loop-l in
    let F = c.distinct.ensures in
    let h : c.args.area.start + l.l * c.args.area.rows + c.args.area.rows ≤ 8192 = omega (arith, mul-le-mul_right c.args.area.rows c.loop-l-test.true, c.requires.0) in
    let e = F.0 ∙ all-kept _ _ l.invariant.1 (c.args.area.start + l.l * c.args.area.rows) c.args.area.rows h in
    (all_more l.l (λ (m : ℕ). all_below c.args.area.rows (first_of c.args.keys.now (c.args.area.start + m * c.args.area.rows))) l.invariant.0 e c.if-not-distinct.false, kept_then _ _ _ l.invariant.1 F.1)
