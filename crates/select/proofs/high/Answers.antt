use Prim.Native.Nat.{◌+◌}
use mathlib.Core.Path.{sym, subst}
use mathlib.Core.List.{◌++◌}
use Rattle.bounded.specs.Lists.{concat_below}
use Rattle.select.specs.declared.InOrder.{InOrder}
use Rattle.select.specs.Facts.{level_at, levels_at, held, Holds}
use Rattle.select.proofs.Heights.{holds-held, holds-start, holds-next, holds_same, holds-end, holds-room, level-yes, level-no}
use Rattle.select.proofs.high.Goals as goal
use Rattle.select.proofs.high.Goals.{then-wanted, else-wanted}

-- The invariant: behind the levels from before stand those of this height up to the one that is next.

pub loop-level-init : goal.loop-level-init
loop-level-init c = holds-start _ _ c.requires.holds

pub add-found-requires : goal.add-found-requires
unfolding levels_at
add-found-requires c = let l = c.loop-level in
    let e = level-yes _ _ _ _ _ c.wanted.ensures c.if-wanted.true in
    record { holds = holds-held l.invariant; count_bound = holds-room _ _ _ _ c.requires.holds l.invariant c.loop-level-test.true e c.requires.levels_bound.1 }

pub loop-level-preserved : goal.loop-level-preserved
loop-level-preserved c = let l = c.loop-level in
    let g = level_at c.args.d c.args.subject c.args.list.now c.args.height in
    elim c.if-wanted.branch [
      | then-wanted w ↦ subst (λ (v : InOrder). Holds (held c.args.before ++ concat_below (l.level + 1) g) v) (sym w.found-is)
          (holds-next l.level g (held c.args.before) l.invariant (level-yes _ _ _ _ _ c.wanted.ensures w.if-wanted.true) w.add-found.ensures)
      | else-wanted w ↦ subst (λ (v : InOrder). Holds (held c.args.before ++ concat_below (l.level + 1) g) v) (sym w.found-is)
          (holds_same l.level g (held c.args.before) l.invariant (level-no _ _ _ _ _ c.wanted.ensures w.if-wanted.false))
    ]

pub returns : goal.returns
unfolding levels_at
returns c = holds-end _ _ (level_at c.args.d c.args.subject c.args.list.now c.args.height) (held c.args.before) c.loop-level.invariant c.loop-level.auto.level-end c.loop-level-test.false
