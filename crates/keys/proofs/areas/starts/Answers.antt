use Prim.Native.Nat.{◌+◌, ◌<◌}
use mathlib.Core.Path.{◌≡◌, refl, ◌∙◌}
use native.Mathlib.Omega.{arith}
use lib.ListN.{length, replicate, length-set}
use lib.Seq.{get_or-set_other}
use Rattle.bounded.proofs.Sum.{sum-start, sum_more}
use Rattle.model.specs.Description.{size_of, start_of}
use Rattle.model.proofs.Sound.{sound-says}
use Rattle.describe.proofs.Sizes.{size-le}
use Rattle.keys.proofs.Sets.{each_more}
use Rattle.keys.proofs.Starts.{starts_none, noughts}
use Rattle.keys.proofs.areas.starts.Goals as goal

pub loop-r-init : goal.loop-r-init
loop-r-init c = (sum-start _, omega arith, refl, starts_none _ (replicate 9 0) refl refl, λ k h. noughts 9 k)

pub size-sum-requires : goal.size-sum-requires
size-sum-requires c = omega (arith, (sound-says _ c.requires).few-relations, c.from-r-end.ensures)

pub bounds-starts-r : goal.bounds-starts-r
bounds-starts-r c = omega (arith, (sound-says _ c.requires).few-relations, c.from-r-end.ensures, c.loop-r.invariant.2)

pub loop-r-preserved : goal.loop-r-preserved
unfolding start_of
loop-r-preserved c = let l = c.loop-r in
    let e = sum_more l.r (size_of c.args.d) l.invariant.0 c.size-sum.ensures.0 in
    let h : l.r + 1 < length l.starts = omega (arith, (sound-says _ c.requires).few-relations, c.from-r-end.ensures, l.invariant.2) in (
      e,
      omega (arith, c.size-sum.ensures.0, size-le _ c.requires l.r),
      simp length-set l.invariant.2,
      each_more (λ k x. x ≡ start_of c.args.d k) (l.r + 1) l.starts _ h e l.invariant.3,
      λ k g. get_or-set_other l.starts (l.r + 1) k _ 0 (omega arith) ∙ l.invariant.4 k (omega arith),
    )
