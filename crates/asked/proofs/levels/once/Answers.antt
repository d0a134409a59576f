use mathlib.Core.Path.{◌≡◌, ap, ◌∙◌}
use Prim.Native.Nat.{ℕ, ◌/◌}
use native.Mathlib.Omega.{arith}
use lib.ListN.{length, get_or}
use Rattle.model.specs.Description.{distinct_below}
use Rattle.model.specs.Listed.{levels_once}
use Rattle.asked.proofs.Lists.{once-entries}
use Rattle.asked.proofs.levels.once.Goals as goal

pub returns : goal.returns
unfolding levels_once
returns c = let list = c.args.list.now in
    let f : ℕ → ℕ = λ i. get_or list i 0 in
    let e : length list / 1 ≡ length list = omega arith in
    c.once.ensures
    ∙ rw c.as_chunks.ensures.front (once-entries 1 _ list f (omega arith) (λ i. ap f (omega arith)) ∙ ap (λ (n : ℕ). distinct_below n f) e)
