-- Keys that stand once.
-- Assumes nothing.
use mathlib.Core.Path.{◌≡◌}
use mathlib.Core.Bool.{true}
use mathlib.Core.Logic.{◌≢◌}
use mathlib.Core.List.{List}
use Prim.Native.Nat.{ℕ, ◌+◌, ◌<◌}
use native.Mathlib.Omega.{arith}
use lib.Dec.{eqb}
use lib.ListN.{get_or}
use borrow.Author.Tests.{ne_eqb, eqb-true}
use Rattle.bounded.specs.Bounded.{first_below, all_below}
use Rattle.bounded.proofs.Cases.{clash, order}
use Rattle.bounded.proofs.First.{first-before}
use Rattle.bounded.proofs.All.{all-at}
use Rattle.keys.specs.Facts.{has_key, Once, first_of}

earlier : (ks : List ℕ) (from n v a b : ℕ) → all_below n (first_of ks from) ≡ true → v ≢ 0 → a < b → b < n → has_key ks from v a ≡ true → has_key ks from v b ≡ true → ⊥
unfolding first_of has_key
earlier ks from n v a b all z h g pa pb =
    let e : get_or ks (from + b) 0 ≡ v = eqb-true _ v pb in
    let q : eqb (first_below b (has_key ks from v)) b ≡ true = rw (e, ne_eqb v 0 z) at (all-at n (first_of ks from) all b g) in
    clash pa (first-before b (has_key ks from v) a (omega (arith, eqb-true (first_below b (has_key ks from v)) b q)))

pub once-of : (ks : List ℕ) (from n v : ℕ) → all_below n (first_of ks from) ≡ true → v ≢ 0 → Once ks from n v
once-of ks from n v all z =
    record {
      one = λ a b ha hb pa pb. order a b (λ l. absurd (earlier ks from n v a b all z l hb pa pb)) (λ e. e) (λ l. absurd (earlier ks from n v b a all z l ha pb pa));
    }
