-- Laws of a list's pairs.
-- Assumes nothing.
use mathlib.Core.Path.{◌≡◌, refl, ap, ap₂}
use mathlib.Core.Bool.{Bool}
use mathlib.Core.List.{List, []}
use Prim.Native.Nat.{ℕ, ◌/◌, ◌<◌}
use native.Mathlib.Omega.{arith}
use lib.Dec.{eqb}
use lib.ListN.{length, get_or}
use Rattle.std.specs.List.{list_all, position}
use Rattle.std.specs.Simd.{first_chunks}
use Rattle.model.specs.Description.{distinct_below}
use Rattle.model.specs.Listed.{pairs, column_at, second_at, each, columns_once}
use Rattle.asked.specs.Facts.{Found, first_of}
use Rattle.asked.proofs.Lists.{entry-at, all-entries, first-entry, once-entries}

module _ (xs : List ℕ) where
  pub column-of : (i : ℕ) → i < length xs / 2 → get_or (get_or (first_chunks 2 (length xs / 2) xs) i []) 0 0 ≡ column_at xs i
  unfolding column_at
  column-of i h = entry-at 2 (length xs / 2) xs i 0 h (omega arith) (omega arith)

  pub second-of : (i : ℕ) → i < length xs / 2 → get_or (get_or (first_chunks 2 (length xs / 2) xs) i []) 1 0 ≡ second_at xs i
  unfolding second_at
  second-of i h = entry-at 2 (length xs / 2) xs i 1 h (omega arith) (omega arith)

  pub each-pair : (p : ℕ → ℕ → Bool) → list_all (λ x. p (get_or x 0 0) (get_or x 1 0)) (first_chunks 2 (length xs / 2) xs) ≡ each p xs
  unfolding each pairs
  each-pair p = all-entries 2 (length xs / 2) xs _ _ (λ i h. ap₂ p (column-of i h) (second-of i h))

  pub first-pair : (k : ℕ) → Found xs k (position (λ x. eqb (get_or x 0 0) k) (first_chunks 2 (length xs / 2) xs))
  unfolding pairs
  first-pair k = first-entry 2 (length xs / 2) xs _ _ (λ i h. ap (λ (c : ℕ). eqb c k) (column-of i h))

  pub pairs-once : distinct_below (length (first_chunks 2 (length xs / 2) xs)) (first_of (first_chunks 2 (length xs / 2) xs)) ≡ columns_once xs
  unfolding columns_once pairs column_at
  pairs-once = once-entries 2 (length xs / 2) xs _ (omega arith) (λ i. refl)
