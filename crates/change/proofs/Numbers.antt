-- Nine numbers filled in one after another, by column.
-- Assumes nothing.
use Prim.Native.Nat.{ℕ, ◌+◌, ◌≤◌, ◌<◌}
use mathlib.Core.Path.{◌≡◌, ◌∙◌}
use mathlib.Core.List.{List}
use native.Mathlib.Omega.{arith}
use lib.ListN.{length, get_or, set, length-set}
use lib.Seq.{get_or-set_same, get_or-set_other}
use Rattle.bounded.proofs.Cases.{order}
use Rattle.change.specs.Facts.{Filled}

pub filled_none : (f : ℕ → ℕ) (xs : List ℕ) → length xs ≡ 9 → Filled 0 f xs
filled_none f xs e = record { long = e; right = λ k h g. absurd (omega arith) }

-- the number of column k, behind those before it
pub filled_more : (n k m : ℕ) (f : ℕ → ℕ) (xs : List ℕ) (x : ℕ) → n + 1 ≡ k → m ≡ k → k ≤ 8 → x ≡ f k → Filled n f xs → Filled m f (set xs k x)
filled_more n k m f xs x u v h e F = record { long = simp length-set F.long; right = right }
  where
    right : (j : ℕ) → 0 < j → j ≤ m → get_or (set xs k x) j 0 ≡ f j
    right j p q =
        order j k
        (λ l. get_or-set_other xs k j x 0 (λ z. omega arith) ∙ F.right j p (omega arith))
        (λ z. rw z (get_or-set_same xs k x 0 (omega (arith, F.long)) ∙ e))
        (λ l. absurd (omega arith))

pub filled-end : (n i : ℕ) (f : ℕ → ℕ) (xs : List ℕ) → Filled i f xs → n ≤ i → Filled n f xs
filled-end n i f xs F h = record { long = F.long; right = λ k p q. F.right k p (omega arith) }
