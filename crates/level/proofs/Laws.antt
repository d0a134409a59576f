-- Dominance is a partial order on all labels with bottom at its foot, and what strictly dominates is higher.
-- Assumes nothing.
use mathlib.Core.Path.{◌≡◌, refl}
use mathlib.Core.Logic.{◌≢◌}
use mathlib.Core.Bool.{Bool, true, false, ◌&&◌}
use Prim.Native.Nat.{ℕ, ◌/◌, ◌%◌, ◌≤◌, ◌<◌, zero-le}
use native.Mathlib.Nat.{lt_of_not-le}
use native.Mathlib.Omega.{arith}
use lib.Bits.{bit_and, and_self, and_comm, and_zero_r, and_le_l}
use lib.Count.{ones-le}
use borrow.Author.Tests.{leb-true, eqb-true, le-leb, eq-eqb}
use Rattle.level.specs.Label.{rank_of, compartments_of, contains, dominates, bottom_label, height_of}
use Rattle.level.specs.Laws.{LabelLaws}
use Rattle.level.proofs.Sets.{contains-transitive, contains-ones}

-- what the test says
record Dominates (a b : ℕ) : Type 0 where
  rank : b / 256 ≤ a / 256
  set : bit_and (a % 256) (b % 256) ≡ b % 256

pub and-true : (x y : Bool) → (x && y) ≡ true → (x ≡ true) × (y ≡ true)
and-true true y p = (refl, p)
and-true false y p = (p, cc)

says : (a b : ℕ) → dominates a b ≡ true → Dominates a b
unfolding dominates rank_of compartments_of contains
says a b p = let h = and-true _ _ p in record { rank = leb-true _ _ h.0; set = eqb-true _ _ h.1 }

shown : (a b : ℕ) → Dominates a b → dominates a b ≡ true
unfolding dominates rank_of compartments_of contains
shown a b d = simp (le-leb _ _ d.rank, eq-eqb _ _ d.set)

reflexive : (a : ℕ) → dominates a a ≡ true
reflexive a = shown a a (record { rank = omega arith; set = and_self (a % 256) })

transitive : (a b c : ℕ) → dominates a b ≡ true → dominates b c ≡ true → dominates a c ≡ true
transitive a b c p q =
    let d = says a b p in
    let e = says b c q in
    shown a c (record { rank = omega arith; set = contains-transitive (a % 256) (b % 256) (c % 256) d.set e.set })

antisymmetric : (a b : ℕ) → dominates a b ≡ true → dominates b a ≡ true → a ≡ b
antisymmetric a b p q =
    let d = says a b p in
    let e = says b a q in
    omega (arith, and_comm (a % 256) (b % 256))

bottom : (a : ℕ) → dominates a bottom_label ≡ true
unfolding bottom_label
bottom a = shown a 0 (record { rank = zero-le; set = and_zero_r (a % 256) })

higher : (a b : ℕ) → dominates a b ≡ true → a ≢ b → height_of b < height_of a
unfolding height_of rank_of compartments_of
higher a b p n =
    let d = says a b p in
    let h = contains-ones (a % 256) (b % 256) d.set in
    lt_of_not-le λ l. n (omega (arith, h.1 (omega arith), and_le_l (a % 256) (b % 256)))

low : (a : ℕ) → a ≤ 4095 → height_of a < 24
unfolding height_of rank_of compartments_of
low a h = omega (arith, ones-le 8 (a % 256) (omega arith))

pub label-laws : LabelLaws
label-laws = record { reflexive = reflexive; transitive = transitive; antisymmetric = antisymmetric; bottom = bottom; higher = higher; low = low }
