-- Sets of bits: `bit_and a b ≡ b` says that a contains b. Each law goes by the binary digits.
-- Assumes nothing.
use mathlib.Core.Path.{◌≡◌, sym, ap}
use Prim.Native.Nat.{ℕ, ◌+◌, ◌/◌, ◌%◌, ◌^◌, ◌≤◌, zero-le}
use native.Mathlib.Nat.{add_comm}
use native.Mathlib.Omega.{arith}
use lib.Arith.{bin_ind}
use lib.Pow.{shr-shr}
use lib.Bits.{bit_and, and_step, and_zero_r, and_le_l, and_shr}
use lib.Count.{ones, ones_step}

pub contains-transitive : (a b c : ℕ) → bit_and a b ≡ b → bit_and b c ≡ c → bit_and a c ≡ c
contains-transitive =
    bin_ind (λ (a : ℕ). (b c : ℕ) → bit_and a b ≡ b → bit_and b c ≡ c → bit_and a c ≡ c)
    (λ b c p q. omega (arith, and_le_l b c))
    (λ a ih b c p q.
    let h = ih (b / 2) (c / 2) (omega (arith, and_step a b)) (omega (arith, and_step b c)) in
    omega (arith, and_step a b, and_step b c, and_step a c))

-- what contains b has as many bits or more, and where it has no more it is no greater
pub contains-ones : (a b : ℕ) → bit_and a b ≡ b → (ones b ≤ ones a) × (ones a ≤ ones b → a ≤ b)
contains-ones =
    bin_ind (λ (a : ℕ). (b : ℕ) → bit_and a b ≡ b → (ones b ≤ ones a) × (ones a ≤ ones b → a ≤ b))
    (λ b p. (omega (arith, none-of-zero b p), λ h. zero-le))
    (λ a ih b p.
    let h = ih (b / 2) (omega (arith, and_step a b)) in (
      omega (arith, h.0, and_step a b, ones_step a, ones_step b),
      λ l. omega (arith, h.0, h.1 (omega (arith, h.0, and_step a b, ones_step a, ones_step b)), and_step a b, ones_step a, ones_step b),
    ))
  where
    none-of-zero : (b : ℕ) → 0 ≡ b → ones b ≤ ones 0
    none-of-zero b p = rw (← p) (omega arith)

-- For the reader of `contains`: bit by bit, each compartment of b is one of a.
pub contains-bits : (a b : ℕ) → bit_and a b ≡ b → (i : ℕ) → b / 2 ^ i % 2 ≤ a / 2 ^ i % 2
contains-bits a b p i = omega (arith, and_shr a b i, and_step (a / 2 ^ i) (b / 2 ^ i), ap (λ (x : ℕ). x / 2 ^ i) p)

next_bit : (a i : ℕ) → a / 2 ^ (i + 1) ≡ a / 2 / 2 ^ i
next_bit a i = rw (add_comm i 1) (sym (shr-shr a 1 i))

pub bits-contains : (b a : ℕ) → ((i : ℕ) → b / 2 ^ i % 2 ≤ a / 2 ^ i % 2) → bit_and a b ≡ b
bits-contains =
    bin_ind (λ (b : ℕ). (a : ℕ) → ((i : ℕ) → b / 2 ^ i % 2 ≤ a / 2 ^ i % 2) → bit_and a b ≡ b)
    (λ a h. and_zero_r a)
    (λ b ih a h. omega (arith, and_step a b, h 0, ih (a / 2) (λ i. rw (← next_bit b i, ← next_bit a i) (h (i + 1)))))
