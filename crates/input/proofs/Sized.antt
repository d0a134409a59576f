-- The record at the front beside the one that its header's length cuts off (`size_of`): they are the same, or neither is whole.
-- Assumes nothing.
use mathlib.Core.Path.{◌≡◌, ap}
use mathlib.Core.Bool.{false}
use mathlib.Core.List.{List}
use Prim.Native.Nat.{ℕ, ◌+◌, ◌<◌, ◌≤◌}
use native.Mathlib.Omega.{arith}
use lib.Dec.{ltb, leb}
use lib.ListN.{length, take, length-take}
use lib.Seq.{get_or-take}
use borrow.Author.Tests.{ltb-true, lt-leb}
use Rattle.bounded.proofs.Cases.{cases, and-false-right}
use Rattle.records.specs.Bytes.{pair}
use Rattle.records.specs.Record.{size_of, whole}
use Rattle.input.specs.Front.{wanted, front}

-- a body that is too long by its header is not whole, however much of it is taken
over : (bytes : List ℕ) (n : ℕ) → 4 ≤ n → 1024 < pair bytes 0 → whole (take n bytes) ≡ false
unfolding whole pair
over bytes n h k =
    let p : pair (take n bytes) 0 ≡ pair bytes 0 = rw (get_or-take n bytes 0 0 (omega arith), get_or-take n bytes 1 0 (omega arith)) in
    let l : leb (pair (take n bytes) 0) 1024 ≡ false = lt-leb (pair (take n bytes) 0) 1024 (omega arith) in
    and-false-right (leb 4 (length (take n bytes))) _ (rw l)

-- a record without a whole header is not whole
under : (bytes : List ℕ) (n : ℕ) → length bytes < 4 → whole (take n bytes) ≡ false
unfolding whole
under bytes n h = let l : leb 4 (length (take n bytes)) ≡ false = lt-leb 4 (length (take n bytes)) (omega (arith, length-take n bytes)) in rw l

-- the record is cut off by its header's length, or neither of the two is whole
pub front-cases : {P : Type 0} (bytes : List ℕ) → (wanted bytes ≡ size_of bytes → P) → (whole (front bytes) ≡ false → whole (take (size_of bytes) bytes) ≡ false → P) → P
unfolding front wanted size_of
front-cases bytes same neither =
    cases (ltb (length bytes) 4)
    (λ a. let s = ltb-true (length bytes) 4 a in neither (under bytes (wanted bytes) s) (under bytes (size_of bytes) s))
    (λ a. cases (ltb 1024 (pair bytes 0))
    (λ b. let s = ltb-true 1024 (pair bytes 0) b in neither (rw (a, b) (over bytes 4 (omega arith) s)) (over bytes (4 + pair bytes 0) (omega arith) s))
    (λ b. same (rw (a, b))))

-- whoever answers alike for all records that aren't whole answers alike for both
pub front-as : {A : Type 0} (f : List ℕ → A) → ((a b : List ℕ) → whole a ≡ false → whole b ≡ false → f a ≡ f b) → (bytes : List ℕ)
    → f (front bytes) ≡ f (take (size_of bytes) bytes)
unfolding front
front-as f alike bytes = front-cases bytes (λ e. ap (λ n. f (take n bytes)) e) (alike (front bytes) (take (size_of bytes) bytes))
