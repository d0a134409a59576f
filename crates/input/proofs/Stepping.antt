-- Stepping over what is held in a buffer is stepping over the input: what is held, followed by what is still to be read, is what is left of the
-- input; moving and reading keep it, and the record at the front, once it is ready, is the record at the front of all that is left.
-- Assumes nothing.
use mathlib.Core.Path.{◌≡◌, refl, sym, ap, ◌∙◌}
use mathlib.Core.Bool.{true}
use mathlib.Core.List.{List, [], ◌∷◌, ◌++◌}
use Prim.Native.Nat.{ℕ, zero, suc, ◌+◌, ◌≤◌}
use native.Mathlib.Omega.{arith}
use lib.Dec.{ltb, leb}
use lib.ListN.{length, take, drop, length-append, length-take, take-append-drop, get_or-append}
use lib.Seq.{slice, take_at, take-append-le, drop-append-le, take-append-add, drop-drop, length-take-le}
use borrow.Author.Tests.{leb-true, ltb-false, le-ltb}
use Rattle.bounded.specs.Lists.{write_at}
use Rattle.bounded.proofs.Cases.{cases}
use Rattle.records.specs.Bytes.{pair}
use Rattle.input.specs.Front.{wanted, front, behind}
use Rattle.input.specs.Buffer.{Shifted}

-- ---- the record at the front

pub wanted-least : (bytes : List ℕ) → 4 ≤ wanted bytes
unfolding wanted
wanted-least bytes =
    cases (ltb (length bytes) 4)
    (λ a. rw a (omega arith))
    (λ a. cases (ltb 1024 (pair bytes 0)) (λ b. rw (a, b) (omega arith)) (λ b. rw (a, b) (omega arith)))

pub wanted-most : (bytes : List ℕ) → wanted bytes ≤ 1028
unfolding wanted
wanted-most bytes =
    cases (ltb (length bytes) 4)
    (λ a. rw a (omega arith))
    (λ a. cases (ltb 1024 (pair bytes 0)) (λ b. rw (a, b) (omega arith)) (λ b. rw (a, b) (omega (arith, ltb-false 1024 (pair bytes 0) b))))

-- the record and what stands behind it are all the bytes
pub front-behind : (bytes : List ℕ) → front bytes ++ behind bytes ≡ bytes
unfolding front behind
front-behind bytes = take-append-drop (wanted bytes) bytes

pub front-within : (bytes : List ℕ) → length (front bytes) ≤ length bytes
unfolding front
front-within bytes = omega (arith, length-take (wanted bytes) bytes)

-- a record that is ready stays as it is, whatever is read behind it
module _ (bytes more : List ℕ) (ready : leb (wanted bytes) (length bytes) ≡ true) where
  there : wanted bytes ≤ length bytes
  there = leb-true _ _ ready

  pair-later : pair (bytes ++ more) 0 ≡ pair bytes 0
  unfolding pair
  pair-later =
      let k = wanted-least bytes in
      let l = there in
      rw (get_or-append bytes more 0 0 (omega arith), get_or-append bytes more 0 1 (omega arith))

  pub wanted-later : wanted (bytes ++ more) ≡ wanted bytes
  unfolding wanted
  wanted-later =
      let k = wanted-least bytes in
      let l = there in
      rw (le-ltb (length (bytes ++ more)) 4 (omega (arith, length-append bytes more)), le-ltb (length bytes) 4 (omega arith), pair-later)

  pub front-later : front (bytes ++ more) ≡ front bytes
  unfolding front
  front-later = rw wanted-later (take-append-le (wanted bytes) bytes more there)

  pub behind-later : behind (bytes ++ more) ≡ behind bytes ++ more
  unfolding behind
  behind-later = rw wanted-later (drop-append-le (wanted bytes) bytes more there)

-- ---- the buffer

-- the bytes that were moved are those that were held
pub shift-holds : {from to there : ℕ} {before after : List ℕ} → Shifted from to before after there → slice 0 there after ≡ slice from to before
shift-holds {from} {to} {there} {before} s = rw s.is (take_at (slice from to before) (drop there before) there (sym s.there-is))

-- a read that puts bytes behind those that are held
pub read-holds : (from to : ℕ) (new buffer : List ℕ) → from ≤ to → to ≤ length buffer → slice from (to + length new) (write_at to new buffer) ≡ slice from to buffer ++ new
unfolding write_at
read-holds from to new buffer h k =
    let e : length (take to buffer) ≡ to = length-take-le to buffer k in
    let t : take (to + length new) (take to buffer ++ (new ++ drop (to + length new) buffer)) ≡ take to buffer ++ new =
    ap (λ n. take (n + length new) (take to buffer ++ (new ++ drop (to + length new) buffer))) (sym e)
    ∙ (take-append-add (take to buffer) (new ++ drop (to + length new) buffer) (length new) ∙ rw (take_at new (drop (to + length new) buffer) (length new) refl)) in
    rw t (drop-append-le from (take to buffer) new (omega arith))

-- as many bytes dropped as were taken
drop-taken : (n : ℕ) (bytes : List ℕ) → drop (length (take n bytes)) bytes ≡ drop n bytes
drop-taken zero bytes = refl
drop-taken (suc n) [] = refl
drop-taken (suc n) (x ∷ bytes) = drop-taken n bytes

-- a step over the record at the front
pub step-holds : (from to : ℕ) (buffer : List ℕ) → slice (from + length (front (slice from to buffer))) to buffer ≡ behind (slice from to buffer)
unfolding front behind
step-holds from to buffer =
    let held = slice from to buffer in
    sym (drop-drop (length (take (wanted held) held)) from (take to buffer)) ∙ drop-taken (wanted held) held
