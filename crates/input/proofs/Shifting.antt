-- Bytes that move to the front of their buffer.
-- Assumes nothing.
use mathlib.Core.Path.{◌≡◌, sym, ap, ◌∙◌}
use mathlib.Core.List.{List, [], ◌∷◌, ◌++◌}
use Prim.Native.Nat.{ℕ, zero, suc, ◌+◌, ◌-◌, min}
use native.Mathlib.Numerals.{unary_clauses}
use native.Mathlib.Omega.{arith}
use lib.ListN.{length, take, drop, length-take, length-drop}
use lib.Seq.{take-nil, slice}
use Rattle.std.proofs.lemmas.List.{take_min, drop_min}
use Rattle.std.specs.List.{copy_within}
use Rattle.input.specs.Buffer.{Shifted}

-- a part of a list, taken first or dropped first
pub slice-take : (from to : ℕ) (b : List ℕ) → slice from to b ≡ take (to - from) (drop from b)
slice-take zero to b = simp unary_clauses
slice-take (suc from) zero b = let z : 0 ≡ 0 - suc from = omega arith in ap (λ k. take k (drop (suc from) b)) z
slice-take (suc from) (suc to) [] = sym (take-nil (suc to - suc from))
slice-take (suc from) (suc to) (x ∷ b) = simp unary_clauses (slice-take from to b)

-- both places within the buffer: what stands between them is the same
pub shifted : (from to : ℕ) (b : List ℕ) {f t : ℕ} {now : List ℕ} → t ≡ min to (length b) → f ≡ min from t → now ≡ copy_within b f t 0 → Shifted from to b now (t - f)
shifted from to b {f} {t} t-is f-is e =
    let l : length (take to b) ≡ t = length-take to b ∙ sym t-is in
    let s : slice f t b ≡ slice from to b =
    ap (λ n. drop f (take n b)) t-is ∙ (ap (drop f) (take_min to b) ∙ (ap (λ n. drop n (take to b)) (f-is ∙ ap (min from) (sym l)) ∙ drop_min from (take to b))) in
    let z : 0 + (t - f) ≡ t - f = omega arith in
    record {
      is = e ∙ rw z (ap (λ k. k ++ drop (t - f) b) (sym (slice-take f t b) ∙ s));
      there-is = omega (arith, length-drop from (take to b));
    }
