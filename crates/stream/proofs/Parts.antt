-- Parts of lists: the first numbers of a list that may be shorter, and numbers written at its start.
-- Assumes nothing.
use Prim.Native.Nat.{ℕ, ◌≤◌, ◌<◌, min}
use mathlib.Core.Path.{◌≡◌, refl, sym, ◌∙◌}
use mathlib.Core.List.{List}
use native.Mathlib.Omega.{arith}
use lib.Dec.{leb}
use lib.ListN.{length, take, drop, drop_of_length-le}
use lib.Seq.{take_all}
use borrow.Author.Tests.{leb-true, leb-false}
use Rattle.bounded.proofs.Cases.{cases}

least-cases : (P : ℕ → Type 0) (n m : ℕ) → P n → (m ≤ n → P m) → P (min n m)
least-cases P n m f g =
    cases (leb n m)
    (λ t. let h : n ≤ m = leb-true n m t in let e : min n m ≡ n = omega arith in rw e f)
    (λ t. let h : m < n = leb-false n m t in let e : min n m ≡ m = omega arith in let k : m ≤ n = omega arith in rw e (g k))

module _ {A : Type 0} where
  pub take-least : (n : ℕ) (l : List A) → take (min n (length l)) l ≡ take n l
  take-least n l =
      least-cases (λ m. take m l ≡ take n l) n (length l) refl
      (λ h. take_all (length l) l (omega arith) ∙ sym (take_all n l h))

  pub drop-least : (n : ℕ) (l : List A) → drop (min n (length l)) l ≡ drop n l
  drop-least n l =
      least-cases (λ m. drop m l ≡ drop n l) n (length l) refl
      (λ h. let k : length l ≤ length l = omega arith in drop_of_length-le l k ∙ sym (drop_of_length-le l h))
