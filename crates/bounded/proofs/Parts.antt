-- A list made of parts that stand one after the other: what stands at a place of it, and a list cut into its parts and joined again. A part
-- begins at `start i` and is `size i` long.
-- Assumes nothing.
use mathlib.Core.Path.{◌≡◌, refl, sym, ap, ap₂, ◌∙◌}
use mathlib.Core.List.{List, [], ◌∷◌, ◌++◌}
use Prim.Native.Nat.{ℕ, zero, suc, ◌+◌, ◌≤◌, ◌<◌}
use native.Mathlib.Nat.{not-suc-le-zero, le_refl}
use native.Mathlib.Omega.{arith}
use lib.ListN.{length, take, drop, get_or, length-append, length-drop, get_or-append}
use lib.Seq.{take-add, take-suc, get_or-drop, get_or-append-add, get_or_at}
use Rattle.bounded.specs.Lists.{list_below, concat_below}
use Rattle.bounded.proofs.Cases.{split-last}
use Rattle.bounded.proofs.Lists.{list_length}

pub record Starts (start size : ℕ → ℕ) : Type 0 where
  pub first : start 0 ≡ 0
  pub next : (i : ℕ) → start (suc i) ≡ start i + size i

-- a part ends before a later one begins
pub starts-room : {start size : ℕ → ℕ} → Starts start size → (n i : ℕ) → i < n → start i + size i ≤ start n
starts-room s zero i h = absurd (not-suc-le-zero h)
starts-room s (suc n) i h =
    split-last h
    (λ l. let k = starts-room s n i l in omega (arith, s.next n))
    (λ e. rw e (omega (arith, s.next n)))

module _ {A : Type 0} where
  pub parts-length : {start size : ℕ → ℕ} → Starts start size → (n : ℕ) (g : ℕ → List A) → ((i : ℕ) → length (g i) ≡ size i) → length (concat_below n g) ≡ start n
  unfolding concat_below
  parts-length s zero g h = sym s.first
  parts-length s (suc n) g h =
      let k = parts-length s n g h in
      length-append (concat_below n g) (g n) ∙ omega (arith, s.next n, h n)

  -- what stands at a place
  pub parts_at : {start size : ℕ → ℕ} → Starts start size → (n : ℕ) (g : ℕ → List A) → ((i : ℕ) → length (g i) ≡ size i) → (i j : ℕ) (x : A) → i < n → j < size i
      → get_or (concat_below n g) (start i + j) x ≡ get_or (g i) j x
  unfolding concat_below
  parts_at s zero g h i j x l m = absurd (not-suc-le-zero l)
  parts_at {start} {size} s (suc n) g h i j x l m =
      let e = parts-length s n g h in
      split-last l
      (λ k. get_or-append (concat_below n g) (g n) x (start i + j) (omega (arith, starts-room s n i k)) ∙ parts_at s n g h i j x k m)
      (λ k. rw (k, ← e) (get_or-append-add (concat_below n g) (g n) j x))

  pub list_at : (n : ℕ) (f : ℕ → A) (i : ℕ) (x : A) → i < n → get_or (list_below n f) i x ≡ f i
  unfolding list_below
  list_at zero f i x h = absurd (not-suc-le-zero h)
  list_at (suc n) f i x h =
      let e = list_length n f in
      split-last h
      (λ l. get_or-append (list_below n f) (f n ∷ []) x i (omega arith) ∙ list_at n f i x l)
      (λ k. rw k (get_or_at (list_below n f) (f n) [] x n e))

  -- a list cut into parts and joined again is what it was
  pub parts_join : {start size : ℕ → ℕ} → Starts start size → (n : ℕ) (g : ℕ → List A) (xs : List A) → ((i : ℕ) → i < n → g i ≡ take (size i) (drop (start i) xs))
      → concat_below n g ≡ take (start n) xs
  unfolding concat_below
  parts_join s zero g xs h = rw s.first
  parts_join {start} {size} s (suc n) g xs h =
      ap₂ ◌++◌ (parts_join s n g xs (λ i l. h i (omega arith))) (h n (le_refl (suc n)))
      ∙ sym (ap (λ (k : ℕ). take k xs) (s.next n) ∙ take-add (start n) (size n) xs)

  pub list-join : (n at : ℕ) (f : ℕ → A) (xs : List A) (x : A) → at + n ≤ length xs → ((k : ℕ) → k < n → f k ≡ get_or xs (at + k) x) → list_below n f ≡ take n (drop at xs)
  unfolding list_below
  list-join zero at f xs x h e = refl
  list-join (suc n) at f xs x h e =
      ap₂ (λ (s : List A) (y : A). s ++ (y ∷ [])) (list-join n at f xs x (omega arith) (λ k l. e k (omega arith))) (e n (le_refl (suc n)) ∙ sym (get_or-drop at xs n x))
      ∙ sym (take-suc (drop at xs) n x (omega (arith, length-drop at xs)))
