-- A list's elements by their places: std's tests on lists as the bounded ones, and a list cut into entries of n elements.
-- Assumes nothing.
use Rattle.std.specs.Prelude.{if◌then◌else◌}
use mathlib.Core.Path.{◌≡◌, refl, sym, ap, ap₂, ◌∙◌}
use mathlib.Core.Bool.{Bool, not, ◌&&◌, ◌||◌, and-true, or-false, and_assoc, or_assoc}
use mathlib.Core.List.{List, [], ◌∷◌}
use Prim.Native.Nat.{ℕ, zero, suc, ◌+◌, ◌*◌, ◌<◌}
use native.Mathlib.Omega.{arith}
use lib.Dec.{eqb}
use lib.ListN.{length, get_or, take, drop}
use Rattle.std.specs.Simd.{first_chunks}
use Rattle.std.specs.List.{list_all, list_any, filter, position, position_or_len}
use Rattle.std.proofs.lemmas.List.{get_or-take, get_or-drop, get_or_default, length-take-le}
use Rattle.std.proofs.lemmas.List.Sums.{position_or_len_is}
use Rattle.model.specs.Description.{distinct_below}
use Rattle.asked.specs.Facts.{first_of}
use Rattle.bounded.specs.Bounded.{all_below, any_below, count_below, first_below, some_below}
use Rattle.bounded.proofs.All.{all-cong}
use Rattle.bounded.proofs.Cases.{cases}
use Rattle.bounded.proofs.First.{first-le, first_holds, first-before, first_cong}

-- ---- all, any, the first, and how many

all-front : (n : ℕ) (p : ℕ → Bool) → all_below (suc n) p ≡ (p 0 && all_below n (λ i. p (suc i)))
unfolding all_below
all-front zero p = sym (and-true (p 0))
all-front (suc n) p = ap (λ (b : Bool). b && p (suc n)) (all-front n p) ∙ and_assoc (p 0) _ _

any-front : (n : ℕ) (p : ℕ → Bool) → any_below (suc n) p ≡ (p 0 || any_below n (λ i. p (suc i)))
unfolding any_below
any-front zero p = sym (or-false (p 0))
any-front (suc n) p = ap (λ (b : Bool). b || p (suc n)) (any-front n p) ∙ or_assoc (p 0) _ _

count-front : (n : ℕ) (p : ℕ → Bool) → count_below (suc n) p ≡ (if p 0 then 1 else 0) + count_below n (λ i. p (suc i))
unfolding count_below
count-front zero p = omega arith
count-front (suc n) p = let e = count-front n p in omega arith

module _ {A : Type 0} (p : A → Bool) (d : A) where
  pub all-listed : (xs : List A) → list_all p xs ≡ all_below (length xs) (λ i. p (get_or xs i d))
  unfolding all_below
  all-listed [] = refl
  all-listed (x ∷ xs) = ap (λ (b : Bool). p x && b) (all-listed xs) ∙ sym (all-front (length xs) (λ i. p (get_or (x ∷ xs) i d)))

  pub any-listed : (xs : List A) → list_any p xs ≡ any_below (length xs) (λ i. p (get_or xs i d))
  unfolding any_below
  any-listed [] = refl
  any-listed (x ∷ xs) = ap (λ (b : Bool). p x || b) (any-listed xs) ∙ sym (any-front (length xs) (λ i. p (get_or (x ∷ xs) i d)))

  pub first-listed : (xs : List A) → position p xs ≡ some_below (length xs) (first_below (length xs) (λ i. p (get_or xs i d)))
  unfolding some_below
  first-listed xs =
      let q : ℕ → Bool = λ i. p (get_or xs i d) in
      let e : position_or_len p xs ≡ first_below (length xs) q =
      position_or_len_is p xs _ d (first-le (length xs) q) (first-before (length xs) q) (first_holds (length xs) q) in
      rw e

  pub count-listed : (xs : List A) → length (filter p xs) ≡ count_below (length xs) (λ i. p (get_or xs i d))
  unfolding count_below
  count-listed [] = refl
  count-listed (x ∷ xs) =
      let e = count-front (length xs) (λ i. p (get_or (x ∷ xs) i d)) in
      let h = count-listed xs in
      cases (p x)
      (λ t. rw t (let f : count_below (suc (length xs)) (λ i. p (get_or (x ∷ xs) i d)) ≡ 1 + count_below (length xs) (λ i. p (get_or xs i d)) = rw t at e in omega arith))
      (λ t. rw t (let f : count_below (suc (length xs)) (λ i. p (get_or (x ∷ xs) i d)) ≡ 0 + count_below (length xs) (λ i. p (get_or xs i d)) = rw t at e in omega arith))

-- ---- entries of n elements

length-entries : (n k : ℕ) (xs : List ℕ) → length (first_chunks n k xs) ≡ k
length-entries n zero xs = refl
length-entries n (suc k) xs = ap suc (length-entries n k (drop n xs))

pub entry-at : (n k : ℕ) (xs : List ℕ) (i j : ℕ) → i < k → j < n → {m : ℕ} → m ≡ n * i + j → get_or (get_or (first_chunks n k xs) i []) j 0 ≡ get_or xs m 0
entry-at n zero xs i j h l e = absurd (omega arith)
entry-at n (suc k) xs zero j h l e = get_or-take n xs j 0 l ∙ ap (λ (m : ℕ). get_or xs m 0) (omega arith)
entry-at n (suc k) xs (suc i) j h l e =
    entry-at n k (drop n xs) i j (omega arith) l refl ∙ get_or-drop n xs (n * i + j) 0 ∙ ap (λ (m : ℕ). get_or xs m 0) (omega arith)

-- what a list's entry begins with, as a loop over the entries before i reads it
pub before-is : (es : List (List ℕ)) (i k : ℕ) {x : List ℕ} → x ≡ get_or (take i es) k x → i < length es → k < length (take i es) → get_or x 0 0 ≡ first_of es k
unfolding first_of
before-is es i k {x} e h l =
    let m : k < i = omega (arith, length-take-le i es (omega arith)) in
    ap (λ (y : List ℕ). get_or y 0 0) (e ∙ get_or-take i es k x m ∙ get_or_default es k x [] (omega arith))

-- the entries begin with different numbers, where f says what each begins with
pub once-entries : (n k : ℕ) (xs : List ℕ) (f : ℕ → ℕ) → 0 < n → ((i : ℕ) → get_or xs (n * i) 0 ≡ f i) → distinct_below (length (first_chunks n k xs)) (first_of (first_chunks n k xs)) ≡ distinct_below k f
unfolding distinct_below first_of
once-entries n k xs f h e =
    let same : (i : ℕ) → i < k → get_or (get_or (first_chunks n k xs) i []) 0 0 ≡ f i = λ i l. entry-at n k xs i 0 l h refl ∙ ap (λ (m : ℕ). get_or xs m 0) (omega arith) ∙ e i in
    rw length-entries (all-cong k _ _ (λ i l. all-cong i _ _ (λ j m. ap₂ (λ (a b : ℕ). not (eqb a b)) (same i l) (same j (omega arith)))))

-- a test of each entry, which is a test of its place
module _ (n k : ℕ) (xs : List ℕ) (p : List ℕ → Bool) (q : ℕ → Bool) (same : (i : ℕ) → i < k → p (get_or (first_chunks n k xs) i []) ≡ q i) where
  pub all-entries : list_all p (first_chunks n k xs) ≡ all_below k q
  all-entries = all-listed p [] (first_chunks n k xs) ∙ rw length-entries (all-cong k _ q same)

  pub first-entry : position p (first_chunks n k xs) ≡ some_below k (first_below k q)
  first-entry = first-listed p [] (first_chunks n k xs) ∙ rw length-entries (ap (some_below k) (first_cong k _ q same))
