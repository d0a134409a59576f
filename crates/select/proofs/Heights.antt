-- The levels that SELECT shows, laid out by height, then number: each stands there once, so there are at most 16.
-- Assumes nothing.
use Rattle.std.specs.Prelude.{if◌then◌else◌}
use Prim.Native.Nat.{ℕ, zero, suc, ◌+◌, ◌≤◌, ◌<◌}
use mathlib.Core.Path.{◌≡◌, refl, sym, ap, ◌∙◌, subst}
use mathlib.Core.Bool.{Bool, true, false}
use mathlib.Core.List.{List, [], ◌∷◌, ◌++◌, append_assoc, append-nil}
use native.Mathlib.Nat.{le_trans, le_refl, not-suc-le-zero}
use native.Mathlib.Numerals.{add-one}
use native.Mathlib.Omega.{arith}
use lib.Dec.{eqb, ltb}
use lib.ListN.{length, get_or, set, replicate, length-append, length-set}
use lib.Seq.{take-suc-set, get_or-take}
use borrow.Author.Tests.{lt-ltb, le-ltb, eq-eqb, ne_eqb}
use Rattle.bounded.specs.Bounded.{count_below}
use Rattle.bounded.specs.Lists.{concat_below}
use Rattle.bounded.proofs.Cases.{cases, order, at-end}
use Rattle.bounded.proofs.Count.{count-le}
use Rattle.bounded.proofs.Lists.{concat-more, concat-room}
use Rattle.model.specs.declared.Description.{Description}
use Rattle.model.specs.Description.{height_at}
use Rattle.model.specs.Select.{asked}
use Rattle.select.specs.declared.InOrder.{InOrder}
use Rattle.select.specs.Facts.{wanted, level_at, levels_at, shown_levels, held, Holds}

-- ---- as the loops have it

pub holds-none : (g : ℕ → List ℕ) → Holds (concat_below 0 g) (record { count = 0; levels = replicate 16 0 })
unfolding concat_below
holds-none g = record { count = refl; is = refl; long = refl }

pub holds_more : (xs : List ℕ) (v : InOrder) (l : ℕ) → Holds xs v → v.count < 16
    → Holds (xs ++ (l ∷ [])) (record { count = v.count + 1; levels = set v.levels v.count l })
holds_more xs v l h few = record {
  count = omega (arith, h.count, length-append xs (l ∷ []));
  is = rw add-one (take-suc-set v.levels v.count l (omega (arith, h.long)) ∙ ap (λ (ys : List ℕ). ys ++ (l ∷ [])) h.is);
  long = length-set v.levels v.count l ∙ h.long;
}

pub holds-held : {xs : List ℕ} {v : InOrder} → Holds xs v → Holds (held v) v
holds-held {xs} {v} h = record { count = h.count ∙ ap length (sym h.is); is = refl; long = h.long }

pub holds-next : (n : ℕ) (g : ℕ → List ℕ) (xs : List ℕ) {v w : InOrder} {ys : List ℕ} → Holds (xs ++ concat_below n g) v → ys ≡ g n → Holds (held v ++ ys) w → Holds (xs ++ concat_below (n + 1) g) w
holds-next n g xs {v} {w} {ys} h e k = subst (λ (zs : List ℕ). Holds zs w) q k
  where
    q : held v ++ ys ≡ xs ++ concat_below (n + 1) g
    q = rw (h.is, e, concat-more) (append_assoc xs (concat_below n g) (g n))

pub holds-start : (g : ℕ → List ℕ) {v : InOrder} (xs : List ℕ) → Holds xs v → Holds (xs ++ concat_below 0 g) v
unfolding concat_below
holds-start g xs h = rw append-nil h

pub holds-end : (n m : ℕ) (g : ℕ → List ℕ) (xs : List ℕ) {v : InOrder} → Holds (xs ++ concat_below m g) v → m ≤ n → n ≤ m → Holds (xs ++ concat_below n g) v
holds-end n m g xs {v} h k l = at-end (λ i. Holds (xs ++ concat_below i g) v) k l h

-- there is room for one level more, where there is room for all
pub holds-room : (n i l : ℕ) (g : ℕ → List ℕ) {v w : InOrder} → Holds (held v) v → Holds (held v ++ concat_below i g) w → i < n → l ∷ [] ≡ g i
    → v.count + length (concat_below n g) ≤ 16 → w.count < 16
holds-room n i l g {v} {w} h k small e room =
    omega (arith, h.count, k.count, length-append (held v) (concat_below i g), concat-room n i g small, ap length e)

pub holds_same : (n : ℕ) (g : ℕ → List ℕ) (xs : List ℕ) {v : InOrder} → Holds (xs ++ concat_below n g) v → [] ≡ g n → Holds (xs ++ concat_below (n + 1) g) v
holds_same n g xs {v} h e = holds-next n g xs h e (rw append-nil (holds-held h))

module _ (d : Description) (c : ℕ) (list : List ℕ) (h : ℕ) where
  pub level-yes : (l : ℕ) {b : Bool} → b ≡ wanted d c list h l → b ≡ true → l ∷ [] ≡ level_at d c list h l
  unfolding level_at
  level-yes l a t = let q : wanted d c list h l ≡ true = sym a ∙ t in rw q

  pub level-no : (l : ℕ) {b : Bool} → b ≡ wanted d c list h l → b ≡ false → [] ≡ level_at d c list h l
  unfolding level_at
  level-no l a t = let q : wanted d c list h l ≡ false = sym a ∙ t in rw q

-- ---- how many there are

below_next : (a h : ℕ) → (if ltb a h then 1 else 0) + (if eqb a h then 1 else 0) ≡ (if ltb a (suc h) then 1 else 0)
below_next a h =
    order a h
    (λ l. rw (lt-ltb a h l, ne_eqb a h (λ e. omega arith), lt-ltb a (suc h) (omega arith)))
    (λ e. rw (le-ltb a h (omega arith), eq-eqb a h e, lt-ltb a (suc h) (omega arith)))
    (λ l. rw (le-ltb a h (omega arith), ne_eqb a h (λ e. omega arith), le-ltb a (suc h) l))

module _ (f : ℕ → ℕ) (h : ℕ) where
  count_next : (n : ℕ) → count_below n (λ l. ltb (f l) h) + count_below n (λ l. eqb (f l) h) ≡ count_below n (λ l. ltb (f l) (suc h))
  unfolding count_below
  count_next zero = refl
  count_next (suc n) = let k = count_next n in omega (arith, below_next (f n) h)

module _ (d : Description) (c : ℕ) (list : List ℕ) where
  level-few : (h l : ℕ) → length (level_at d c list h l) ≤ (if eqb (height_at d l) h then 1 else 0)
  unfolding level_at wanted
  level-few h l =
      cases (eqb (height_at d l) h)
      (λ t. cases (asked c list l) (λ u. rw (t, u) (omega arith)) (λ u. rw (t, u) (omega arith)))
      (λ t. rw t (omega arith))

  levels-few : (h n : ℕ) → length (concat_below n (level_at d c list h)) ≤ count_below n (λ l. eqb (height_at d l) h)
  unfolding concat_below count_below
  levels-few h zero = le_refl 0
  levels-few h (suc n) =
      let k = levels-few h n in
      omega (arith, length-append (concat_below n (level_at d c list h)) (level_at d c list h n), level-few h n)

  below-few : (h : ℕ) → length (concat_below h (levels_at d c list)) ≤ count_below d.levels (λ l. ltb (height_at d l) h)
  unfolding concat_below levels_at
  below-few zero = omega arith
  below-few (suc h) =
      let k = below-few h in
      omega (arith, length-append (concat_below h (levels_at d c list)) (levels_at d c list h), levels-few h d.levels, count_next (height_at d) h d.levels)

  pub shown-few : length (shown_levels d c list) ≤ d.levels
  unfolding shown_levels
  shown-few = le_trans (below-few 24) (count-le d.levels (λ l. ltb (height_at d l) 24))

  pub levels-room : (h : ℕ) → h < 24 → length (concat_below h (levels_at d c list)) + length (levels_at d c list h) ≤ d.levels
  unfolding shown_levels
  levels-room h l = le_trans (concat-room 24 h (levels_at d c list) l) shown-few

-- ---- what they are

abbrev Each : (ℕ → Type 0) → List ℕ → Type 0
Each P xs = (i : ℕ) → i < length xs → P (get_or xs i 0)

each_append : (P : ℕ → Type 0) (xs ys : List ℕ) → Each P xs → Each P ys → Each P (xs ++ ys)
each_append P [] ys f g i h = g i h
each_append P (x ∷ xs) ys f g zero h = f 0 (omega arith)
each_append P (x ∷ xs) ys f g (suc i) h = each_append P xs ys (λ j l. f (suc j) (omega arith)) g i (omega arith)

each-concat : (P : ℕ → Type 0) (n : ℕ) (g : ℕ → List ℕ) → ((i : ℕ) → i < n → Each P (g i)) → Each P (concat_below n g)
unfolding concat_below
each-concat P zero g f i h = absurd (not-suc-le-zero h)
each-concat P (suc n) g f i h = each_append P (concat_below n g) (g n) (each-concat P n g (λ j k. f j (omega arith))) (f n (omega arith)) i h

module _ (d : Description) (c : ℕ) (list : List ℕ) where
  level-each : (h l : ℕ) → l < d.levels → Each (λ m. m < d.levels) (level_at d c list h l)
  unfolding level_at
  level-each h l small = cases (wanted d c list h l) (λ t. rw t (λ i k. go i k)) (λ t. rw t (λ i k. absurd (not-suc-le-zero k)))
    where
      go : Each (λ m. m < d.levels) (l ∷ [])
      go zero k = small
      go (suc i) k = absurd (omega arith)

  -- they are levels of the description
  pub shown-each : Each (λ m. m < d.levels) (shown_levels d c list)
  unfolding shown_levels levels_at
  shown-each =
      each-concat (λ m. m < d.levels) 24 (levels_at d c list)
      (λ h _. each-concat (λ m. m < d.levels) d.levels (level_at d c list h) (λ l k. level-each h l k))

  pub holds-each : {v : InOrder} → Holds (shown_levels d c list) v → (i : ℕ) → i < v.count → get_or v.levels i 0 < d.levels
  holds-each {v} h i k =
      subst (λ (l : ℕ). l < d.levels)
      (ap (λ (xs : List ℕ). get_or xs i 0) (sym h.is) ∙ get_or-take v.count v.levels i 0 k)
      (shown-each i (omega (arith, h.count)))
