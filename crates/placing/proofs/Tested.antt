-- What the tests of a record of kind 3 say, as the code asks them.
-- Assumes nothing.
use Prim.Native.Nat.{ℕ, ◌+◌, ◌*◌, ◌≤◌, ◌<◌}
use mathlib.Core.Path.{◌≡◌, sym, ap}
use mathlib.Core.Bool.{Bool, true, false, ◌&&◌}
use mathlib.Core.List.{List}
use mathlib.Core.Logic.{◌≢◌}
use native.Mathlib.Numerals.{add-one}
use lib.Dec.{eqb, ltb, leb}
use lib.ListN.{length}
use borrow.Author.Tests.{eq-eqb, ne_eqb, le-leb, lt-leb, leb-true}
use Rattle.bounded.proofs.All.{all_start, all_more, all-fails, all_end, all-at}
use Rattle.bounded.proofs.Reflection.{is_true, is_false}
use Rattle.model.specs.declared.Description.{Description}
use Rattle.model.specs.Description.{sound, is_relation, is_level, total_of}
use Rattle.model.specs.Buffers.{Buffers, fitting}
use Rattle.model.proofs.Sound.{relation-r}
use Rattle.records.specs.Bytes.{pair, quad}
use Rattle.placing.specs.Placing.{row_read, small_classes}

-- ---- the description and the buffers

module _ (d : Description) (b : Buffers) {s : Bool} (e : s ≡ sound d) where
  pub fits-unsound : s ≡ false → false ≡ (sound d && fitting d b)
  fits-unsound t = rw (← e, t)

  module _ (t : s ≡ true) {n : ℕ} (f : n ≡ total_of d) where
    pub fits-values : length b.values ≢ n → false ≡ (sound d && fitting d b)
    unfolding fitting
    fits-values m = rw (← e, t, ← f, ne_eqb (length b.values) n m)

    pub fits-classes : length b.values ≡ n → eqb (length b.classes) n ≡ (sound d && fitting d b)
    unfolding fitting
    fits-classes m = rw (← e, t, ← f, eq-eqb (length b.values) n m)

-- ---- the relation and the level

module _ (d : Description) (r l : ℕ) where
  pub there-not : ((0 < r) × (r ≤ d.relations) → ⊥) → false ≡ (is_relation d r && is_level d l)
  there-not n = rw (is_false (relation-r d r) n)

  pub there-level : 0 < r → r ≤ d.relations → ltb l d.levels ≡ (is_relation d r && is_level d l)
  unfolding is_level
  there-level h g = rw (is_true (relation-r d r) (h, g))

-- ---- the classes

module _ (bytes : List ℕ) where
  abbrev is_small : ℕ → Bool
  is_small k = leb (pair bytes (12 + 6 * k)) 255

  pub small-start : small_classes 0 bytes ≡ true
  unfolding small_classes
  small-start = all_start is_small

  pub small-more : (k : ℕ) → small_classes k bytes ≡ true → {x : ℕ} → x ≡ pair bytes (12 + 6 * k) → x ≤ 255 → small_classes (k + 1) bytes ≡ true
  unfolding small_classes
  small-more k h {x} e m = all_more k is_small h (ap (λ (y : ℕ). leb y 255) e) (le-leb x 255 m)

  pub small-fails : (n k : ℕ) {x : ℕ} → x ≡ pair bytes (12 + 6 * k) → 255 < x → k < n → false ≡ small_classes n bytes
  unfolding small_classes
  small-fails n k {x} e m h = sym (all-fails n k is_small (ap (λ (y : ℕ). leb y 255) e) (lt-leb x 255 m) h)

  pub small-end : (n k : ℕ) → small_classes k bytes ≡ true → k ≤ n → n ≤ k → true ≡ small_classes n bytes
  unfolding small_classes
  small-end n k h g f = sym (all_end n k is_small h g f)

  pub small_at : (n : ℕ) → small_classes n bytes ≡ true → (k : ℕ) → k < n → {x : ℕ} → x ≡ pair bytes (12 + 6 * k) → x ≤ 255
  unfolding small_classes
  small_at n h k g e = rw e (leb-true (pair bytes (12 + 6 * k)) 255 (all-at n is_small h k g))

  -- ---- the row

  pub value-next : (k : ℕ) {x : ℕ} → x ≡ quad bytes (8 + 6 * k) → x ≡ (row_read bytes (k + 1)).value
  unfolding row_read
  value-next k e = rw add-one e

  pub class-next : (k : ℕ) {x : ℕ} → x ≡ pair bytes (12 + 6 * k) → x ≡ (row_read bytes (k + 1)).class
  unfolding row_read
  class-next k e = rw add-one e
