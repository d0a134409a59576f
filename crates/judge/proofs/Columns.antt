-- Laws of a cell: one for each way through the code.
-- Assumes nothing.
use mathlib.Core.Path.{◌≡◌, refl, sym, ap, ◌∙◌}
use mathlib.Core.Bool.{Bool, true, false, ◌&&◌, ◌||◌}
use mathlib.Core.Logic.{◌≢◌}
use mathlib.Core.List.{List}
use Prim.Native.Nat.{ℕ, suc, ◌+◌, ◌*◌, ◌≤◌, ◌<◌}
use native.Mathlib.Nat.{add-zero}
use native.Mathlib.Omega.{arith}
use lib.Dec.{eqb, ltb}
use lib.ListN.{get_or}
use lib.Bits.{bit_and}
use borrow.Author.Tests.{le-leb, ltb-true, ltb-false, eq-eqb, ne_eqb}
use Rattle.bounded.specs.Bounded.{first_below}
use Rattle.bounded.proofs.Cases.{cases, clash, and_left, and_right, and-false-right}
use Rattle.bounded.proofs.First.{first_holds, first-before}
use Rattle.model.specs.declared.Description.{Description}
use Rattle.model.specs.Description as Described
use Rattle.model.specs.Description.{over, column_count, is_column, high_of, low_of, in_range, sound}
use Rattle.model.specs.Tables.{Cell, Row, Tables, cell, nocell, same, place, at, lends}
use Rattle.model.specs.Judge.{fits, cell_right}
use Rattle.model.specs.Buffers.{rows_in}
use Rattle.model.proofs.Sound.{sound-says, over-levels}
use Rattle.keys.specs.declared.areas.Area.{Area}
use Rattle.keys.specs.Facts.{has_key, has_bit, Ranges, Orders}
use Rattle.judge.specs.Facts.{Ready, InRow, Fitting, Between}
use Rattle.keys.proofs.Sets.{bit-and}
use Rattle.judge.proofs.Places.{place_found, at-found}

-- ---- classes

pub between-of : (d : Description) (bs us : List ℕ) (l c : ℕ) → Orders d bs us → l < 16 → c < 16 → Between d l c (bit_and (get_or bs l 0) (get_or us c 0))
between-of d bs us l c G h k = record { right = λ e. bit-and (get_or bs l 0) (get_or us c 0) e ∙ rw (G.below l e h, G.above e c k) }

fits-within : (d : Description) → sound d ≡ true → (r l k e c : ℕ) → fits d r l k e c ≡ true → c < d.levels
unfolding fits
fits-within d s r l k e c t =
    (over-levels d (sound-says d s) l c (and_left (over d l c) (over d c e) (and_right (in_range d r k c) (over d l c && over d c e) t))).1

pub fits_out : (d : Description) → sound d ≡ true → (r l k e c : ℕ) → d.levels ≤ c → fits d r l k e c ≡ false
fits_out d s r l k e c h = cases (fits d r l k e c) (λ t. absurd (omega (arith, fits-within d s r l k e c t))) (λ t. t)

-- the classes in range of column k + 1, and those that a row may have besides
pub fitting : (d : Description) (vs cs ks ws : List ℕ) (a : Area) (l c w k q : ℕ) → Ready d vs cs ks a → Ranges d 81 ws → Between d l c w → k < a.cols → q ≡ 9 * a.relation + 1
    → Fitting d a.relation l (suc k) c (bit_and (get_or ws (q + k) 0) w)
unfolding fits in_range is_column Described.between high_of low_of
fitting d vs cs ks ws a l c w k q R G B h e =
    let p : q + k ≡ 9 * a.relation + suc k = omega arith in
    let g : suc k ≤ column_count d a.relation = rw (← R.cols) h in
    record {
      right = λ b. bit-and (get_or ws (q + k) 0) w b
          ∙ rw (p, (G.right (9 * a.relation + suc k) (omega (arith, R.named, R.wide))).right b, B.right b, le-leb 1 (suc k) (omega arith), le-leb (suc k) (column_count d a.relation) g);
    }

-- ---- a cell
module _ (d : Description) (T : Tables) (r l : ℕ) (R : Row) (k v c key kc : ℕ) (x : R k ≡ cell v c) (y : R 1 ≡ cell key kc) where
  cell_as : cell_right d T r l R k ≡ same (cell v c) nocell || (fits d r l k kc c && same (cell v c) (lends (at d T r c key) (cell key kc) k c))
  unfolding cell_right
  cell_as = rw (x, y)

  some-cell : c ≢ 255 → same (cell v c) nocell ≡ false
  unfolding same
  some-cell n = and-false-right (eqb v 0) (eqb c 255) (ne_eqb c 255 n)

  pub cell-null : sound d ≡ true → c ≡ 255 → eqb v 0 ≡ cell_right d T r l R k
  unfolding same
  cell-null s e =
      let f = fits_out d s r l k kc c (omega (arith, (sound-says d s).few-levels)) in
      sym (cell_as ∙ rw f (cases (eqb v 0) (λ t. rw (t, eq-eqb c 255 e)) (λ t. rw t)))

  pub cell-unfit : c ≢ 255 → fits d r l k kc c ≡ false → false ≡ cell_right d T r l R k
  cell-unfit n f = sym (cell_as ∙ rw (some-cell n, f))

  cell-lent : {b : Bool} → c ≢ 255 → fits d r l k kc c ≡ true → b ≡ same (cell v c) (lends (at d T r c key) (cell key kc) k c) → b ≡ cell_right d T r l R k
  cell-lent n f e = e ∙ sym (cell_as ∙ rw (some-cell n, f))

  cell-own : c ≢ 255 → fits d r l k kc c ≡ true → at d T r c key ≡ R → true ≡ cell_right d T r l R k
  unfolding lends same
  cell-own n f e = cell-lent n f (rw (e, y, x, eq-eqb key key refl, eq-eqb kc kc refl, eq-eqb c c refl, eq-eqb v v refl, eq-eqb c c refl))

-- ---- rows by key
module _ (d : Description) (vs cs ks : List ℕ) (a : Area) (R : Ready d vs cs ks a) where
  abbrev T : Tables
  T = rows_in d vs cs

  -- a row with a key is the row of its key
  pub own-place : (l i v : ℕ) → l < d.levels → i < a.rows → (T a.relation l i 1).value ≡ v → v ≢ 0 → place a.rows (T a.relation l) v ≡ i
  unfolding has_key
  own-place l i v h g e z =
      let from = a.start + l * a.rows in
      let p = has_key ks from v in
      let t : p i ≡ true = eq-eqb _ v (R.key l i h g ∙ e) in
      place_found d vs cs ks a R l v h
      ∙ cases (ltb (first_below a.rows p) a.rows)
      (λ u. (R.once l v h z).one (first_below a.rows p) i (ltb-true _ _ u) g (first_holds a.rows p (ltb-true _ _ u)) t)
      (λ u. clash t (first-before a.rows p i (omega (arith, ltb-false (first_below a.rows p) a.rows u))))

  pub own_row : (l i v : ℕ) → l < d.levels → i < a.rows → (T a.relation l i 1).value ≡ v → v ≢ 0 → at d T a.relation l v ≡ T a.relation l i
  own_row l i v h g e z =
      let q = own-place l i v h g e z in
      let b : place a.rows (T a.relation l) v < a.rows = rw q g in
      at-found d vs cs ks a R l v b ∙ ap (T a.relation l) q

  -- ---- column k + 1 of a row with a key
  module _ (l i row key kc k : ℕ) (I : InRow d vs cs a l i row key kc) (f : k < a.cols) where
    pub cell-is : T a.relation l i (suc k) ≡ cell (get_or vs (row + k) 0) (get_or cs (row + k) 0)
    cell-is = rw I.stands (R.cells l i k I.level I.below f)

    pub key-cell : T a.relation l i 1 ≡ cell key kc
    key-cell = rw (I.key, I.class, I.stands) (simp add-zero at (R.cells l i 0 I.level I.below R.keyed))

    pub at_null : get_or cs (row + k) 0 ≡ 255 → eqb (get_or vs (row + k) 0) 0 ≡ cell_right d T a.relation l (T a.relation l i) (suc k)
    at_null e = cell-null d T a.relation l (T a.relation l i) (suc k) _ _ key kc cell-is key-cell R.sound-is e

    module _ (w : ℕ) (F : Fitting d a.relation l (suc k) kc w) {b : Bool} (q : b ≡ has_bit w (get_or cs (row + k) 0)) where
      pub at-unfit : get_or cs (row + k) 0 ≢ 255 → b ≡ false → false ≡ cell_right d T a.relation l (T a.relation l i) (suc k)
      at-unfit n t = cell-unfit d T a.relation l (T a.relation l i) (suc k) _ _ key kc cell-is key-cell n (sym (F.right _) ∙ sym q ∙ t)

      pub at_level : b ≡ true → get_or cs (row + k) 0 < d.levels
      at_level t = fits-within d R.sound-is a.relation l (suc k) kc (get_or cs (row + k) 0) (sym (F.right _) ∙ sym q ∙ t)

      pub at_own : get_or cs (row + k) 0 ≢ 255 → b ≡ true → get_or cs (row + k) 0 ≡ l → true ≡ cell_right d T a.relation l (T a.relation l i) (suc k)
      at_own n t e =
          cell-own d T a.relation l (T a.relation l i) (suc k) _ _ key kc cell-is key-cell n (sym (F.right _) ∙ sym q ∙ t)
          (rw e (own_row l i key I.level I.below (ap (λ (x : Cell). x.value) key-cell) I.real))

      pub at-lent : {x : Bool} → get_or cs (row + k) 0 ≢ 255 → b ≡ true
          → x ≡ same (cell (get_or vs (row + k) 0) (get_or cs (row + k) 0)) (lends (at d T a.relation (get_or cs (row + k) 0) key) (cell key kc) (suc k) (get_or cs (row + k) 0))
          → x ≡ cell_right d T a.relation l (T a.relation l i) (suc k)
      at-lent n t e = cell-lent d T a.relation l (T a.relation l i) (suc k) _ _ key kc cell-is key-cell n (sym (F.right _) ∙ sym q ∙ t) e

  -- ---- a cell of a row, whatever its key
  module _ (l i row k : ℕ) (h : l < d.levels) (g : i < a.rows) (s : row ≡ a.start + (l * a.rows + i) * a.cols) (f : k < a.cols) where
    pub stood-cell : T a.relation l i (suc k) ≡ cell (get_or vs (row + k) 0) (get_or cs (row + k) 0)
    stood-cell = rw s (R.cells l i k h g f)

    pub stood-full : get_or vs (row + k) 0 ≢ 0 → false ≡ same (T a.relation l i (suc k)) nocell
    unfolding same
    stood-full n = rw (stood-cell, ne_eqb (get_or vs (row + k) 0) 0 n)

    pub stood-null : get_or vs (row + k) 0 ≡ 0 → eqb (get_or cs (row + k) 0) 255 ≡ same (T a.relation l i (suc k)) nocell
    unfolding same
    stood-null n = rw (stood-cell, eq-eqb (get_or vs (row + k) 0) 0 n)
