-- Laws of a reference and of a row: one for each way through the code.
-- Assumes nothing.
use Rattle.std.specs.Prelude.{Some, None}
use mathlib.Core.Path.{◌≡◌, refl, sym, ap, ◌∙◌}
use mathlib.Core.Bool.{Bool, true, false}
use mathlib.Core.Logic.{◌≢◌}
use mathlib.Core.List.{List}
use Prim.Native.Nat.{ℕ, suc, ◌+◌, ◌*◌, ◌≤◌, ◌<◌}
use native.Mathlib.Omega.{arith}
use lib.Dec.{eqb, ltb}
use lib.ListN.{get_or}
use borrow.Author.Tests.{le-ltb, ltb-true, ltb-false, eq-eqb, ne_eqb, eqb-true, eqb-false}
use Rattle.bounded.specs.Bounded.{all_below}
use Rattle.bounded.proofs.Cases.{cases}
use Rattle.bounded.proofs.All.{all-fails}
use Rattle.model.specs.declared.Description.{Description}
use Rattle.model.specs.Description as Described
use Rattle.model.specs.Description.{foreign_of, is_column, is_level}
use Rattle.model.specs.Tables.{Cell, Tables, cell, nocell, norow, same, used, empty_row, place, at}
use Rattle.model.specs.Buffers.{inside, rows_in}
use Rattle.model.specs.Judge.{cell_right, reference_right, row_right}
use Rattle.model.proofs.Border.{rows-outside}
use Rattle.model.proofs.Sound.{sound-says}
use Rattle.keys.specs.declared.areas.Area.{Area}
use Rattle.judge.specs.Facts.{names_right, right_row, Ready, InRow, Refers}
use Rattle.judge.proofs.Places.{key-is, at-found, at_none, key-class, key-value}
use Rattle.judge.proofs.Columns.{fits_out, cell-null, cell-unfit, own-place, key-cell, stood-cell}

module _ (d : Description) (vs cs ks : List ℕ) (a : Area) (R : Ready d vs cs ks a) where
  abbrev T : Tables
  T = rows_in d vs cs

  -- ---- a reference
  outside : (l i k : ℕ) → d.levels ≤ l → T a.relation l i k ≡ nocell
  unfolding inside is_level
  outside l i k h = rows-outside d vs cs a.relation l i k (cases (is_column d a.relation k) (λ t. rw (t, le-ltb l d.levels h)) (λ t. rw t))

  module _ (l v c : ℕ) (h : l < d.levels) (z : v ≢ 0) where
    none_out : d.levels ≤ c → at d T a.relation c v ≡ norow
    none_out g =
        cases (ltb (place a.rows (T a.relation c) v) a.rows)
        (λ t. let b = ltb-true _ _ t in absurd (z (sym (key-is d vs cs ks a R c v b) ∙ ap (λ (x : Cell). x.value) (outside c (place a.rows (T a.relation c) v) 1 g))))
        (λ t. at_none d vs cs ks a R c v (ltb-false _ _ t))

    pub names-out : d.levels ≤ c → false ≡ names_right d T a.relation l (cell v c)
    unfolding names_right same
    names-out g =
        cases (eqb (at d T a.relation l v 1).value v)
        (λ t. rw (ne_eqb v 0 z, t, none_out g, eqb-true (at d T a.relation l v 1).value v t, ne_eqb 0 v (λ e. z (sym e))))
        (λ t. rw (ne_eqb v 0 z, t))

    pub names-none : a.rows ≤ place a.rows (T a.relation l) v → false ≡ names_right d T a.relation l (cell v c)
    unfolding names_right
    names-none b = rw (ne_eqb v 0 z, at_none d vs cs ks a R l v b, ne_eqb 0 v (λ x. z (sym x)))

    named-row : {i : ℕ} → (m : ℕ) → i ≡ place a.rows (T a.relation m) v → i < a.rows → at d T a.relation m v 1 ≡ cell v (T a.relation m i 1).class
    named-row {i} m e g =
        let b : place a.rows (T a.relation m) v < a.rows = omega arith in
        let k = key-is d vs cs ks a R m v b in
        rw (at-found d vs cs ks a R m v b, e) (ap (λ (x : ℕ). cell x (T a.relation m (place a.rows (T a.relation m) v) 1).class) k)

    pub names-own : {i : ℕ} → i ≡ place a.rows (T a.relation l) v → i < a.rows → c ≡ l → true ≡ names_right d T a.relation l (cell v c)
    unfolding names_right same
    names-own {i} e g q = rw (ne_eqb v 0 z, q, named-row l e g, eq-eqb v v refl, eq-eqb (T a.relation l i 1).class (T a.relation l i 1).class refl)

    pub names-lost : {i : ℕ} → i ≡ place a.rows (T a.relation l) v → i < a.rows → a.rows ≤ place a.rows (T a.relation c) v → false ≡ names_right d T a.relation l (cell v c)
    unfolding names_right same
    names-lost {i} e g b = rw (ne_eqb v 0 z, named-row l e g, eq-eqb v v refl, at_none d vs cs ks a R c v b, ne_eqb 0 v (λ x. z (sym x)))

    pub names-both : {i j p q : ℕ} → i ≡ place a.rows (T a.relation l) v → i < a.rows → j ≡ place a.rows (T a.relation c) v → j < a.rows → c < d.levels
        → p ≡ a.start + (c * a.rows + j) * a.cols → q ≡ a.start + (l * a.rows + i) * a.cols
        → eqb (get_or cs p 0) (get_or cs q 0) ≡ names_right d T a.relation l (cell v c)
    unfolding names_right same
    names-both {i} {j} {p} {q} e g f b u s t =
        rw (ne_eqb v 0 z, named-row l e g, eq-eqb v v refl, named-row c f b, eq-eqb v v refl, key-class d vs cs ks a R c j u b, key-class d vs cs ks a R l i h g, s, t)

  -- ---- a row with a key
  module _ (l i row key kc : ℕ) (I : InRow d vs cs a l i row key kc) where
    pub row-wild : 16 ≤ kc → false ≡ right_row d T a.relation l (T a.relation l i)
    unfolding right_row
    row-wild h =
        let x : T a.relation l i 1 ≡ cell key kc = key-cell d vs cs ks a R l i row key kc 0 I R.keyed in
        let e : cell_right d T a.relation l (T a.relation l i) 1 ≡ false =
        cases (eqb kc 255)
        (λ t. sym (cell-null d T a.relation l (T a.relation l i) 1 key kc key kc x x R.sound-is (eqb-true kc 255 t)) ∙ ne_eqb key 0 I.real)
        (λ t. sym (cell-unfit d T a.relation l (T a.relation l i) 1 key kc key kc x x (eqb-false kc 255 t) (fits_out d R.sound-is a.relation l 1 kc kc (omega (arith, (sound-says d R.sound-is).few-levels))))) in
        rw (← R.cols, all-fails a.cols 0 (λ k. cell_right d T a.relation l (T a.relation l i) (suc k)) {b = false} (sym e) refl R.keyed)

    pub row-cells : {b : Bool} → b ≡ all_below a.cols (λ k. cell_right d T a.relation l (T a.relation l i) (suc k)) → b ≡ false → false ≡ right_row d T a.relation l (T a.relation l i)
    unfolding right_row
    row-cells e q = rw (← R.cols, ← e, q)

    pub row-names : {x b : Bool} → b ≡ all_below a.cols (λ k. cell_right d T a.relation l (T a.relation l i) (suc k)) → b ≡ true
        → x ≡ reference_right d T a.relation l (T a.relation l i (foreign_of d a.relation)) → x ≡ right_row d T a.relation l (T a.relation l i)
    unfolding right_row
    row-names e q f = rw (← R.cols, ← e, q) f

    pub row-keyed : {b : Bool} → b ≡ right_row d T a.relation l (T a.relation l i) → b ≡ row_right d T a.relation l i
    unfolding row_right right_row used
    row-keyed e =
        let x : (T a.relation l i 1).value ≡ key = ap (λ (x : Cell). x.value) (key-cell d vs cs ks a R l i row key kc 0 I R.keyed) in
        rw (x, ne_eqb key 0 I.real, ← R.rows, own-place d vs cs ks a R l i key I.level I.below x I.real, eq-eqb i i refl) e

  module _ (l i row : ℕ) (h : l < d.levels) (g : i < a.rows) (s : row ≡ a.start + (l * a.rows + i) * a.cols) where
    pub row-empty : {b : Bool} → get_or vs row 0 ≡ 0 → b ≡ empty_row d a.relation (T a.relation l i) → b ≡ row_right d T a.relation l i
    unfolding row_right used
    row-empty n e = rw (key-value d vs cs ks a R l i h g, ← s, n) e

  -- ---- the reference of a row
  column-zero : (l i : ℕ) → T a.relation l i 0 ≡ nocell
  unfolding inside is_column Described.between
  column-zero l i = rows-outside d vs cs a.relation l i 0 refl

  module _ (l i row : ℕ) (b : Area) (G : Refers d vs cs ks a b) (h : l < d.levels) (g : i < a.rows) (s : row ≡ a.start + (l * a.rows + i) * a.cols) where
    pub names-zero : a.foreign ≡ None → true ≡ reference_right d T a.relation l (T a.relation l i (foreign_of d a.relation))
    unfolding reference_right
    names-zero e = rw (G.none e, column-zero l i)

    module _ (k : ℕ) (e : a.foreign ≡ Some k) where
      named-cell : T a.relation l i (foreign_of d a.relation) ≡ cell (get_or vs (row + k) 0) (get_or cs (row + k) 0)
      named-cell = rw (G.some k e).0 (stood-cell d vs cs ks a R l i row k h g s (G.some k e).1)

      pub names-null : get_or vs (row + k) 0 ≡ 0 → true ≡ reference_right d T a.relation l (T a.relation l i (foreign_of d a.relation))
      unfolding reference_right
      names-null z = rw (named-cell, z)

      pub names-some : {x : Bool} → x ≡ names_right d T b.relation l (cell (get_or vs (row + k) 0) (get_or cs (row + k) 0))
          → x ≡ reference_right d T a.relation l (T a.relation l i (foreign_of d a.relation))
      unfolding reference_right names_right
      names-some z = rw (named-cell, ← G.refers) z
