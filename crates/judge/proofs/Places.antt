-- Where a relation's rows and keys stand, and what the row of an entity at a level lends.
-- Assumes nothing.
use Rattle.std.specs.Prelude.{if◌then◌else◌, Option, Some, None}
use Rattle.std.specs.Option.{is_some}
use mathlib.Core.Path.{◌≡◌, refl, sym, ap, ◌∙◌}
use mathlib.Core.Logic.{◌≢◌, inl, inr}
use mathlib.Core.Bool.{Bool, true, false, not}
use mathlib.Core.List.{List}
use Prim.Native.Nat.{ℕ, suc, ◌+◌, ◌*◌, ◌≤◌, ◌<◌}
use native.Mathlib.Nat.{mul-le-mul_right, lt_of_lt_of_le, add-zero}
use native.Mathlib.Omega.{arith}
use lib.Dec.{eqb, ltb}
use lib.ListN.{get_or, set, replicate, length-replicate, length-set, get_or-replicate}
use lib.Seq.{get_or-set_same, get_or-set_other}
use borrow.Author.Tests.{lt-ltb, le-ltb, ltb-true, ltb-false, eq-eqb, ne_eqb, eqb-true, eqb-false}
use Rattle.bounded.specs.Bounded.{first_below}
use Rattle.bounded.proofs.Cases.{cases, clash}
use Rattle.bounded.proofs.First.{first_holds, first_cong}
use Rattle.model.specs.declared.Description.{Description}
use Rattle.model.specs.Tables.{Cell, Tables, cell, norow, same, place, seek, at, lends}
use Rattle.model.specs.Buffers.{rows_in}
use Rattle.keys.specs.declared.areas.Area.{Area}
use Rattle.keys.specs.Facts.{has_key}
use Rattle.judge.specs.declared.lenders.Lenders.{Lenders}
use Rattle.judge.specs.Facts.{Ready, lender_of, Known}

digit_lt : {a b n m : ℕ} → a < n → b < m → a * m + b < n * m
digit_lt {a} {b} {n} {m} h k = omega (arith, mul-le-mul_right m h)

-- the lender's row starts at p, and what it lends in column k
pub record Lent (d : Description) (T : Tables) (a : Area) (l v c k p : ℕ) : Type 0 where
  pub row : ℕ
  pub below : row < a.rows
  pub stands : p ≡ a.start + (l * a.rows + row) * a.cols
  pub lends-it : lends (at d T a.relation l v) (cell v c) k l ≡ (if eqb (T a.relation l row k).class l then T a.relation l row k else cell 0 l)

module _ (d : Description) (vs cs ks : List ℕ) (a : Area) (R : Ready d vs cs ks a) where
  abbrev T : Tables
  T = rows_in d vs cs

  pub spot : (l i k : ℕ) → l < d.levels → i < a.rows → k < a.cols → a.start + (l * a.rows + i) * a.cols + k < a.start + d.levels * a.rows * a.cols
  spot l i k h g f = omega (arith, digit_lt (digit_lt h g) f)

  pub spot-row : (l i : ℕ) → l < d.levels → i < a.rows → a.start + (l * a.rows + i) * a.cols ≤ 8192
  spot-row l i h g = omega (arith, spot l i 0 h g R.keyed, R.values, R.size)

  -- a search over the keys is the search over the rows
  pub place_found : (l v : ℕ) → l < d.levels → place a.rows (T a.relation l) v ≡ first_below a.rows (has_key ks (a.start + l * a.rows) v)
  unfolding place has_key
  place_found l v h = first_cong a.rows _ _ (λ i g. ap (λ (x : ℕ). eqb x v) (sym (R.key l i h g)))

  pub key-is : (l v : ℕ) → place a.rows (T a.relation l) v < a.rows → (T a.relation l (place a.rows (T a.relation l) v) 1).value ≡ v
  unfolding place
  key-is l v h = eqb-true _ _ (first_holds a.rows (λ i. eqb (T a.relation l i 1).value v) h)

  pub at-found : (l v : ℕ) → place a.rows (T a.relation l) v < a.rows → at d T a.relation l v ≡ T a.relation l (place a.rows (T a.relation l) v)
  unfolding at seek
  at-found l v h = rw (← R.rows, lt-ltb _ _ h)

  pub at_none : (l v : ℕ) → a.rows ≤ place a.rows (T a.relation l) v → at d T a.relation l v ≡ norow
  unfolding at seek
  at_none l v h = rw (← R.rows, le-ltb _ _ h)

  -- what the lender's row lends, by where it stands
  pub lends_none : (l v c k : ℕ) → l < d.levels → v ≢ 0 → lender_of T a v c l ≡ None → lends (at d T a.relation l v) (cell v c) k l ≡ cell 0 l
  unfolding lender_of lends same
  lends_none l v c k h z e =
      cases (ltb (place a.rows (T a.relation l) v) a.rows)
      (λ t. let g = ltb-true _ _ t in
      cases (eqb (T a.relation l (place a.rows (T a.relation l) v) 1).class c)
      (λ u. let q : Some (a.start + (l * a.rows + place a.rows (T a.relation l) v) * a.cols) ≡ None = rw (t, u) at e in cc)
      (λ u. rw (at-found l v g, eq-eqb _ _ (key-is l v g), u)))
      (λ t. rw (at_none l v (ltb-false _ _ t), ne_eqb 0 v (λ q. z (sym q))))

  pub lends_some : (l v c k : ℕ) {p : ℕ} → l < d.levels → Some p ≡ lender_of T a v c l → Lent d T a l v c k p
  unfolding lender_of lends same
  lends_some l v c k {p} h e =
      cases (ltb (place a.rows (T a.relation l) v) a.rows)
      (λ t. let g = ltb-true _ _ t in
      cases (eqb (T a.relation l (place a.rows (T a.relation l) v) 1).class c)
      (λ u. record {
        row = place a.rows (T a.relation l) v;
        below = g;
        stands = (let q : Some p ≡ Some (a.start + (l * a.rows + place a.rows (T a.relation l) v) * a.cols) = rw (t, u) at e in cc);
        lends-it = rw (at-found l v g, eq-eqb _ _ (key-is l v g), u);
      })
      (λ u. let q : Some p ≡ None = rw (t, u) at e in cc))
      (λ t. let q : Some p ≡ None = rw t at e in cc)

  pub class-is : (l i k : ℕ) → l < d.levels → i < a.rows → k < a.cols → (T a.relation l i (suc k)).class ≡ get_or cs (a.start + (l * a.rows + i) * a.cols + k) 0
  class-is l i k h g f = ap (λ (x : Cell). x.class) (R.cells l i k h g f)

  pub value-is : (l i k : ℕ) → l < d.levels → i < a.rows → k < a.cols → (T a.relation l i (suc k)).value ≡ get_or vs (a.start + (l * a.rows + i) * a.cols + k) 0
  value-is l i k h g f = ap (λ (x : Cell). x.value) (R.cells l i k h g f)

  pub key-class : (l i : ℕ) → l < d.levels → i < a.rows → (T a.relation l i 1).class ≡ get_or cs (a.start + (l * a.rows + i) * a.cols) 0
  key-class l i h g = simp add-zero at (class-is l i 0 h g R.keyed)

  pub key-value : (l i : ℕ) → l < d.levels → i < a.rows → (T a.relation l i 1).value ≡ get_or vs (a.start + (l * a.rows + i) * a.cols) 0
  key-value l i h g = simp add-zero at (value-is l i 0 h g R.keyed)

  -- ---- the lender's row
  module _ (l v c : ℕ) (h : l < d.levels) where
    pub lender-absent : a.rows ≤ first_below a.rows (has_key ks (a.start + l * a.rows) v) → None ≡ lender_of T a v c l
    unfolding lender_of
    lender-absent e = let g : a.rows ≤ place a.rows (T a.relation l) v = rw (place_found l v h) e in rw (le-ltb _ _ g)

    pub lender-other : {f p : ℕ} → f ≡ first_below a.rows (has_key ks (a.start + l * a.rows) v) → f < a.rows → p ≡ a.start + (l * a.rows + f) * a.cols → (get_or cs p 0 ≡ c → ⊥) → None ≡ lender_of T a v c l
    unfolding lender_of
    lender-other {f} {p} e g s n =
        let q : place a.rows (T a.relation l) v ≡ f = place_found l v h ∙ sym e in
        let m : (T a.relation l f 1).class ≡ get_or cs p 0 = rw s (key-class l f h g) in
        rw (q, lt-ltb f a.rows g, ne_eqb (T a.relation l f 1).class c (λ x. n (sym m ∙ x)))

    pub lender-is : {f p : ℕ} → f ≡ first_below a.rows (has_key ks (a.start + l * a.rows) v) → f < a.rows → p ≡ a.start + (l * a.rows + f) * a.cols → get_or cs p 0 ≡ c → Some p ≡ lender_of T a v c l
    unfolding lender_of
    lender-is {f} {p} e g s n =
        let q : place a.rows (T a.relation l) v ≡ f = place_found l v h ∙ sym e in
        let m : (T a.relation l f 1).class ≡ get_or cs p 0 = rw s (key-class l f h g) in
        rw (q, lt-ltb f a.rows g, eq-eqb (T a.relation l f 1).class c (m ∙ n)) (ap Some s)

    -- ---- what it lends in column k + 1
    module _ (k p : ℕ) (f : k < a.cols) (L : Lent d T a l v c (suc k) p) where
      pub lent-spot : p + k < a.start + d.levels * a.rows * a.cols
      lent-spot = rw L.stands (spot l L.row k h L.below f)

      lent-cell : T a.relation l L.row (suc k) ≡ cell (get_or vs (p + k) 0) (get_or cs (p + k) 0)
      lent-cell = rw L.stands (R.cells l L.row k h L.below f)

      pub lent_other : (get_or cs (p + k) 0 ≡ l → ⊥) → lends (at d T a.relation l v) (cell v c) (suc k) l ≡ cell 0 l
      lent_other n = L.lends-it ∙ rw (lent-cell, ne_eqb (get_or cs (p + k) 0) l n)

      pub lent_same : get_or cs (p + k) 0 ≡ l → lends (at d T a.relation l v) (cell v c) (suc k) l ≡ cell (get_or vs (p + k) 0) l
      lent_same n = L.lends-it ∙ rw (lent-cell, eq-eqb (get_or cs (p + k) 0) l n) (ap (cell (get_or vs (p + k) 0)) n)

pub same_class : (v w c : ℕ) → eqb v w ≡ same (cell v c) (cell w c)
unfolding same
same_class v w c = cases (eqb v w) (λ t. rw (t, eq-eqb c c refl)) (λ t. rw t)

-- ---- the cache

-- "is none" of what was looked up
pub no_row : (p : Option ℕ) {none : Bool} → is_some p ≡ not none → none ≡ true → p ≡ None
no_row None e t = refl
no_row (Some x) e t = clash refl (rw t at e)

module _ (d : Description) (U : Tables) (a : Area) (v c : ℕ) (few : d.levels ≤ 16) where
  pub known-none : Known d U a v c (record { found = replicate 16 None; absent = replicate 16 false })
  known-none =
      record {
        found-long = length-replicate {A = Option ℕ} 16 None;
        absent-long = length-replicate {A = Bool} 16 false;
        right = λ e g. inl (get_or-replicate {A = Option ℕ} 16 e None None (lt_of_lt_of_le g few));
        right-absent = λ e g s. clash s (get_or-replicate {A = Bool} 16 e false false (lt_of_lt_of_le g few));
      }

  -- once a level was looked up, and is kept as absent only where the entity has no row there
  pub known-kept : {K : Lenders} {l : ℕ} {p : Option ℕ} {none : Bool} → Known d U a v c K → l < d.levels → p ≡ lender_of U a v c l → (none ≡ true → p ≡ None)
      → Known d U a v c (record { found = set K.found l p; absent = set K.absent l none })
  known-kept {K} {l} {p} {none} k h q n =
      record {
        found-long = length-set K.found l p ∙ k.found-long;
        absent-long = length-set K.absent l none ∙ k.absent-long;
        right = λ e g. cases (eqb e l)
            (λ t. rw (eqb-true e l t) (inr (get_or-set_same K.found l p None (omega (arith, few, k.found-long, h)) ∙ q)))
            (λ f. rw (get_or-set_other K.found l e p None (eqb-false e l f)) (k.right e g));
        right-absent = λ e g. cases (eqb e l)
            (λ t. rw (eqb-true e l t, get_or-set_same K.absent l none false (omega (arith, few, k.absent-long, h))) (λ s. sym q ∙ n s))
            (λ f. rw (get_or-set_other K.absent l e none false (eqb-false e l f)) (k.right-absent e g));
      }
