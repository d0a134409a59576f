-- From the first pass to the second: what stands side by side is known of every relation, and a key that stands twice is found by the judge too.
-- Assumes nothing.
use mathlib.Core.Path.{◌≡◌, refl, sym, ap, ◌∙◌}
use mathlib.Core.Bool.{Bool, true, false}
use mathlib.Core.Logic.{◌≢◌}
use mathlib.Core.List.{List}
use Prim.Native.Nat.{ℕ, zero, suc, ◌+◌, ◌*◌, ◌≤◌, ◌<◌}
use native.Mathlib.Nat.{add-zero, add_assoc, lt_irrefl, mul-le-mul_right}
use native.Mathlib.Numerals.{add-one}
use native.Mathlib.Omega.{arith}
use lib.Dec.{eqb}
use lib.ListN.{length, get_or}
use borrow.Author.Tests.{eq-eqb, ne_eqb, eqb-false}
use Rattle.bounded.specs.Bounded.{first_below, all_below}
use Rattle.bounded.proofs.Cases.{cases, clash}
use Rattle.bounded.proofs.First.{first-before, first_cong}
use Rattle.bounded.proofs.All.{all-at, all_of}
use Rattle.model.specs.declared.Description.{Description}
use Rattle.std.specs.Prelude.{Ok, Err, Some, None}
use Rattle.model.specs.declared.Fault.TheVariants as Faults
use Rattle.model.specs.Description.{column_count, row_count, refers_of, start_of, total_of, sound}
use Rattle.model.specs.Tables.{Cell, Tables, cell, used, place}
use Rattle.model.specs.Buffers.{holding, fitting, position_of, rows_in, state_of}
use Rattle.model.specs.Ledger.{lending, lent_fits, pages_of}
use Rattle.model.specs.Judge.{row_right, legal, legal_pages, judge}
use Rattle.model.proofs.Border.{Inside, inside-shown}
use Rattle.model.proofs.Sound.{Sound, sound-says, foreign-column, refers-lower}
use Rattle.keys.specs.declared.areas.Area.{Area}
use Rattle.keys.specs.Facts.{has_key, first_of, Starting, column_at, area_of, Keyed, distinct_keys}
use Rattle.judge.specs.Facts.{relation_right, tables_right, Ready, Refers, Laid}
use Rattle.describe.proofs.Sizes.{refers-of}
use Rattle.keys.proofs.Starts.{Standing, standing, keys-room, cells-room}
use Rattle.keys.proofs.Sought.{first-none}
use Rattle.keys.proofs.Once.{once-of}

-- ---- the cells of relation r + 1

module _ (d : Description) (vs cs : List ℕ) (r : ℕ) (h : r < d.relations) where
  position-is : (l i k : ℕ) → position_of d (suc r) l i (suc k) ≡ start_of d (suc r) + (l * row_count d (suc r) + i) * column_count d (suc r) + k
  unfolding position_of
  position-is l i k = sym (add_assoc (start_of d (suc r)) ((l * row_count d (suc r) + i) * column_count d (suc r)) k)

  pub cells_of : (l i k : ℕ) → l < d.levels → i < row_count d (suc r) → k < column_count d (suc r)
      → rows_in d vs cs (suc r) l i (suc k)
      ≡ cell (get_or vs (start_of d (suc r) + (l * row_count d (suc r) + i) * column_count d (suc r) + k) 0) (get_or cs (start_of d (suc r) + (l * row_count d (suc r) + i) * column_count d (suc r) + k) 0)
  unfolding rows_in
  cells_of l i k hl hi hk =
      let inner : Inside d (suc r) l i (suc k) = record { relation = omega arith; level = hl; row = hi; least = omega arith; column = hk } in
      rw (inside-shown d (suc r) l i (suc k) inner, position-is l i k)

  module _ (ks : List ℕ) (s : sound d ≡ true) (K : Keyed d vs d.relations ks) where
    pub key_of : (l i : ℕ) → l < d.levels → i < row_count d (suc r) → get_or ks (start_of d (suc r) + l * row_count d (suc r) + i) 0 ≡ (rows_in d vs cs (suc r) l i 1).value
    key_of l i hl hi =
        let j = l * row_count d (suc r) + i in
        let e : start_of d (suc r) + l * row_count d (suc r) + i ≡ start_of d (suc r) + j = omega arith in
        let f : j < d.levels * row_count d (suc r) = omega (arith, mul-le-mul_right (row_count d (suc r)) hl) in
        ap (λ (p : ℕ). get_or ks p 0) e
        ∙ K.right r j h f
        ∙ sym (ap (λ (x : Cell). x.value) (simp add-zero at (cells_of l i 0 hl hi ((sound-says d s).relations r h).keyed)))

-- ---- a key that stands twice

module _ (d : Description) (T : Tables) (ks : List ℕ) (r l from : ℕ) (named : (i : ℕ) → i < row_count d r → get_or ks (from + i) 0 ≡ (T r l i 1).value) where
  place-keys : (v : ℕ) → place (row_count d r) (T r l) v ≡ first_below (row_count d r) (has_key ks from v)
  unfolding place has_key
  place-keys v = first_cong (row_count d r) _ _ (λ i g. ap (λ (x : ℕ). eqb x v) (sym (named i g)))

  twice-row : (i : ℕ) → i < row_count d r → first_of ks from i ≡ false → row_right d T r l i ≡ false
  unfolding first_of row_right used
  twice-row i h e =
      let v = (T r l i 1).value in
      cases (eqb v 0)
      (λ t. clash (rw (named i h, t)) e)
      (λ t. let q : eqb (first_below i (has_key ks from v)) i ≡ false = rw (named i h, t) at e in
      let w : place (row_count d r) (T r l) v ≢ i = λ x. eqb-false _ i q (first-none i (has_key ks from v) (λ j g. first-before (row_count d r) (has_key ks from v) j (omega (arith, place-keys v)))) in
      rw (t, ne_eqb (place (row_count d r) (T r l) v) i w))

  first-level : all_below (row_count d r) (λ i. row_right d T r l i) ≡ true → all_below (row_count d r) (first_of ks from) ≡ true
  first-level t =
      all_of (row_count d r) (first_of ks from)
      (λ i h. cases (first_of ks from i) (λ u. u) (λ u. clash (all-at (row_count d r) (λ i. row_right d T r l i) t i h) (twice-row i h u)))

module _ (d : Description) (vs cs ks : List ℕ) (s : sound d ≡ true) (K : Keyed d vs d.relations ks) where
  abbrev T : Tables
  T = rows_in d vs cs

  distinct-right : tables_right d T ≡ true → distinct_keys d ks ≡ true
  unfolding distinct_keys tables_right relation_right
  distinct-right t =
      all_of d.relations _
      (λ r h. all_of d.levels _
      (λ l g. first-level d T ks (suc r) l (start_of d (suc r) + l * row_count d (suc r)) (λ i f. key_of d vs cs r h ks s K l i g f)
      (all-at d.levels _ (all-at d.relations _ t r h) l g)))

  pub tables-twice : {b : Bool} → b ≡ distinct_keys d ks → b ≡ false → false ≡ tables_right d T
  tables-twice x y = cases (tables_right d T) (λ t. clash (distinct-right t) (sym x ∙ y)) (λ t. sym t)

-- ---- what is known of every relation

column-zero : column_at 0 ≡ None
unfolding column_at
column-zero = refl

column-none : (f : ℕ) → column_at f ≡ None → f ≡ 0
unfolding column_at
column-none zero e = refl
column-none (suc k) e = let q : Some k ≡ None = e in cc

column-some : (f k : ℕ) → column_at f ≡ Some k → f ≡ suc k
unfolding column_at
column-some zero k e = let q : None ≡ Some k = e in cc
column-some (suc f) k e = let q : Some f ≡ Some k = e in cc

module _ (d : Description) (vs cs ks ss : List ℕ) (s : sound d ≡ true) (P : Starting d ss) (K : Keyed d vs d.relations ks)
    (ev : length vs ≡ total_of d) (ec : length cs ≡ total_of d) (D : distinct_keys d ks ≡ true) where
  abbrev S : Sound d
  S = sound-says d s

  distinct-level : (r l : ℕ) → r < d.relations → l < d.levels → all_below (row_count d (suc r)) (first_of ks (start_of d (suc r) + l * row_count d (suc r))) ≡ true
  unfolding distinct_keys
  distinct-level r l h g = all-at d.levels _ (all-at d.relations _ D r h) l g

  ready : (r : ℕ) → r < d.relations → (a : Area) → Standing d r a → Ready d vs cs ks a
  ready r h a G =
      record {
        sound-is = s;
        named = rw G.relation (omega (arith, S.few-relations));
        depth = G.levels;
        rows = rw G.relation G.rows;
        cols = rw G.relation G.cols;
        few = rw G.rows (S.relations r h).few;
        wide = rw G.cols (S.relations r h).narrow;
        keyed = rw G.cols (S.relations r h).keyed;
        size = omega (arith, S.total);
        long = K.long;
        values = rw (G.start, G.rows, G.cols, ev) (cells-room d r h);
        classes = rw (G.start, G.rows, G.cols, ec) (cells-room d r h);
        keys = rw (G.start, G.rows) (keys-room d s r h);
        cells = λ l i k hl hi hk. rw (G.relation, G.start, G.rows, G.cols) (cells_of d vs cs r h l i k hl (rw G.rows at hi) (rw G.cols at hk));
        key = λ l i hl hi. rw (G.relation, G.start, G.rows) (key_of d vs cs r h ks s K l i hl (rw G.rows at hi));
        once = λ l v hl z. rw (G.start, G.rows) (once-of ks (start_of d (suc r) + l * row_count d (suc r)) (row_count d (suc r)) v (distinct-level r l h hl) z);
      }

  target : (q : ℕ) → 0 < q → q ≤ d.relations → Ready d vs cs ks (area_of d ss q)
  target zero h g = absurd (lt_irrefl 0 h)
  target (suc r) h g = ready r g (area_of d ss (suc r)) (standing d ss P r g)

  pub laid_of : Laid d vs cs ks ss
  laid_of =
      record {
        sound-is = s;
        ready = λ r h. ready r h (area_of d ss (suc r)) (standing d ss P r h);
        refers = λ r h.
            let G = standing d ss P r h in
            let e = refers-of d (suc r) (omega arith) h in
            record {
              none = λ z. column-none _ (sym G.foreign ∙ z);
              some = λ k z. let q = column-some _ k (sym G.foreign ∙ z) in (q, rw G.cols (omega (arith, foreign-column d r (S.relations r h))));
              refers = e;
              ready = λ n. target (get_or d.refers (suc r) 0) (rw e ((S.relations r h).referring (λ z. n (G.foreign ∙ rw (z, column-zero)))).some) (rw e (lower r h));
            };
        named = λ r h. let e = refers-of d (suc r) (omega arith) h in rw e (lower-eight r h);
      }
    where
      lower : (r : ℕ) → r < d.relations → refers_of d (suc r) ≤ d.relations
      lower r h = omega (arith, refers-lower d r (S.relations r h))

      lower-eight : (r : ℕ) → r < d.relations → refers_of d (suc r) ≤ 8
      lower-eight r h = omega (arith, lower r h, S.few-relations)

-- ---- relation r + 1, as code has it

module _ (d : Description) (vs cs ks ss : List ℕ) (L : Laid d vs cs ks ss) (r : ℕ) (h : r < d.relations) {a : Area} (e : a ≡ area_of d ss (r + 1)) where
  pub laid-ready : Ready d vs cs ks a
  laid-ready = rw (e, add-one r) (L.ready r h)

  pub laid-refers : {t : ℕ} {b : Area} → t ≡ get_or d.refers (r + 1) 0 → b ≡ area_of d ss t → Refers d vs cs ks a b
  laid-refers x y = rw (y, x, e, add-one r) (L.refers r h)

  pub laid-relation : (U : Tables) {b : Bool} → b ≡ all_below a.levels (λ l. all_below a.rows (λ i. row_right d U a.relation l i)) → b ≡ relation_right d U (suc r)
  unfolding relation_right
  laid-relation U y = let q : (area_of d ss (suc r)).rows ≡ row_count d (suc r) = (L.ready r h).rows in rw (e, add-one r, q) at y

-- ---- the whole

pub tables-legal : (d : Description) (vs cs : List ℕ) → tables_right d (rows_in d vs cs) ≡ legal d (state_of d (holding vs cs))
unfolding tables_right relation_right state_of legal
tables-legal d vs cs = refl

module _ (d : Description) (vs cs : List ℕ) {s : Bool} (x : s ≡ sound d) where
  pub judge-unsound : s ≡ false → (Err Faults.Description) ≡ judge d (lending (holding vs cs))
  unfolding judge
  judge-unsound t = rw (← x, t)

  module _ (t : s ≡ true) {n : ℕ} (y : n ≡ total_of d) where
    pub judge-values : length vs ≢ n → (Err Faults.Length) ≡ judge d (lending (holding vs cs))
    unfolding judge lent_fits fitting
    judge-values e = rw (← x, t, ← y, ne_eqb (length vs) n e)

    module _ (e : length vs ≡ n) where
      pub judge-classes : length cs ≢ n → (Err Faults.Length) ≡ judge d (lending (holding vs cs))
      unfolding judge lent_fits fitting
      judge-classes f = rw (← x, t, ← y, eq-eqb (length vs) n e, ne_eqb (length cs) n f)

      module _ (f : length cs ≡ n) {g : Bool} (z : g ≡ legal d (state_of d (holding vs cs))) where
        pub judge-illegal : g ≡ false → (Err Faults.Illegal) ≡ judge d (lending (holding vs cs))
        unfolding judge lent_fits fitting pages_of legal_pages
        judge-illegal q = rw (← x, t, ← y, eq-eqb (length vs) n e, eq-eqb (length cs) n f, ← z, q)

        pub judge-legal : g ≡ true → (Ok tt) ≡ judge d (lending (holding vs cs))
        unfolding judge lent_fits fitting pages_of legal_pages
        judge-legal q = rw (← x, t, ← y, eq-eqb (length vs) n e, eq-eqb (length cs) n f, ← z, q)
