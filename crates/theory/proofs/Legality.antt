-- Legal tables, by rows and by keys.
-- Assumes nothing.
use Prim.Native.Nat.{ℕ, ◌<◌}
use mathlib.Core.Bool.{true}
use mathlib.Core.Logic.{◌≢◌, ◌⊎◌, inl, inr}
use mathlib.Core.Path.{◌≡◌, refl, sym, ◌∙◌}
use native.Mathlib.Omega.{arith}
use Rattle.bounded.proofs.Reflection.{decide, and_r, eqb-r, ltb-r}
use Rattle.model.specs.Description.{over, row_count, foreign_of, refers_of, in_range}
use Rattle.model.specs.Legal.{Legal}
use Rattle.model.specs.Tables.{nocell, Row, Tables, at, lends}
use Rattle.model.specs.declared.Description.{Description}
use Rattle.theory.specs.Laws.{Laws}
use Rattle.theory.proofs.Described.{range-level}
use Rattle.theory.proofs.Fine.{cell-path, same-r, Held, Named, Absent, Keyed, Fine, lends-yes, lends-no, value_of, nocell-value, nocell-class, no-level, key_below}
use Rattle.theory.proofs.Seek.{Sought, there, nowhere, sought, Neat, seek_is, at-seek}
use Rattle.theory.proofs.Lift.{Tidy}

module _ (D : Description) (L : Laws D) (T : Tables) (g : Legal D T) where
  inside : (r l i : ℕ) → (T r l i 1).value ≢ 0 → i < row_count D r
  inside r l i n = go (decide (ltb-r i (row_count D r)))
    where
      go : (i < row_count D r) ⊎ (i < row_count D r → ⊥) → i < row_count D r
      go (inl h) = h
      go (inr m) = absurd (n (nocell-value (g.outside r l i 1 (omega arith))))

  clean : (r l i : ℕ) → (T r l i 1).value ≡ 0 → Absent (T r l i)
  clean r l i z k = go (decide (same-r (T r l i k) nocell))
    where
      go : (T r l i k ≡ nocell) ⊎ (T r l i k ≢ nocell) → T r l i k ≡ nocell
      go (inl e) = e
      go (inr n) = absurd ((g.entity-key r l i k n).0 z)

  neat : (r l : ℕ) → Neat (row_count D r) (T r l)
  neat r l = record { unique = λ i j _ _ n e. g.one-row r l i j n e; clean = λ i _ z. clean r l i z }

  -- a row in use is found by its key
  pub find : (r l i v : ℕ) → (T r l i 1).value ≡ v → v ≢ 0 → at D T r l v ≡ T r l i
  find r l i v e n = at-seek D T r l v ∙ seek_is (row_count D r) (T r l) (neat r l) i v (inside r l i (λ z. n (sym e ∙ z))) e n

  -- every row found is a row, or empty
  data Row? (r l v : ℕ) : Type 0 where
    is_row : (i : ℕ) → (T r l i 1).value ≡ v → v ≢ 0 → at D T r l v ≡ T r l i → Row? r l v
    no_row : Absent (at D T r l v) → ((i : ℕ) → (T r l i 1).value ≡ v → v ≢ 0 → ⊥) → Row? r l v

  row? : (r l v : ℕ) → Row? r l v
  row? r l v = go (sought (row_count D r) (T r l) v) (at-seek D T r l v) (decide (eqb-r v 0))
    where
      go : {R : Row} → Sought (row_count D r) (T r l) v R → at D T r l v ≡ R → (v ≡ 0) ⊎ (v ≢ 0) → Row? r l v
      go (there i h e q) p (inl z) = no_row (rw (p ∙ q) (clean r l i (e ∙ z))) (λ _ _ n. n z)
      go (there i h e q) p (inr n) = is_row i e n (p ∙ q)
      go (nowhere f q) p _ = no_row (rw (p ∙ q) (λ k. refl)) (λ i e n. f i (inside r l i (λ z. n (sym e ∙ z))) e)

  cell-held : (r l v i k : ℕ) → (T r l i 1).value ≡ v → v ≢ 0 → at D T r l v ≡ T r l i → (at D T r l v k ≡ nocell) ⊎ Held D (at D T) r l v k
  cell-held r l v i k e n p = go (decide (eqb-r d 255)) (decide (eqb-r (T r l i k).value 0))
    where
      d : ℕ
      d = (T r l i k).class

      key-some : (T r l i 1).value ≢ 0
      key-some z = n (sym e ∙ z)

      owned : ((at D T r d v 1 ≡ T r l i 1) × ((at D T r d v k).class ≡ d)) ⊎ ((at D T r d v 1 ≡ T r l i 1) × ((at D T r d v k).class ≡ d) → ⊥)
          → ((T r l i k).value ≡ 0) ⊎ ((T r l i k).value ≢ 0) → T r l i k ≡ lends (at D T r d v) (T r l i 1) k d
      owned (inl h) _ = sym (lends-yes (at D T r d v) (T r l i 1) k d h.0 h.1 ∙ lent (row? r d v))
        where
          lent : Row? r d v → at D T r d v k ≡ T r l i k
          lent (no_row a _) = absurd (key-some (value_of (sym h.0 ∙ a 1)))
          lent (is_row j _ _ q) = cell-path (sym (g.one_value r l d i j k key-some (cc (h.0, q)) (cc (h.1, q)) ∙ cc q)) h.1
      owned (inr m) (inl z) = cell-path z refl ∙ sym (lends-no (at D T r d v) (T r l i 1) k d (λ x y. m (x, y)))
      owned (inr m) (inr nz) = absurd (by (decide (eqb-r d l)))
        where
          by : (d ≡ l) ⊎ (d ≢ l) → ⊥
          by (inl q) = m (cc (q, p), cc (q, p))
          by (inr q) = m (cc (f, w.1), cc (f, w.2))
            where
              w : (j : ℕ) × (T r d j 1 ≡ T r l i 1) × (T r d j k ≡ T r l i k)
              w = g.borrow r l i k nz q

              f : at D T r d v ≡ T r d w.0
              f = find r d w.0 v (cc (w.1, e)) n

      range : d ≢ 255 → ((T r l i k).value ≡ 0) ⊎ ((T r l i k).value ≢ 0) → in_range D r k d ≡ true
      range m (inr nz) = g.form-value r l i k nz
      range m (inl z) = by (g.form-null r l i k z)
        where
          by : (in_range D r k d ≡ true) ⊎ (d ≡ 255) → in_range D r k d ≡ true
          by (inl h) = h
          by (inr q) = absurd (m q)

      go : (d ≡ 255) ⊎ (d ≢ 255) → ((T r l i k).value ≡ 0) ⊎ ((T r l i k).value ≢ 0) → (at D T r l v k ≡ nocell) ⊎ Held D (at D T) r l v k
      go (inl q) (inl z) = inl (rw p (cell-path z q))
      go (inl q) (inr nz) = absurd (no-level L q (range-level D L r k d (g.form-value r l i k nz)))
      go (inr m) x =
          inr (record {
            range = rw p (range m x);
            below = rw p (g.form-tc r l i k m);
            over-key = rw p (g.entity-class r l i k m);
            owned = cc (p, owned (decide (and_r (same-r (at D T r d v 1) (T r l i 1)) (eqb-r (at D T r d v k).class d))) x);
          })

  named : (r l v i k : ℕ) → (T r l i 1).value ≡ v → v ≢ 0 → at D T r l v ≡ T r l i → k ≡ foreign_of D r → (at D T r l v k).value ≢ 0 → Named D (at D T) r l v k
  named r l v i k e n p f nz = record { there = cc (p, w.1, at-l); one = two (decide (eqb-r d l)) }
    where
      d : ℕ
      d = (T r l i k).class

      some : (T r l i k).value ≢ 0
      some z = nz (rw p z)

      w : (j : ℕ) × ((T (refers_of D r) l j 1).value ≡ (T r l i k).value) × (over D d (T (refers_of D r) l j 1).class ≡ true)
      w = g.reference r l i k f some

      at-l : at D T (refers_of D r) l (T r l i k).value ≡ T (refers_of D r) l w.0
      at-l = find (refers_of D r) l w.0 (T r l i k).value w.1 some

      two : (d ≡ l) ⊎ (d ≢ l) → at D T (refers_of D r) (at D T r l v k).class (at D T r l v k).value 1 ≡ at D T (refers_of D r) l (at D T r l v k).value 1
      two (inl q) = cc (p, q)
      two (inr q) = cc (p, at-l, at-d, g.one-entity r l i k w.0 y.0 f some q w.1 (cc (y.1, x.2)))
        where
          x : (j : ℕ) × (T r d j 1 ≡ T r l i 1) × (T r d j k ≡ T r l i k)
          x = g.borrow r l i k some q

          y : (j : ℕ) × ((T (refers_of D r) d j 1).value ≡ (T r d x.0 k).value) × (over D (T r d x.0 k).class (T (refers_of D r) d j 1).class ≡ true)
          y = g.reference r d x.0 k f (λ z. some (cc (x.2, z)))

          at-d : at D T (refers_of D r) d (T r l i k).value ≡ T (refers_of D r) d y.0
          at-d = find (refers_of D r) d y.0 (T r l i k).value (cc (y.1, x.2)) some

  pub legal-tidy : Tidy D T
  legal-tidy = record { neat = neat; outside = λ r l i h k. g.outside r l i k h; fine = record { keyed = λ r l v. keyed (row? r l v); cells = λ r l v k. cells k (row? r l v); refs = λ r l v k f n. refs k f n (row? r l v) } }
    where
      keyed : {r l v : ℕ} → Row? r l v → Absent (at D T r l v) ⊎ Keyed (at D T r l v) v
      keyed (is_row i e n p) = inr (rw p e, n)
      keyed (no_row a _) = inl a

      cells : {r l v : ℕ} (k : ℕ) → Row? r l v → (at D T r l v k ≡ nocell) ⊎ Held D (at D T) r l v k
      cells {r} {l} {v} k (is_row i e n p) = cell-held r l v i k e n p
      cells k (no_row a _) = inl (a k)

      refs : {r l v : ℕ} (k : ℕ) → k ≡ foreign_of D r → (at D T r l v k).value ≢ 0 → Row? r l v → Named D (at D T) r l v k
      refs {r} {l} {v} k f n (is_row i e m p) = named r l v i k e m p f n
      refs k f n (no_row a _) = absurd (n (nocell-value (a k)))

module _ (D : Description) (L : Laws D) (T : Tables) (t : Tidy D T) where
  F : Fine D (at D T)
  F = t.fine

  inside' : (r l i : ℕ) → (T r l i 1).value ≢ 0 → i < row_count D r
  inside' r l i n = go (decide (ltb-r i (row_count D r)))
    where
      go : (i < row_count D r) ⊎ (i < row_count D r → ⊥) → i < row_count D r
      go (inl h) = h
      go (inr m) = absurd (n (nocell-value (t.outside r l i (omega arith) 1)))

  found' : (r l i : ℕ) → (T r l i 1).value ≢ 0 → at D T r l (T r l i 1).value ≡ T r l i
  found' r l i n = at-seek D T r l (T r l i 1).value ∙ seek_is (row_count D r) (T r l) (t.neat r l) i (T r l i 1).value (inside' r l i n) refl n

  -- a row is empty, or is found by its key
  data Row'' (r l i : ℕ) : Type 0 where
    none : Absent (T r l i) → Row'' r l i
    used : (T r l i 1).value ≢ 0 → at D T r l (T r l i 1).value ≡ T r l i → Row'' r l i

  row'' : (r l i : ℕ) → Row'' r l i
  row'' r l i = go (decide (ltb-r i (row_count D r))) (decide (eqb-r (T r l i 1).value 0))
    where
      go : (i < row_count D r) ⊎ (i < row_count D r → ⊥) → ((T r l i 1).value ≡ 0) ⊎ ((T r l i 1).value ≢ 0) → Row'' r l i
      go (inl h) (inl z) = none ((t.neat r l).clean i h z)
      go (inr m) (inl z) = none (t.outside r l i (omega arith))
      go _ (inr n) = used n (found' r l i n)

  -- a cell is empty, or is held in a row in use
  data Cell'' (r l i k : ℕ) : Type 0 where
    empty : T r l i k ≡ nocell → Cell'' r l i k
    held : (T r l i 1).value ≢ 0 → at D T r l (T r l i 1).value ≡ T r l i → Held D (at D T) r l (T r l i 1).value k → Cell'' r l i k

  cell'' : (r l i k : ℕ) → Cell'' r l i k
  cell'' r l i k = go (row'' r l i)
    where
      go : Row'' r l i → Cell'' r l i k
      go (none a) = empty (a k)
      go (used n p) = by (F.cells r l (T r l i 1).value k)
        where
          by : (at D T r l (T r l i 1).value k ≡ nocell) ⊎ Held D (at D T) r l (T r l i 1).value k → Cell'' r l i k
          by (inl z) = empty (cc (z, p))
          by (inr h) = held n p h

  -- a held cell is what the entity's row at its class lends
  owned'' : (r l i k : ℕ) → at D T r l (T r l i 1).value ≡ T r l i → Held D (at D T) r l (T r l i 1).value k
      → T r l i k ≡ lends (at D T r (T r l i k).class (T r l i 1).value) (T r l i 1) k (T r l i k).class
  owned'' r l i k p h = cc (h.owned, p)

  -- the row found by a key that is not null is a row
  the_row : (r l v : ℕ) → (at D T r l v 1).value ≢ 0 → (j : ℕ) × (at D T r l v ≡ T r l j)
  the_row r l v n = go (sought (row_count D r) (T r l) v) (at-seek D T r l v)
    where
      go : {R : Row} → Sought (row_count D r) (T r l) v R → at D T r l v ≡ R → (j : ℕ) × (at D T r l v ≡ T r l j)
      go (there j _ _ q) p = (j, p ∙ q)
      go (nowhere _ q) p = absurd (n (rw (p ∙ q)))

  pub tidy-legal : Legal D T
  tidy-legal = record {
    outside = λ r l i k h. t.outside r l i h k;
    form-value = λ r l i k n. form-value r l i k n (cell'' r l i k);
    form-null = λ r l i k z. form-null r l i k (cell'' r l i k);
    form-tc = λ r l i k n. form-tc r l i k n (cell'' r l i k);
    entity-key = λ r l i k n. key-some r l i k n (row'' r l i);
    entity-class = λ r l i k n. entity-class r l i k n (cell'' r l i k);
    one-row = λ r l i j n e. (t.neat r l).unique i j (inside' r l i n) (inside' r l j (λ z. n (e ∙ z))) n e;
    one_value = λ r l m i j k n e f. one_value r l m i j k n e f (cell'' r l i k) (cell'' r m j k);
    borrow = λ r l i k n m. borrow r l i k n m (cell'' r l i k);
    reference = λ r l i k f n. reference r l i k f n (cell'' r l i k);
    one-entity = λ r l i k j m f n _ e e'. one-entity r l i k j m f n e e' (cell'' r l i k);
  }
    where
      form-value : (r l i k : ℕ) → (T r l i k).value ≢ 0 → Cell'' r l i k → in_range D r k (T r l i k).class ≡ true
      form-value r l i k n (empty z) = absurd (n (nocell-value z))
      form-value r l i k n (held _ p h) = cc (h.range, p)

      form-null : (r l i k : ℕ) → Cell'' r l i k → (in_range D r k (T r l i k).class ≡ true) ⊎ ((T r l i k).class ≡ 255)
      form-null r l i k (empty z) = inr (nocell-class z)
      form-null r l i k (held _ p h) = inl (cc (h.range, p))

      form-tc : (r l i k : ℕ) → (T r l i k).class ≢ 255 → Cell'' r l i k → over D l (T r l i k).class ≡ true
      form-tc r l i k n (empty z) = absurd (n (nocell-class z))
      form-tc r l i k n (held _ p h) = cc (h.below, p)

      key-some : (r l i k : ℕ) → T r l i k ≢ nocell → Row'' r l i → ((T r l i 1).value ≢ 0) × ((T r l i 1).class ≢ 255)
      key-some r l i k n (none a) = absurd (n (a k))
      key-some r l i k n (used m p) = (m, λ e. no-level L (cc (p, e)) (L.within l (at D T r l (T r l i 1).value 1).class (key_below F r l (T r l i 1).value (λ z. m (cc (p, z))))).1)

      entity-class : (r l i k : ℕ) → (T r l i k).class ≢ 255 → Cell'' r l i k → over D (T r l i k).class (T r l i 1).class ≡ true
      entity-class r l i k n (empty z) = absurd (n (nocell-class z))
      entity-class r l i k n (held _ p h) = cc (h.over-key, p)

      one_value : (r l m i j k : ℕ) → (T r l i 1).value ≢ 0 → T r l i 1 ≡ T r m j 1 → (T r l i k).class ≡ (T r m j k).class → Cell'' r l i k → Cell'' r m j k → (T r l i k).value ≡ (T r m j k).value
      one_value r l m i j k n e f (empty z) (empty z') = value_of (z ∙ sym z')
      one_value r l m i j k n e f (empty z) (held _ p h) = absurd (no-level L (sym f ∙ nocell-class z) (L.within m (T r m j k).class (cc (h.below, p))).1)
      one_value r l m i j k n e f (held _ p h) (empty z) = absurd (no-level L (f ∙ nocell-class z) (L.within l (T r l i k).class (cc (h.below, p))).1)
      one_value r l m i j k n e f (held _ p h) (held _ p' h') = value_of {x = T r l i k} {y = T r m j k} (cc (owned'' r l i k p h, owned'' r m j k p' h', e, f))

      borrow : (r l i k : ℕ) → (T r l i k).value ≢ 0 → (T r l i k).class ≢ l → Cell'' r l i k → (j : ℕ) × (T r (T r l i k).class j 1 ≡ T r l i 1) × (T r (T r l i k).class j k ≡ T r l i k)
      borrow r l i k n m (empty z) = absurd (n (nocell-value z))
      borrow r l i k n m (held some p h) = go (decide (and_r (same-r (at D T r d v 1) (T r l i 1)) (eqb-r (at D T r d v k).class d)))
        where
          d : ℕ
          d = (T r l i k).class

          v : ℕ
          v = (T r l i 1).value

          go : ((at D T r d v 1 ≡ T r l i 1) × ((at D T r d v k).class ≡ d)) ⊎ ((at D T r d v 1 ≡ T r l i 1) × ((at D T r d v k).class ≡ d) → ⊥) → (j : ℕ) × (T r d j 1 ≡ T r l i 1) × (T r d j k ≡ T r l i k)
          go (inr o) = absurd (n (value_of (owned'' r l i k p h ∙ lends-no (at D T r d v) (T r l i 1) k d (λ x y. o (x, y)))))
          go (inl o) = (w.0, cc (o.0, w.1), cc (w.1, owned'' r l i k p h, lends-yes (at D T r d v) (T r l i 1) k d o.0 o.1))
            where
              w : (j : ℕ) × (at D T r d v ≡ T r d j)
              w = the_row r d v (λ z. some (cc (o.0, z)))

      name : (r l i k : ℕ) → k ≡ foreign_of D r → (T r l i k).value ≢ 0 → at D T r l (T r l i 1).value ≡ T r l i → Named D (at D T) r l (T r l i 1).value k
      name r l i k f n p = F.refs r l (T r l i 1).value k f (λ z. n (cc (z, p)))

      reference : (r l i k : ℕ) → k ≡ foreign_of D r → (T r l i k).value ≢ 0 → Cell'' r l i k
          → (j : ℕ) × ((T (refers_of D r) l j 1).value ≡ (T r l i k).value) × (over D (T r l i k).class (T (refers_of D r) l j 1).class ≡ true)
      reference r l i k f n (empty z) = absurd (n (nocell-value z))
      reference r l i k f n (held some p h) = (w.0, cc (w.1, there'), cc (w.1, one', key_below F (refers_of D r) (T r l i k).class (T r l i k).value (λ z. n (cc (z, one', there')))))
        where
          there' : (at D T (refers_of D r) l (T r l i k).value 1).value ≡ (T r l i k).value
          there' = cc ((name r l i k f n p).there, p)

          one' : at D T (refers_of D r) (T r l i k).class (T r l i k).value 1 ≡ at D T (refers_of D r) l (T r l i k).value 1
          one' = cc ((name r l i k f n p).one, p)

          w : (j : ℕ) × (at D T (refers_of D r) l (T r l i k).value ≡ T (refers_of D r) l j)
          w = the_row (refers_of D r) l (T r l i k).value (λ z. n (sym there' ∙ z))

      one-entity : (r l i k j m : ℕ) → k ≡ foreign_of D r → (T r l i k).value ≢ 0
          → (T (refers_of D r) l j 1).value ≡ (T r l i k).value → (T (refers_of D r) (T r l i k).class m 1).value ≡ (T r l i k).value → Cell'' r l i k
          → T (refers_of D r) l j 1 ≡ T (refers_of D r) (T r l i k).class m 1
      one-entity r l i k j m f n e e' (empty z) = absurd (n (nocell-value z))
      one-entity r l i k j m f n e e' (held _ p h) =
          cc (p, e, e', (name r l i k f n p).one, found' (refers_of D r) l j (λ z. n (sym e ∙ z)), found' (refers_of D r) (T r l i k).class m (λ z. n (sym e' ∙ z)))
