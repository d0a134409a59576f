-- The judge says yes to exactly the legal tables, of those that are empty outside the description's limits.
-- Assumes nothing.
use Prim.Native.Nat.{ℕ, zero, suc, ◌<◌, ◌≤◌, suc-le-suc}
use mathlib.Core.Bool.{true, false}
use mathlib.Core.Logic.{◌≢◌, ◌⊎◌, inl, inr}
use mathlib.Core.Path.{◌≡◌, refl, ◌∙◌}
use native.Mathlib.Nat.{lt_irrefl, not-le_of_lt, le_of_suc-le-suc}
use native.Mathlib.Omega.{arith}
use Rattle.bounded.specs.Tests.{Reflects}
use Rattle.bounded.proofs.Cases.{cases, clash}
use Rattle.bounded.proofs.Reflection.{is_true, of-true, decide, bool-r, not-r, and_r, or_r, if-r, all-r, reflects-as, eqb-r, ltb-r}
use Rattle.model.specs.Buffers.{inside}
use Rattle.model.specs.Description.{over, column_count, row_count, foreign_of, refers_of, in_range}
use Rattle.model.specs.Judge.{fits, cell_right, reference_right, row_right, legal}
use Rattle.model.specs.Legal.{Legal, LegalState}
use Rattle.model.specs.Tables.{Cell, nocell, Row, empty_row, used, State, Tables, rows_of, place, at, lends}
use Rattle.model.proofs.Border.{Inside, inside-says, inside-shown, Framed}
use Rattle.model.specs.declared.Description.{Description}
use Rattle.theory.specs.Laws.{Laws}
use Rattle.theory.proofs.Described.{row-relation, range-r, range-level}
use Rattle.model.proofs.Sound.{relation-r, column-r}
use Rattle.theory.proofs.Fine.{cell-path, same-r, Held, Named, Absent, Keyed, nocell-value, no-level}
use Rattle.theory.proofs.Seek.{Sought, there, nowhere, sought, Neat, seek_is, place_is, at-seek}
use Rattle.theory.proofs.Lift.{Tidy}
use Rattle.theory.proofs.Legality.{legal-tidy, tidy-legal}

module _ (D : Description) (T : Tables) where
  abbrev CellRight : ℕ → ℕ → Row → ℕ → Type 0
  CellRight r l R k =
      (R k ≡ nocell)
      ⊎ (((in_range D r k (R k).class ≡ true) × ((over D l (R k).class ≡ true) × (over D (R k).class (R 1).class ≡ true)))
      × (R k ≡ lends (at D T r (R k).class (R 1).value) (R 1) k (R k).class))

  abbrev ReferenceRight : ℕ → ℕ → Cell → Type 0
  ReferenceRight r l x =
      (x.value ≡ 0)
      ⊎ (((at D T (refers_of D r) l x.value 1).value ≡ x.value) × (at D T (refers_of D r) x.class x.value 1 ≡ at D T (refers_of D r) l x.value 1))

  abbrev RowRight : ℕ → ℕ → ℕ → Type 0
  RowRight r l i =
      (((T r l i 1).value ≢ 0) → (place (row_count D r) (T r l) (T r l i 1).value ≡ i) × (((k : ℕ) → k < column_count D r → CellRight r l (T r l i) (suc k)) × ReferenceRight r l (T r l i (foreign_of D r))))
      × ((((T r l i 1).value ≢ 0) → ⊥) → (k : ℕ) → k < column_count D r → T r l i (suc k) ≡ nocell)

  abbrev Judged : Type 0
  Judged = (r : ℕ) → r < D.relations → (l : ℕ) → l < D.levels → (i : ℕ) → i < row_count D (suc r) → RowRight (suc r) l i

  cell-r : (r l : ℕ) (R : Row) (k : ℕ) → Reflects (CellRight r l R k) (cell_right D T r l R k)
  unfolding cell_right fits
  cell-r r l R k = or_r (same-r (R k) nocell) (and_r (and_r (bool-r _) (and_r (bool-r _) (bool-r _))) (same-r (R k) _))

  reference-r : (r l : ℕ) (x : Cell) → Reflects (ReferenceRight r l x) (reference_right D T r l x)
  unfolding reference_right
  reference-r r l x = or_r (eqb-r x.value 0) (and_r (eqb-r _ x.value) (same-r _ _))

  row-r : (r l i : ℕ) → Reflects (RowRight r l i) (row_right D T r l i)
  unfolding row_right used empty_row
  row-r r l i =
      if-r (not-r (eqb-r (T r l i 1).value 0))
      (and_r (eqb-r (place (row_count D r) (T r l) (T r l i 1).value) i) (and_r (all-r (column_count D r) (λ k. cell-r r l (T r l i) (suc k))) (reference-r r l (T r l i (foreign_of D r)))))
      (all-r (column_count D r) (λ k. same-r (T r l i (suc k)) nocell))

legal-r : (D : Description) (S : State) → Reflects (Judged D (rows_of S)) (legal D S)
unfolding legal
legal-r D S = all-r D.relations (λ r. all-r D.levels (λ l. all-r (row_count D (suc r)) (λ i. row-r D (rows_of S) (suc r) l i)))

module _ (D : Description) (S : State) (f : Framed D S) (j : Judged D (rows_of S)) where
  abbrev T : Tables
  T = rows_of S

  off : (r l i k : ℕ) → (Inside D r l i k → ⊥) → T r l i k ≡ nocell
  off r l i k n = f.outside r l i k (cases (inside D r l i k) (λ e. absurd (n (inside-says D r l i k e))) (λ e. e))

  record Right (r l i : ℕ) : Type 0 where
    some : (T r l i 1).value ≢ 0
    first : place (row_count D r) (T r l) (T r l i 1).value ≡ i
    cells : (k : ℕ) → CellRight D T r l (T r l i) k
    reference : ReferenceRight D T r l (T r l i (foreign_of D r))

  -- every row is empty or right
  row? : (r l i : ℕ) → Absent (T r l i) ⊎ Right r l i
  row? zero l i = inl (λ k. off 0 l i k (λ h. lt_irrefl 0 (of-true (relation-r D 0) (row-relation D 0 i h.row)).0))
  row? (suc r) l i = go (decide (ltb-r r D.relations)) (decide (ltb-r l D.levels)) (decide (ltb-r i (row_count D (suc r)))) (decide (not-r (eqb-r (T (suc r) l i 1).value 0)))
    where
      columns : {P : ℕ → Type 0} → ((k : ℕ) → T (suc r) l i k ≡ nocell → P k) → ((k : ℕ) → k < column_count D (suc r) → P (suc k)) → (k : ℕ) → P k
      columns o h zero = o 0 (off (suc r) l i 0 (λ h. lt_irrefl 0 h.least))
      columns {P} o h (suc k) = by (decide (ltb-r k (column_count D (suc r))))
        where
          by : (k < column_count D (suc r)) ⊎ (k < column_count D (suc r) → ⊥) → P (suc k)
          by (inl b) = h k b
          by (inr n) = o (suc k) (off (suc r) l i (suc k) (λ h. n h.column))

      go : (r < D.relations) ⊎ (r < D.relations → ⊥) → (l < D.levels) ⊎ (l < D.levels → ⊥) → (i < row_count D (suc r)) ⊎ (i < row_count D (suc r) → ⊥)
          → ((T (suc r) l i 1).value ≢ 0) ⊎ (((T (suc r) l i 1).value ≢ 0) → ⊥) → Absent (T (suc r) l i) ⊎ Right (suc r) l i
      go (inr n) _ _ _ = inl (λ k. off (suc r) l i k (λ h. n (le_of_suc-le-suc h.relation)))
      go (inl a) (inr n) _ _ = inl (λ k. off (suc r) l i k (λ h. n h.level))
      go (inl a) (inl b) (inr n) _ = inl (λ k. off (suc r) l i k (λ h. n h.row))
      go (inl a) (inl b) (inl c) (inr n) = inl (columns (λ k z. z) ((j r a l b i c).1 n))
      go (inl a) (inl b) (inl c) (inl n) =
          inr (record { some = n; first = ((j r a l b i c).0 n).0; cells = columns (λ k z. inl z) ((j r a l b i c).0 n).1.0; reference = ((j r a l b i c).0 n).1.1 })

  judged-tidy : Tidy D T
  judged-tidy = record { neat = neat; outside = λ r l i h k. off r l i k (λ x. not-le_of_lt x.row h); fine = record { keyed = λ r l v. keyed r l v (found r l v); cells = λ r l v k. cells r l v k (found r l v); refs = λ r l v k e n. refs r l v k e n (found r l v) } }
    where
      right : (r l i : ℕ) → (T r l i 1).value ≢ 0 → Right r l i
      right r l i n = go (row? r l i)
        where
          go : Absent (T r l i) ⊎ Right r l i → Right r l i
          go (inl a) = absurd (n (nocell-value (a 1)))
          go (inr x) = x

      neat : (r l : ℕ) → Neat (row_count D r) (T r l)
      neat r l = record { unique = λ i j _ _ n e. cc ((right r l i n).first, (right r l j (λ z. n (e ∙ z))).first, e); clean = λ i _ z. clean i z (row? r l i) }
        where
          clean : (i : ℕ) → (T r l i 1).value ≡ 0 → Absent (T r l i) ⊎ Right r l i → Absent (T r l i)
          clean i z (inl a) = a
          clean i z (inr x) = absurd (x.some z)

      Found : (r l v : ℕ) → Type 0
      Found r l v = Absent (at D T r l v) ⊎ ((i : ℕ) × ((T r l i 1).value ≡ v) × (at D T r l v ≡ T r l i) × Right r l i)

      found : (r l v : ℕ) → Found r l v
      found r l v = go (sought (row_count D r) (T r l) v) (at-seek D T r l v)
        where
          go : {R : Row} → Sought (row_count D r) (T r l) v R → at D T r l v ≡ R → Found r l v
          go (nowhere _ q) p = inl (rw (p ∙ q) (λ k. refl))
          go (there i _ e q) p = by (row? r l i)
            where
              by : Absent (T r l i) ⊎ Right r l i → Found r l v
              by (inl a) = inl (rw (p ∙ q) a)
              by (inr x) = inr (i, e, p ∙ q, x)

      keyed : (r l v : ℕ) → Found r l v → Absent (at D T r l v) ⊎ Keyed (at D T r l v) v
      keyed r l v (inl a) = inl a
      keyed r l v (inr x) = inr (cc (x.1, x.2), λ z. x.3.some (x.1 ∙ z))

      cells : (r l v k : ℕ) → Found r l v → (at D T r l v k ≡ nocell) ⊎ Held D (at D T) r l v k
      cells r l v k (inl a) = inl (a k)
      cells r l v k (inr x) = go (x.3.cells k)
        where
          go : CellRight D T r l (T r l x.0) k → (at D T r l v k ≡ nocell) ⊎ Held D (at D T) r l v k
          go (inl z) = inl (cc (x.2, z))
          go (inr h) = inr (record { range = cc (x.2, h.0.0); below = cc (x.2, h.0.1.0); over-key = cc (x.2, h.0.1.1); owned = cc (x.2, x.1, h.1) })

      refs : (r l v k : ℕ) → k ≡ foreign_of D r → (at D T r l v k).value ≢ 0 → Found r l v → Named D (at D T) r l v k
      refs r l v k e n (inl a) = absurd (n (nocell-value (a k)))
      refs r l v k e n (inr x) = go x.3.reference
        where
          go : ReferenceRight D T r l (T r l x.0 (foreign_of D r)) → Named D (at D T) r l v k
          go (inl z) = absurd (n (cc (e, x.2, z)))
          go (inr h) = record { there = cc (e, x.2, h.0); one = cc (e, x.2, h.1) }

module _ (D : Description) (L : Laws D) (T : Tables) (t : Tidy D T) where
  tidy-judged : Judged D T
  tidy-judged r _ l _ i h = (
    λ n. (first n, (λ k _. cells (suc k) n (t.fine.cells (suc r) l (T (suc r) l i 1).value (suc k)), reference n (decide (eqb-r (T (suc r) l i (foreign_of D (suc r))).value 0)))),
    λ n k _. (t.neat (suc r) l).clean i h (null n (decide (eqb-r (T (suc r) l i 1).value 0))) (suc k),
  )
    where
      R : Row
      R = T (suc r) l i

      null : (((R 1).value ≢ 0) → ⊥) → ((R 1).value ≡ 0) ⊎ ((R 1).value ≢ 0) → (R 1).value ≡ 0
      null n (inl z) = z
      null n (inr m) = absurd (n m)

      found : (R 1).value ≢ 0 → at D T (suc r) l (R 1).value ≡ R
      found n = at-seek D T (suc r) l (R 1).value ∙ seek_is (row_count D (suc r)) (T (suc r) l) (t.neat (suc r) l) i (R 1).value h refl n

      first : (R 1).value ≢ 0 → place (row_count D (suc r)) (T (suc r) l) (R 1).value ≡ i
      first n = place_is (row_count D (suc r)) (T (suc r) l) (t.neat (suc r) l) i (R 1).value h refl n

      cells : (k : ℕ) → (R 1).value ≢ 0 → (at D T (suc r) l (R 1).value k ≡ nocell) ⊎ Held D (at D T) (suc r) l (R 1).value k → CellRight D T (suc r) l R k
      cells k n (inl z) = inl (cc (found n, z))
      cells k n (inr x) = inr ((cc (found n, x.range), (cc (found n, x.below), cc (found n, x.over-key))), cc (found n, x.owned))

      reference : (R 1).value ≢ 0 → ((R (foreign_of D (suc r))).value ≡ 0) ⊎ ((R (foreign_of D (suc r))).value ≢ 0) → ReferenceRight D T (suc r) l (R (foreign_of D (suc r)))
      reference n (inl z) = inl z
      reference n (inr m) = inr (cc (found n, name.there), cc (found n, name.one))
        where
          name : Named D (at D T) (suc r) l (R 1).value (foreign_of D (suc r))
          name = t.fine.refs (suc r) l (R 1).value (foreign_of D (suc r)) refl (λ z. m (cc (found n, z)))

-- legal tables are judged so, whatever lies outside
pub legal-judged : (d : Description) → Laws d → (S : State) → Tidy d (rows_of S) → legal d S ≡ true
legal-judged d L S t = is_true (legal-r d S) (tidy-judged d L (rows_of S) t)

-- the judge's yes is legality
pub judged : (d : Description) → Laws d → (S : State) → Framed d S → Reflects (Legal d (rows_of S)) (legal d S)
judged d L S f =
    reflects-as (λ j. tidy-legal d L (rows_of S) (judged-tidy d S f j)) (λ g. tidy-judged d L (rows_of S) (legal-tidy d L (rows_of S) g)) (legal-r d S)

-- legal tables are empty outside the limits
pub legal-framed : (d : Description) → Laws d → (S : State) → LegalState d S → Framed d S
legal-framed d L S g = record { outside = λ r l i k e. go r l i k e (decide (same-r ((S l).rows r i k) nocell)) (decide (eqb-r ((S l).rows r i k).value 0)) (decide (ltb-r i (row_count d r))) }
  where
    fits : (r l i k : ℕ) → inside d r l i k ≡ false → in_range d r k ((S l).rows r i k).class ≡ true → i < row_count d r → ⊥
    fits r l i k e h b = clash (inside-shown d r l i k (record { relation = suc-le-suc (of-true (relation-r d r) (row-relation d r i b)).1; level = (L.within l c tc).0; row = b; least = w.0; column = w.1 })) e
      where
        c : ℕ
        c = ((S l).rows r i k).class

        tc : over d l c ≡ true
        tc = g.form-tc r l i k (λ z. no-level L z (range-level d L r k c h))

        w : (0 < k) × (k ≤ column_count d r)
        w = of-true (column-r d r k) (of-true (range-r d r k c) h).0

    go : (r l i k : ℕ) → inside d r l i k ≡ false → ((S l).rows r i k ≡ nocell) ⊎ ((S l).rows r i k ≢ nocell) → (((S l).rows r i k).value ≡ 0) ⊎ (((S l).rows r i k).value ≢ 0)
        → (i < row_count d r) ⊎ (i < row_count d r → ⊥) → (S l).rows r i k ≡ nocell
    go r l i k e (inl z) _ _ = z
    go r l i k e (inr m) _ (inr b) = g.outside r l i k (omega arith)
    go r l i k e (inr m) (inr v) (inl b) = absurd (fits r l i k e (g.form-value r l i k v) b)
    go r l i k e (inr m) (inl z) (inl b) = null (g.form-null r l i k z)
      where
        null : (in_range d r k ((S l).rows r i k).class ≡ true) ⊎ (((S l).rows r i k).class ≡ 255) → (S l).rows r i k ≡ nocell
        null (inl h) = absurd (fits r l i k e h b)
        null (inr q) = cell-path z q
