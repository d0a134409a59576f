-- What a plan leaves at a level: the subject's own and those aside stay, those above change row by row.
-- Assumes nothing.
use Rattle.std.specs.Prelude.{if◌then◌else◌}
use Prim.Native.Nat.{ℕ, suc, ◌<◌}
use mathlib.Core.Path.{◌≡◌, refl, sym, ap, ap₂, ◌∙◌}
use mathlib.Core.Bool.{Bool, true, false, ◌&&◌}
use mathlib.Core.Logic.{◌≢◌}
use mathlib.Core.List.{List}
use native.Mathlib.Omega.{arith}
use lib.Dec.{eqb, ltb}
use lib.ListN.{get_or}
use borrow.Author.Tests.{eq-eqb, ne_eqb, lt-ltb, ltb-true, ltb-false, eqb-true, eqb-false}
use Rattle.bounded.proofs.Cases.{cases, clash, and-false-right}
use Rattle.bounded.proofs.First.{first_holds}
use Rattle.bounded.proofs.Reflection.{is_false, of-true, bool-r, and_r, ltb-r}
use Rattle.model.specs.declared.Description.{Description}
use Rattle.model.specs.Description.{between, over, row_count, column_count, foreign_of, refers_of}
use Rattle.model.specs.Tables.{Row, nocell, same, used, Level, State, Tables, rows_of, place, seek, at}
use Rattle.model.specs.Effect.{Above, changed, gone_at, reach, applied}
use Rattle.model.specs.Run.{left}
use Rattle.model.proofs.Sound.{between-r, some_of, Relation, sound-r, relation-of, relation-r}
use Rattle.theory.specs.Laws.{Laws}
use Rattle.theory.proofs.Described.{sound-laws}
use Rattle.theory.proofs.Order.{reach-local}
use Rattle.theory.proofs.Fine.{no-level}
use Rattle.theory.proofs.Seek.{Sought, there, nowhere, sought}
use Rattle.theory.proofs.Reach.{carry_own, carry-above, carry-aside, Side, at_c, over-c, off-c, side}
use Rattle.cells.proofs.Changes.{level-path}
use Rattle.above.specs.declared.plan.Plan.{Plan}
use Rattle.above.specs.Facts.{chosen_at, above_of, carried, touched_by, turned_by, turned, row_after, with_rows, gone_by, row_unnamed, with_referrers, given_by, Working, Planned}
use Rattle.above.proofs.Referred.{unlike, done-named}
use Rattle.above.proofs.Taken.{foreign-small}
use Rattle.above.proofs.Taken.{given-chosen, given-gone, turns, foreign-small}

at_same : (d : Description) (S S' : State) (m : ℕ) → S m ≡ S' m → (s v : ℕ) → at d (rows_of S) s m v ≡ at d (rows_of S') s m v
unfolding at
at_same d S S' m e s v = ap (λ (B : Level). seek (row_count d s) (B.rows s) v) e

-- ---- one level

module _ (d : Description) (c r : ℕ) (P : Plan) where
  -- the subject's own level stays
  pub carried-own : (S : State) → carried d c r P S c ≡ S c
  unfolding carried left applied
  carried-own S = level-path (λ s i k. ap (λ (R : Row). R k) (carry_own d (at d (rows_of S)) c (S c).rows (above_of d c r P (S c).rows) (rows_of S) s i))

  pub off : (S : State) (l : ℕ) → l ≢ c → (over d l c ≡ true → ⊥) → carried d c r P S l ≡ S l
  unfolding carried left applied
  off S l n o = level-path (λ s i k. ap (λ (R : Row). R k) (carry-aside d (at d (rows_of S)) c (S c).rows (above_of d c r P (S c).rows) (rows_of S) s l i n o))

  -- a level that does not dominate it stays
  pub carried-aside : (S : State) (l : ℕ) → l ≢ c → over d l c ≡ false → carried d c r P S l ≡ S l
  carried-aside S l n o = off S l n (λ t. clash t o)

  -- a level above is reached cell for cell
  pub carried-cell : (S : State) (l : ℕ) → l ≢ c → over d l c ≡ true → (s i k : ℕ)
      → (carried d c r P S l).rows s i k ≡ reach d (at d (rows_of S)) c (above_of d c r P (S c).rows) s l ((S l).rows s i) k
  unfolding carried left applied
  carried-cell S l n o s i k = ap (λ (R : Row). R k) (carry-above d (at d (rows_of S)) c (S c).rows (above_of d c r P (S c).rows) (rows_of S) s l i n o)

  -- what is left at a level depends on that level and on the subject's
  pub carried-local : (S S' : State) (l : ℕ) → S c ≡ S' c → S l ≡ S' l → carried d c r P S l ≡ carried d c r P S' l
  carried-local S S' l p q = go (side d c l)
    where
      cells : l ≢ c → over d l c ≡ true → (s i k : ℕ) → (carried d c r P S l).rows s i k ≡ (carried d c r P S' l).rows s i k
      cells n o s i k =
          carried-cell S l n o s i k
          ∙ reach-local d (at d (rows_of S)) (at d (rows_of S')) c l (at_same d S S' c p) (at_same d S S' l q) (above_of d c r P (S c).rows) s ((S l).rows s i) k
          ∙ ap₂ (λ (A B : Level). reach d (at d (rows_of S')) c (above_of d c r P A.rows) s l (B.rows s i) k) p q
          ∙ sym (carried-cell S' l n o s i k)

      go : Side d c l → carried d c r P S l ≡ carried d c r P S' l
      go (at_c e) = rw e (carried-own S ∙ p ∙ sym (carried-own S'))
      go (over-c n o) = level-path (cells n o)
      go (off-c n o) = off S l n o ∙ q ∙ sym (off S' l n o)

-- ---- a level above

-- a chosen key stands at its place
record ChosenKey (n : ℕ) (chosen : List Bool) (B : ℕ → Row) (v : ℕ) : Type 0 where
  row : place n B v < n
  set : get_or chosen (place n B v) false ≡ true
  key : (B (place n B v) 1).value ≡ v

chosen_at_lem : (n : ℕ) (chosen : List Bool) (B : ℕ → Row) (v : ℕ) → chosen_at n chosen B v ≡ true → ChosenKey n chosen B v
unfolding chosen_at place
chosen_at_lem n chosen B v e =
    let both = of-true (and_r (ltb-r (place n B v) n) (bool-r (get_or chosen (place n B v) false))) e in
    record { row = both.0; set = both.1; key = eqb-true _ _ (first_holds n (λ i. eqb (B i 1).value v) both.0) }

both : (g : Bool) (a b c : ℕ) → a ≡ b → (g && (eqb a c && eqb b c)) ≡ (g && eqb b c)
both g a b c q = rw q (cases (eqb b c) (λ t. rw t) (λ t. rw t))

neither : (g : Bool) (a b c : ℕ) → a ≢ b → (g && (eqb a c && eqb b c)) ≡ false
neither g a b c n =
    cases (eqb a c)
    (λ t. let w = ne_eqb b c (λ e. n (eqb-true a c t ∙ sym e)) in rw (t, w) (and-false-right g false refl))
    (λ t. rw t (and-false-right g false refl))

module _ (d : Description) (r c : ℕ) (P : Plan) (S : State) (W : Working d r c S) (Q : Planned d r c P ((S c).rows r)) where
  abbrev T : Tables
  T = at d (rows_of S)

  abbrev E : Above
  E = above_of d c r P (S c).rows

  abbrev chosen : ℕ → Bool
  chosen v = chosen_at (row_count d r) P.chosen ((S c).rows r) v

  L : Laws d
  L = sound-laws d W.sound-is

  relation : Relation d r
  relation = relation-of d (of-true (sound-r d) W.sound-is) r W.relation

  foreign-few : foreign_of d r < 9
  foreign-few = foreign-small d W.sound-is r W.relation

  -- a relation does not refer to itself
  pub not-self : refers_of d r ≢ r
  not-self = unlike d W.sound-is r relation.keyed

  chosen-some : (v : ℕ) → chosen v ≡ true → v ≢ 0
  chosen-some v e z = let m = chosen_at_lem (row_count d r) P.chosen ((S c).rows r) v e in Q.real (place (row_count d r) ((S c).rows r) v) m.row m.set (m.key ∙ z)

  module _ (l : ℕ) where
    gone-is : (v s : ℕ) → gone_at d T c E l v s ≡ (eqb s r && gone_by d r P c S l v)
    unfolding gone_at above_of gone_by at
    gone-is v s =
        cases (eqb s r)
        (λ t. rw (eqb-true s r t, eq-eqb r r refl)
        (cases P.gone (λ g. cases (chosen v) (λ m. rw (g, m)) (λ m. rw (g, m))) (λ g. rw g)))
        (λ t. rw t)

    gone-unchosen : (v : ℕ) → chosen v ≡ false → gone_by d r P c S l v ≡ false
    unfolding gone_by
    gone-unchosen v m = cases P.gone (λ g. rw (g, m)) (λ g. rw g)

    -- no null names a row
    gone-null : gone_by d r P c S l 0 ≡ false
    gone-null = gone-unchosen 0 (is_false (bool-r (chosen 0)) (λ m. chosen-some 0 m refl))

    -- so no row of it loses a reference
    gone-self : (v : ℕ) → gone_at d T c E l v (refers_of d r) ≡ false
    gone-self v = rw (gone-is v (refers_of d r), ne_eqb (refers_of d r) r not-self)

    -- ---- a row of the relation

    reach-unchosen : (R : Row) (k : ℕ) → chosen (R 1).value ≡ false → reach d T c E r l R k ≡ R k
    unfolding reach above_of changed
    reach-unchosen R k m =
        rw (gone-is (R 1).value r, eq-eqb r r refl, gone-unchosen (R 1).value m, gone-self (R k).value, m)
        (cases (eqb (R k).class c && same (R 1) (T r c (R 1).value 1)) (λ t. rw t) (λ t. rw t (cases (eqb k (foreign_of d r)) (λ u. rw u) (λ u. rw u))))

    module _ (i : ℕ) (h : i < row_count d r) (k : ℕ) (least : 0 < k) where
      abbrev R : Row
      R = (S l).rows r i

      abbrev v : ℕ
      v = (R 1).value

      abbrev own : Row
      own = (S c).rows r (place (row_count d r) ((S c).rows r) v)

      here : v ≢ 0 → T r l v ≡ R
      unfolding at
      here nz = go (sought (row_count d r) ((S l).rows r) v)
        where
          go : {R' : Row} → Sought (row_count d r) ((S l).rows r) v R' → R' ≡ R
          go (there j g e q) = q ∙ ap ((S l).rows r) (W.one-row r l j i (λ z. nz (sym e ∙ z)) e)
          go (nowhere f _) = absurd (f i h refl)

      module _ (m : chosen v ≡ true) where
        known : ChosenKey (row_count d r) P.chosen ((S c).rows r) v
        known = chosen_at_lem (row_count d r) P.chosen ((S c).rows r) v m

        there-own : T r c v ≡ own
        unfolding at seek
        there-own = rw (lt-ltb _ _ known.row)

        gone-chosen : gone_at d T c E l v r ≡ (P.gone && (eqb (own 1).class c && eqb (R 1).class c))
        unfolding gone_by
        gone-chosen = rw (gone-is v r, eq-eqb r r refl, m, there-own, here (chosen-some v m))

        same-own : same (R 1) (T r c v 1) ≡ eqb (R 1).class (own 1).class
        unfolding same
        same-own = rw (there-own, known.key, eq-eqb v v refl)

        reach-touched : (own 1).class ≡ (R 1).class → reach d T c E r l R k ≡ (if P.gone && eqb (R 1).class c then nocell else turned (given_by d r P c S l).changes c k (R k))
        unfolding reach above_of turned turned_by
        reach-touched q =
            rw (gone-chosen, both P.gone (own 1).class (R 1).class c q, same-own, eq-eqb (R 1).class (own 1).class (sym q), eq-eqb r r refl, m, gone-self (R k).value)
            (cases (P.gone && eqb (R 1).class c)
            (λ t. rw t)
            (λ t. rw t
            (cases (eqb (R k).class c)
            (λ u. rw u (turns d r c l P S Q foreign-few k least (R k)))
            (λ u. rw u (cases (eqb k (foreign_of d r)) (λ w. rw w) (λ w. rw w))))))

        reach-apart : (own 1).class ≢ (R 1).class → reach d T c E r l R k ≡ R k
        unfolding reach
        reach-apart q =
            rw (gone-chosen, neither P.gone (own 1).class (R 1).class c q, same-own, ne_eqb (R 1).class (own 1).class (λ e. q (sym e)), gone-self (R k).value)
            (cases (eqb (R k).class c)
            (λ u. rw u (cases (eqb k (foreign_of d r)) (λ w. rw w) (λ w. rw w)))
            (λ u. rw u (cases (eqb k (foreign_of d r)) (λ w. rw w) (λ w. rw w))))

      after_is : row_after (row_count d r) (given_by d r P c S l) c ((S c).rows r) R k
          ≡ (if touched_by (row_count d r) P.chosen ((S c).rows r) R then (if P.gone && eqb (R 1).class c then nocell else turned (given_by d r P c S l).changes c k (R k)) else R k)
      unfolding row_after
      after_is =
          ap₂ (λ (x : List Bool) (g : Bool). if touched_by (row_count d r) x ((S c).rows r) R then (if g && eqb (R 1).class c then nocell else turned (given_by d r P c S l).changes c k (R k)) else R k)
          (given-chosen d r c l P S Q foreign-few) (given-gone d r c l P S Q foreign-few)

      row-own : reach d T c E r l R k ≡ row_after (row_count d r) (given_by d r P c S l) c ((S c).rows r) R k
      unfolding touched_by used
      row-own =
          cases (eqb v 0)
          (λ t. rw (after_is, t) (reach-unchosen R k (is_false (bool-r (chosen v)) (λ m. chosen-some v m (eqb-true v 0 t)))))
          (λ t. cases (chosen v)
          (λ m. cases (eqb (own 1).class (R 1).class)
          (λ u. rw (after_is, t, m, u) (reach-touched m (eqb-true _ _ u)))
          (λ u. rw (after_is, t, m, u) (reach-apart m (eqb-false _ _ u))))
          (λ m. rw (after_is, t, m) (reach-unchosen R k m)))

    -- ---- a row of another relation

    module _ (s : ℕ) (other : s ≢ r) (R : Row) (k : ℕ) where
      abbrev mine : Bool
      mine = eqb (R k).class c && same (R 1) (T s c (R 1).value 1)

      row-referrer : refers_of d s ≡ r → reach d T c E s l R k ≡ row_unnamed d r P c S l s R k
      unfolding reach above_of changed row_unnamed
      row-referrer e =
          rw (gone-is (R 1).value s, ne_eqb s r other, gone-is (R k).value (refers_of d s), eq-eqb (refers_of d s) r e)
          (cases mine (λ t. rw t (cases (eqb k (foreign_of d s)) (λ w. rw w) (λ w. rw w))) (λ t. rw t))

      row-else : refers_of d s ≢ r → reach d T c E s l R k ≡ R k
      unfolding reach above_of changed
      row-else e =
          rw (gone-is (R 1).value s, ne_eqb s r other, gone-is (R k).value (refers_of d s), ne_eqb (refers_of d s) r e)
          (cases mine (λ t. rw t) (λ t. rw t (cases (eqb k (foreign_of d s)) (λ w. rw w) (λ w. rw w))))

    -- ---- a cell that is not there

    pub reach-nothing : (s : ℕ) (R : Row) (k : ℕ) → R k ≡ nocell → reach d T c E s l R k ≡ nocell
    unfolding reach
    reach-nothing s R k e =
        rw (gone-is (R k).value (refers_of d s), e, gone-null, ne_eqb 255 c (λ q. no-level L (sym q) W.level), and-false-right (eqb (refers_of d s) r) false refl, and-false-right (eqb k (foreign_of d s)) false refl)
        (cases (gone_at d T c E l (R 1).value s) (λ t. rw t) (λ t. rw t))

    nothing : (s i k : ℕ) → (ltb i (row_count d s) && between 1 (column_count d s) k) ≡ false → (S l).rows s i k ≡ nocell
    nothing s i k e =
        cases (ltb i (row_count d s)) (λ t. W.beyond s l i k (rw t at e)) (λ t. W.outside s l i k (ltb-false _ _ t))

    -- ---- the level

    abbrev Referred : Level
    Referred = with_referrers (suc d.relations) d r P c S l (S l)

    -- what refers to a relation is one
    referrer-few : (s : ℕ) → refers_of d s ≡ r → s < suc d.relations
    unfolding refers_of
    referrer-few s e =
        let few = (of-true (relation-r d s) (some_of d d.refers s (λ z. omega (arith, (of-true (relation-r d r) W.relation).0)))).1 in
        omega arith

    cell_other : (s i k : ℕ) → s ≢ r → reach d T c E s l ((S l).rows s i) k ≡ Referred.rows s i k
    unfolding with_referrers
    cell_other s i k n =
        cases (eqb (refers_of d s) r)
        (λ t. let q = eqb-true (refers_of d s) r t in
        cases (ltb i (row_count d s) && between 1 (column_count d s) k)
        (λ u. rw (lt-ltb _ _ (referrer-few s q), t, u) (row-referrer s n ((S l).rows s i) k q))
        (λ u. rw (lt-ltb _ _ (referrer-few s q), t, u) (reach-nothing s ((S l).rows s i) k (nothing s i k u) ∙ sym (nothing s i k u))))
        (λ t. rw (t, and-false-right (ltb s (suc d.relations)) false refl) (row-else s n ((S l).rows s i) k (eqb-false _ _ t)))

    cell-unreferred : (i k : ℕ) → Referred.rows r i k ≡ (S l).rows r i k
    cell-unreferred i k = ap (λ (F : ℕ → Row). F i k) (done-named d r P c S l (suc d.relations) (S l) not-self)

    abbrev Reached : Level
    Reached = with_rows (row_count d r) (column_count d r) r (λ i. row_after (row_count d r) (given_by d r P c S l) c ((S c).rows r) ((S l).rows r i)) Referred

    cell-own : (i k : ℕ) → reach d T c E r l ((S l).rows r i) k ≡ Reached.rows r i k
    unfolding with_rows
    cell-own i k =
        cases (ltb i (row_count d r))
        (λ t. cases (between 1 (column_count d r) k)
        (λ u. rw (eq-eqb r r refl, t, u) (row-own i (ltb-true _ _ t) k (of-true (between-r 1 (column_count d r) k) u).0))
        (λ u. rw (eq-eqb r r refl, t, u) (out i k (W.beyond r l i k u))))
        (λ t. rw (eq-eqb r r refl, t) (out i k (W.outside r l i k (ltb-false _ _ t))))
      where
        out : (i k : ℕ) → (S l).rows r i k ≡ nocell → reach d T c E r l ((S l).rows r i) k ≡ Referred.rows r i k
        out i k e = reach-nothing r ((S l).rows r i) k e ∙ sym (cell-unreferred i k ∙ e)

    cell-reached : (s i k : ℕ) → reach d T c E s l ((S l).rows s i) k ≡ Reached.rows s i k
    unfolding with_rows
    cell-reached s i k =
        cases (eqb r s)
        (λ t. rw (← (eqb-true r s t)) (cell-own i k))
        (λ t. rw t (cell_other s i k (λ e. eqb-false r s t (sym e))))

-- a level above: rows of the relation as they are afterwards, and in the relations that refer to it the references
pub carried-above : (d : Description) (r c l : ℕ) (P : Plan) (S : State) → l ≢ c → over d l c ≡ true → Working d r c S → Planned d r c P ((S c).rows r)
    → carried d c r P S l
    ≡ with_rows (row_count d r) (column_count d r) r (λ i. row_after (row_count d r) (given_by d r P c S l) c ((S c).rows r) ((S l).rows r i)) (with_referrers (suc d.relations) d r P c S l (S l))
carried-above d r c l P S n o W Q = level-path (λ s i k. carried-cell d c r P S l n o s i k ∙ cell-reached d r c P S W Q l s i k)
