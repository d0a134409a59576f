-- What a plan leaves above is what an effect leaves there; what stands is enough for the plan; and which rows are chosen.
-- Assumes nothing.
use Rattle.std.specs.Prelude.{if◌then◌else◌}
use Prim.Native.Nat.{ℕ, zero, suc, ◌+◌, ◌≤◌, ◌<◌}
use mathlib.Core.Path.{◌≡◌, refl, sym, ap, ◌∙◌}
use mathlib.Core.Bool.{Bool, true, false, not, ◌&&◌, or-false}
use mathlib.Core.Logic.{◌≢◌}
use mathlib.Core.List.{List}
use mathlib.Core.Option.{some}
use native.Mathlib.Omega.{arith}
use lib.Dec.{eqb, ltb}
use lib.ListN.{get_or}
use borrow.Author.Tests.{eq-eqb, ne_eqb, ltb-true, ltb-false, eqb-true, eqb-false}
use Rattle.bounded.specs.Bounded.{any_below, count_below}
use Rattle.bounded.proofs.Cases.{cases, clash, or_true_right}
use Rattle.bounded.proofs.Count.{count-cong}
use Rattle.bounded.proofs.Reflection.{of-true}
use Rattle.model.specs.declared.Description.{Description}
use Rattle.model.specs.Description.{between, over, is_column, row_count, column_count, refers_of}
use Rattle.model.specs.Tables.{Cell, Row, Tables, norow, used, Level, State, rows_of, place, seek, at}
use Rattle.model.specs.Buffers.{holding, inside, state_of}
use Rattle.model.specs.Legal.{Legal}
use Rattle.model.specs.Conditions.{met}
use Rattle.model.specs.Effect.{Rows, Effect, Above, gone_at, reach}
use Rattle.model.specs.Run.{left}
use Rattle.model.proofs.Border.{state-framed}
use Rattle.theory.proofs.Described.{sound-laws}
use Rattle.theory.proofs.Judged.{judged}
use Rattle.theory.proofs.Reach.{Side, at_c, over-c, off-c, side}
use Rattle.theory.proofs.Seen.{seen-own}
use Rattle.cells.specs.Changed.{change_level}
use Rattle.cells.proofs.Cells.{state-path}
use Rattle.cells.proofs.Changes.{change-here, change-other}
use Rattle.conditions.specs.Facts.{ChosenBy, ChosenAt, Counted, met_at}
use Rattle.above.specs.declared.plan.Plan.{Plan}
use Rattle.above.specs.Facts.{chosen_at, above_of, carried, with_rows, Working}
use Rattle.above.proofs.Carried.{carried-own, carried-aside, carried-cell}
use Rattle.change.specs.Facts.{Standing, sight, met_rows}
use Rattle.chosen.specs.Choosing.{Chosen, row_chosen}
use Rattle.change.proofs.Answers.{left-own, left_over, left_other}
use Rattle.change.proofs.Known.{own-over}

-- ---- two effects above

-- where the same is deleted and cells of class c change alike, a row is reached alike
pub reach-as : (d : Description) (W : Tables) (c : ℕ) (E A : Above) → ((s v : ℕ) → E.gone s v ≡ A.gone s v) → (s l : ℕ) (R : Row) (k : ℕ)
    → ((R k).class ≡ c → E.change s (R 1).value k ≡ A.change s (R 1).value k) → reach d W c E s l R k ≡ reach d W c A s l R k
unfolding reach gone_at
reach-as d W c E A g s l R k h =
    rw (g s (R 1).value, g (refers_of d s) (R k).value)
    (cases (eqb (R k).class c) (λ t. rw (t, h (eqb-true _ _ t))) (λ t. rw t))

-- the rows at c written over what a plan left above
module _ (d : Description) (c r : ℕ) (P : Plan) (S : State) (E : Effect) (G : Level → Level)
    (gone : (s v : ℕ) → (above_of d c r P (S c).rows).gone s v ≡ E.above.gone s v)
    (change : (s l i k : ℕ) → ((S l).rows s i k).class ≡ c → (above_of d c r P (S c).rows).change s ((S l).rows s i 1).value k ≡ E.above.change s ((S l).rows s i 1).value k)
    (own : (s i k : ℕ) → (G (S c)).rows s i k ≡ E.own s i k) where
  at-cell : (l s i k : ℕ) → Side d c l → (change_level c G (carried d c r P S) l).rows s i k ≡ (left d c (some E) S l).rows s i k
  at-cell l s i k (at_c e) =
      rw e
      (ap (λ (B : Level). B.rows s i k) (change-here c G (carried d c r P S) ∙ ap G (carried-own d c r P S))
      ∙ own s i k ∙ sym (left-own d c E S s i k))
  at-cell l s i k (over-c n o) =
      ap (λ (B : Level). B.rows s i k) (change-other c l G (carried d c r P S) (λ e. n (sym e)))
      ∙ carried-cell d c r P S l n o s i k
      ∙ reach-as d (at d (rows_of S)) c (above_of d c r P (S c).rows) E.above gone s l ((S l).rows s i) k (change s l i k)
      ∙ sym (left_over d c E S s l i k n o)
  at-cell l s i k (off-c n o) =
      let f = cases (over d l c) (λ t. absurd (o t)) (λ t. t) in
      ap (λ (B : Level). B.rows s i k) (change-other c l G (carried d c r P S) (λ e. n (sym e)) ∙ carried-aside d c r P S l n f)
      ∙ sym (left_other d c E S s l i k n f)

  left-planned : change_level c G (carried d c r P S) ≡ left d c (some E) S
  left-planned = state-path (λ l s i k. at-cell l s i k (side d c l))

-- ---- the rows at c

module _ (n m r : ℕ) (chosen : List Bool) (F : Row → Row) (B : Level) (M : Chosen n (B.rows r) chosen)
    (past : (i k : ℕ) → between 1 m k ≡ false → F (B.rows r i) k ≡ B.rows r i k) where
  abbrev after : ℕ → Row
  after i = row_chosen chosen F i (B.rows r i)

  row_as : (i k : ℕ) → after i k ≡ (if get_or chosen i false then F (B.rows r i) else B.rows r i) k
  unfolding row_chosen
  row_as i k = refl

  beyond : (i k : ℕ) → between 1 m k ≡ false → (b : Bool) → B.rows r i k ≡ (if b then F (B.rows r i) else B.rows r i) k
  beyond i k e true = sym (past i k e)
  beyond i k e false = refl

  own-chosen : (s i k : ℕ) → (with_rows n m r after B).rows s i k ≡ (if eqb s r && get_or chosen i false then F (B.rows s i) else B.rows s i) k
  unfolding with_rows
  own-chosen s i k =
      cases (eqb r s)
      (λ t. rw (← (eqb-true r s t), eq-eqb r r refl)
      (cases (ltb i n)
      (λ u. cases (between 1 m k) (λ w. rw (u, w) (row_as i k)) (λ w. rw (u, w) (beyond i k w (get_or chosen i false))))
      (λ u. rw (u, M.rest i (ltb-false i n u)))))
      (λ t. rw (t, ne_eqb s r (λ e. eqb-false r s t (sym e))))

-- where a plan is carried out above and then the chosen rows at c are done, the tables are what an effect leaves that does the same
module _ (d : Description) (c r m : ℕ) (P : Plan) (S : State) (F : Row → Row) (E : Effect)
    (gone : (s v : ℕ) → (above_of d c r P (S c).rows).gone s v ≡ E.above.gone s v)
    (change : (s l i k : ℕ) → ((S l).rows s i k).class ≡ c → (above_of d c r P (S c).rows).change s ((S l).rows s i 1).value k ≡ E.above.change s ((S l).rows s i 1).value k)
    (own : (s i k : ℕ) → (if eqb s r && get_or P.chosen i false then F ((S c).rows s i) else (S c).rows s i) k ≡ E.own s i k)
    (M : Chosen (row_count d r) ((S c).rows r) P.chosen) (past : (i k : ℕ) → between 1 m k ≡ false → F ((S c).rows r i) k ≡ (S c).rows r i k) where
  abbrev done : Rows → Level → Level
  done B = with_rows (row_count d r) m r (λ i. row_chosen P.chosen F i (B r i))

  pub left-chosen : {S' S'' : State} → S' ≡ carried d c r P S → S'' ≡ change_level c (done (S' c).rows) S' → S'' ≡ left d c (some E) S
  left-chosen p q =
      q
      ∙ ap (λ (T : State). change_level c (done (T c).rows) T) p
      ∙ ap (λ (D : Level). change_level c (done D.rows) (carried d c r P S)) (carried-own d c r P S)
      ∙ left-planned d c r P S E (done (S c).rows) gone change
      (λ s i k. own-chosen (row_count d r) m r P.chosen F (S c) M past s i k ∙ own s i k)

-- ---- which rows are chosen

module _ (d : Description) (conditions : List ℕ) where
  -- a row that is not in use doesn't meet them
  pub unmet : (R : Row) → (R 1).value ≡ 0 → met d conditions R ≡ false
  unfolding met used
  unmet R e = rw e

  met-real : (R : Row) → met d conditions R ≡ true → (R 1).value ≢ 0
  met-real R t e = clash t (unmet R e)

  module _ (n : ℕ) (B : ℕ → Row) (chosen : List Bool) (M : ChosenBy n (met_at d conditions B) chosen) where
    chosen-met : (i : ℕ) → i < n → get_or chosen i false ≡ met d conditions (B i)
    unfolding met_at
    chosen-met i h = M.right i h

    -- the row with a key
    pub sought-met : (v : ℕ) → chosen_at n chosen B v ≡ met d conditions (seek n B v)
    unfolding chosen_at seek
    sought-met v =
        cases (ltb (place n B v) n)
        (λ t. rw t (chosen-met (place n B v) (ltb-true _ _ t)))
        (λ t. rw t (sym (unmet norow refl)))

    pub met-chosen : Chosen n B chosen
    met-chosen = record { long = M.long; real = λ i h t. met-real (B i) (sym (chosen-met i h) ∙ t); rest = M.rest }

    -- any row, where those past the last are empty
    pub row-met : ((i : ℕ) → n ≤ i → (B i 1).value ≡ 0) → (i : ℕ) → get_or chosen i false ≡ met d conditions (B i)
    row-met out i = cases (ltb i n) (λ t. chosen-met i (ltb-true i n t)) (λ t. let h = ltb-false i n t in M.rest i h ∙ sym (unmet (B i) (out i h)))

    pub count-met : {k : ℕ} → Counted n chosen k → k ≡ count_below n (λ i. met d conditions (B i))
    count-met C = C.is ∙ count-cong n _ _ (λ i h. chosen-met i h)

-- some number below n is counted where there is one
pub any-counted : (n : ℕ) (p : ℕ → Bool) → not (any_below n p) ≡ eqb (count_below n p) 0
unfolding any_below count_below
any-counted zero p = refl
any-counted (suc n) p =
    cases (p n)
    (λ t. rw (t, ne_eqb (count_below n p + 1) 0 (λ e. omega arith), or_true_right (any_below n p) true refl))
    (λ t. rw (t, or-false (any_below n p)) (let z : count_below n p ≡ count_below n p + 0 = omega arith in any-counted n p ∙ ap (λ (k : ℕ). eqb k 0) z))

-- ---- what stands is enough for a plan

module _ {d : Description} {r c : ℕ} {vs cs : List ℕ} (K : Standing d r c vs cs) where
  abbrev T : State
  T = state_of d (holding vs cs)

  legal-of : Legal d (rows_of T)
  legal-of = of-true (judged d (sound-laws d K.sound-is) T (state-framed d (holding vs cs))) K.legal-is

  out : (s l i k : ℕ) → between 1 (column_count d s) k ≡ false → inside d s l i k ≡ false
  unfolding inside is_column
  out s l i k e = rw e

  -- the subject sees its own level as it is
  pub own-seen : (sight d c vs cs c).rows ≡ (T c).rows
  own-seen = seen-own d T c (own-over K)

  -- ---- the rows that meet the conditions

  module _ (conditions : List ℕ) {chosen : List Bool} (M : ChosenAt d r c conditions vs cs chosen) where
    pub counted : {rows count : ℕ} → rows ≡ row_count d r → Counted rows chosen count → count ≡ met_rows d c r conditions (sight d c vs cs)
    unfolding met_rows
    counted e C = rw own-seen (count-met d conditions (row_count d r) ((T c).rows r) chosen M (rw e at C))

    empty-past : (i : ℕ) → row_count d r ≤ i → ((T c).rows r i 1).value ≡ 0
    empty-past i h = ap (λ (x : Cell). x.value) (legal-of.outside r c i 1 h)

    pub own-met : (s i : ℕ) → (eqb s r && get_or chosen i false) ≡ (eqb s r && met d conditions ((T c).rows s i))
    own-met s i =
        cases (eqb s r)
        (λ t. rw (eqb-true s r t, eq-eqb r r refl) (row-met d conditions (row_count d r) ((T c).rows r) chosen M empty-past i))
        (λ t. rw t)

    pub above-met : (s v : ℕ) → (eqb s r && chosen_at (row_count d s) chosen ((T c).rows s) v) ≡ (eqb s r && met d conditions (seek (row_count d s) ((T c).rows s) v))
    above-met s v =
        cases (eqb s r)
        (λ t. rw (eqb-true s r t, eq-eqb r r refl) (sought-met d conditions (row_count d r) ((T c).rows r) chosen M v))
        (λ t. rw t)

  pub working : Working d r c T
  working =
      record {
        sound-is = K.sound-is;
        relation = K.relation;
        level = K.level;
        outside = λ s l i k h. legal-of.outside s l i k h;
        beyond = λ s l i k e. (state-framed d (holding vs cs)).outside s l i k (out s l i k e);
        one-row = λ s l i j n e. legal-of.one-row s l i j n e;
      }
