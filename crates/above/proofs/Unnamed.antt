-- References to rows that are emptied: the row of a key in the tables, what a row becomes, and that what it is told by stays.
-- Assumes nothing.
use Rattle.std.specs.Prelude.{if◌then◌else◌}
use Prim.Native.Nat.{ℕ, ◌+◌, ◌≤◌, ◌<◌}
use mathlib.Core.Path.{◌≡◌, refl, sym, ap, ◌∙◌, fun_ext}
use mathlib.Core.Bool.{Bool, true, false, not, ◌&&◌}
use mathlib.Core.Logic.{◌≢◌}
use mathlib.Core.List.{List}
use native.Mathlib.Omega.{arith}
use lib.Dec.{eqb}
use lib.ListN.{get_or}
use borrow.Author.Tests.{eq-eqb, ne_eqb, eqb-true}
use Rattle.bounded.proofs.Cases.{cases, and-false-right}
use Rattle.bounded.proofs.Reflection.{is_true, of-false, eqb-r}
use Rattle.model.specs.declared.Description.{Description}
use Rattle.model.specs.Description.{between, row_count, foreign_of}
use Rattle.model.specs.Tables.{Cell, Row, cell, same, Level, State, rows_of, seek, at}
use Rattle.model.specs.Buffers.{holding, inside, state_of}
use Rattle.model.proofs.Border.{inside-shown}
use Rattle.model.proofs.Sound.{between-r}
use Rattle.cells.specs.Changed.{value_at, class_at, key_place, with_value, with_row, change_level}
use Rattle.cells.proofs.Counts.{foreign-is}
use Rattle.cells.proofs.Cells.{state-cell}
use Rattle.cells.proofs.Changes.{level-path, change-as, change-same, change-here, change-other}
use Rattle.cells.proofs.Written.{row_same}
use Rattle.cells.proofs.Sought.{key-is, at_row, at-nowhere}
use Rattle.above.specs.declared.plan.Plan.{Plan}
use Rattle.above.specs.Facts.{Referring, gone_by, row_unnamed, with_rows}
use Rattle.above.proofs.Turns.{rows_next, rows_more}

eqb_swap : (m n : ℕ) → eqb m n ≡ eqb n m
eqb_swap m n = cases (eqb n m) (λ t. eq-eqb m n (sym (eqb-true n m t)) ∙ sym t) (λ t. ne_eqb m n (λ e. of-false (eqb-r n m) t (sym e)) ∙ sym t)

-- ---- the row of a key

module _ (d : Description) (vs cs : List ℕ) (r l v : ℕ) where
  own-none : (x : Cell) → row_count d r ≤ key_place d vs r l v → same x (at d (rows_of (state_of d (holding vs cs))) r l v 1) ≡ (eqb x.value 0 && eqb x.class 255)
  unfolding same
  own-none x h = rw (at-nowhere d vs cs r l v refl h)

  own-some : (x : Cell) {i : ℕ} → i ≡ key_place d vs r l v → i < row_count d r → x.value ≡ v → same x (at d (rows_of (state_of d (holding vs cs))) r l v 1) ≡ eqb x.class (class_at d cs r l i 1)
  unfolding same
  own-some x {i} e h q = rw (at_row d vs cs r l v e h, state-cell, key-is d vs cs r l v e h, eq-eqb x.value v q)

-- whether the entity of row i at m has a row at l, from its key, its key class and the row that has the key at l
module _ (d : Description) (vs cs : List ℕ) (r l m i : ℕ) {key class own : ℕ}
    (k : key ≡ value_at d vs r m i 1) (o : class ≡ class_at d cs r m i 1) (f : own ≡ key_place d vs r l key) where
  abbrev owned : Bool
  owned = same ((state_of d (holding vs cs) m).rows r i 1) (at d (rows_of (state_of d (holding vs cs))) r l ((state_of d (holding vs cs) m).rows r i 1).value 1)

  pub owns-null : row_count d r ≤ own → key ≡ 0 → eqb class 255 ≡ owned
  owns-null h z = let g : row_count d r ≤ key_place d vs r l key = omega arith in rw (state-cell, ← k, ← o, own-none d vs cs r l key (cell key class) g, eq-eqb key 0 z)

  pub owns_not : row_count d r ≤ own → key ≢ 0 → eqb key 0 ≡ owned
  owns_not h z = let g : row_count d r ≤ key_place d vs r l key = omega arith in rw (state-cell, ← k, ← o, own-none d vs cs r l key (cell key class) g, ne_eqb key 0 z)

  pub owns-some : own < row_count d r → {x : ℕ} → x ≡ class_at d cs r l own 1 → eqb x class ≡ owned
  owns-some h {x} e = rw (state-cell, ← k, ← o, own-some d vs cs r l key (cell key class) f (omega arith) refl, ← e) (eqb_swap x class)

-- whether the cell in column k has class c, and more is known
module _ (d : Description) (vs cs : List ℕ) (r l i k c : ℕ) (b : Bool) {x : ℕ} (o : x ≡ class_at d cs r l i k) where
  pub kept-not : x ≢ c → false ≡ (eqb ((state_of d (holding vs cs) l).rows r i k).class c && b)
  kept-not n = rw (state-cell, ← o, ne_eqb x c n)

  pub kept-held : x ≡ c → {a : Bool} → a ≡ b → a ≡ (eqb ((state_of d (holding vs cs) l).rows r i k).class c && b)
  kept-held e q = rw (state-cell, ← o, eq-eqb x c e) q

-- ---- a row that refers

-- what is read is what the tables hold
pub value_cell : (d : Description) (vs cs : List ℕ) (r l i k : ℕ) → value_at d vs r l i k ≡ ((state_of d (holding vs cs) l).rows r i k).value
value_cell d vs cs r l i k = rw state-cell

-- the reference of a row
pub inside-foreign : (d : Description) (r s c l i : ℕ) → Referring d r s c l → i < row_count d s → inside d s l i (get_or d.foreign s 0) ≡ true
inside-foreign d r s c l i h g =
    rw (foreign-is d s h.named)
    (inside-shown d s l i (foreign_of d s) (record { relation = h.level.relation; level = h.level.level; row = g; least = h.foreign; column = h.column }))

module _ (d : Description) (r : ℕ) (P : Plan) (c : ℕ) (S : State) (l s : ℕ) where
  -- a row is told by its own cells and by who holds it
  abbrev held : Row → ℕ → Bool
  held R k = eqb (R k).class c && same (R 1) (at d (rows_of S) s c (R 1).value 1)

  unnamed-stays : (R : Row) (k : ℕ) → (k ≡ foreign_of d s → (not (held R k) && gone_by d r P c S l (R k).value) ≡ false) → row_unnamed d r P c S l s R k ≡ R k
  unfolding row_unnamed
  unnamed-stays R k h = cases (eqb k (foreign_of d s)) (λ t. rw (t, h (eqb-true k (foreign_of d s) t))) (λ t. rw t)

  pub unnamed-keeps : (R : Row) (k : ℕ) → gone_by d r P c S l (R k).value ≡ false → row_unnamed d r P c S l s R k ≡ R k
  unnamed-keeps R k g = unnamed-stays R k (λ _. and-false-right (not (held R k)) (gone_by d r P c S l (R k).value) g)

  unnamed-falls : (R : Row) → held R (foreign_of d s) ≡ false → gone_by d r P c S l (R (foreign_of d s)).value ≡ true → row_unnamed d r P c S l s R (foreign_of d s) ≡ cell 0 (R (foreign_of d s)).class
  unfolding row_unnamed
  unnamed-falls R h g = rw (eq-eqb (foreign_of d s) (foreign_of d s) refl, h, g)

  module _ (n i : ℕ) {column key : ℕ} (f : column ≡ foreign_of d s) (v : key ≡ ((S l).rows s i column).value) where
    abbrev R : Row
    R = (S l).rows s i

    abbrev After : State
    After = change_level l (with_row n s i (row_unnamed d r P c S l s R)) S

    stays : ((k : ℕ) → k ≡ foreign_of d s → (not (held R k) && gone_by d r P c S l (R k).value) ≡ false) → S ≡ After
    stays h = change-same l (with_row n s i (row_unnamed d r P c S l s R)) S (row_same n s i (row_unnamed d r P c S l s R) (S l) (λ k. unnamed-stays R k (h k)))

    -- the named row isn't emptied
    pub reference-stays : {b : Bool} → b ≡ gone_by d r P c S l key → b ≡ false → S ≡ After
    reference-stays e q = stays (λ k w. and-false-right (not (held R k)) (gone_by d r P c S l (R k).value) (rw (w, ← f, ← v, ← e) q))

    -- the subject holds it
    pub reference-kept : {b : Bool} → b ≡ held R column → b ≡ true → S ≡ After
    reference-kept {b} e q = stays (λ k w. let h : held R k ≡ true = rw (w, ← f) (sym e ∙ q) in rw h)

    pub reference-falls : {b a : Bool} → b ≡ gone_by d r P c S l key → b ≡ true → a ≡ held R column → a ≡ false → 0 < foreign_of d s → foreign_of d s ≤ n → {S' : State} → S' ≡ change_level l (with_value s i column 0) S → S' ≡ After
    unfolding with_value with_row
    reference-falls {b} {a} e q g p least most t =
        t ∙ change-as l (with_value s i column 0) (with_row n s i (row_unnamed d r P c S l s R)) S (level-path at-cell)
      where
        here : (k : ℕ) → (if eqb column k then cell 0 (R k).class else R k) ≡ (if between 1 n k then row_unnamed d r P c S l s R k else R k)
        here k =
            cases (eqb column k)
            (λ w. rw (w, ← (eqb-true column k w), f, is_true (between-r 1 n (foreign_of d s)) (least, most))
            (sym (unnamed-falls R (rw (← f) (sym g ∙ p)) (rw (← f, ← v) (sym e ∙ q)))))
            (λ w. rw w
            (cases (between 1 n k)
            (λ u. rw u (sym (unnamed-stays R k (λ x. absurd (of-false (eqb-r column k) w (f ∙ sym x))))))
            (λ u. rw u)))

        at-cell : (z j k : ℕ) → (with_value s i column 0 (S l)).rows z j k ≡ (with_row n s i (row_unnamed d r P c S l s R) (S l)).rows z j k
        at-cell z j k =
            cases (eqb s z)
            (λ t. cases (eqb i j) (λ u. rw (t, u, ← (eqb-true s z t), ← (eqb-true i j u)) (here k)) (λ u. rw (t, u)))
            (λ t. rw t)

-- ---- what a row is told by stays

at_same : (d : Description) (S S' : State) (r l v : ℕ) → (S l).rows r ≡ (S' l).rows r → at d (rows_of S) r l v ≡ at d (rows_of S') r l v
unfolding at
at_same d S S' r l v e = ap (λ (B : ℕ → Row). seek (row_count d r) B v) e

-- two tables have one level at c, and the same rows of relation r at l
pub record Alike (r c l : ℕ) (S S' : State) : Type 0 where
  pub own : S c ≡ S' c
  pub named : (S l).rows r ≡ (S' l).rows r

module _ (d : Description) (r : ℕ) (P : Plan) (c : ℕ) (S S' : State) (l s : ℕ) (h : Alike r c l S S') where
  own-rows : (z : ℕ) → (S c).rows z ≡ (S' c).rows z
  own-rows z = ap (λ (B : Level). B.rows z) h.own

  gone_same : (v : ℕ) → gone_by d r P c S l v ≡ gone_by d r P c S' l v
  unfolding gone_by
  gone_same v = rw (at_same d S S' r c v (own-rows r), at_same d S S' r l v h.named, own-rows r)

  pub unnamed-same : (R R' : Row) → R ≡ R' → row_unnamed d r P c S l s R ≡ row_unnamed d r P c S' l s R'
  unfolding row_unnamed
  unnamed-same R R' e = rw e (fun_ext (λ k. rw (gone_same (R' k).value, at_same d S S' s c (R' 1).value (own-rows s))))

-- the rows of relation s, one after the other
module _ (d : Description) (r : ℕ) (P : Plan) (c : ℕ) (S₀ : State) (l s : ℕ) where
  -- each row as it becomes
  abbrev rows_unnamed : ℕ → Row
  rows_unnamed i = row_unnamed d r P c S₀ l s ((S₀ l).rows s i)

  rows_other : (n m z : ℕ) (F : ℕ → Row) (B : Level) → s ≢ z → (with_rows n m s F B).rows z ≡ B.rows z
  unfolding with_rows
  rows_other n m z F B h = fun_ext (λ i. fun_ext (λ k. rw (ne_eqb s z h)))

  pub references-more : (n m : ℕ) → l ≢ c → r < s → {S S' : State} → S ≡ change_level l (with_rows n m s rows_unnamed) S₀
      → S' ≡ change_level l (with_row m s n (row_unnamed d r P c S l s ((S l).rows s n))) S → S' ≡ change_level l (with_rows (n + 1) m s rows_unnamed) S₀
  references-more n m apart lower {S} p q =
      rows_more l n m s rows_unnamed S₀ p q
      (unnamed-same d r P c S S₀ l s
      (record { own = rw p (change-other l c (with_rows n m s rows_unnamed) S₀ apart); named = rw (p, change-here) (rows_other n m r rows_unnamed (S₀ l) (λ e. omega arith)) })
      ((S l).rows s n) ((S₀ l).rows s n) (rw (p, change-here) (rows_next n m s rows_unnamed (S₀ l))))
