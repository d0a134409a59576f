-- The rows of a relation written one after another, each from what it was; and what each way through a row leaves.
-- Assumes nothing.
use Prim.Native.Nat.{ℕ, zero, suc, pred, ◌+◌, ◌≤◌}
use mathlib.Core.Path.{◌≡◌, refl, sym, ap, ap₂, ◌∙◌, fun_ext}
use mathlib.Core.Bool.{Bool, true, false, ◌&&◌}
use mathlib.Core.Logic.{◌≢◌}
use mathlib.Core.List.{List}
use native.Mathlib.Omega.{arith}
use lib.Dec.{eqb}
use lib.ListN.{get_or}
use borrow.Author.Tests.{eq-eqb, ne_eqb, eqb-true}
use Rattle.bounded.proofs.Cases.{cases}
use Rattle.bounded.proofs.Reflection.{is_false}
use Rattle.model.specs.declared.Description.{Description}
use Rattle.model.specs.Tables.{Cell, Row, cell, norow, Level, State}
use Rattle.model.specs.Buffers.{holding, state_of}
use Rattle.model.proofs.Sound.{between-r}
use Rattle.cells.specs.Changed.{value_at, class_at, with_cell, with_row, change_level}
use Rattle.cells.proofs.Cells.{state-cell}
use Rattle.cells.proofs.Changes.{level-path, change-same, change-here, change-other}
use Rattle.cells.proofs.Written.{row-next, row_same}
use Rattle.above.specs.declared.plan.Plan.{Plan}
use Rattle.above.specs.declared.plan.Change.{Change}
use Rattle.above.specs.declared.plan.Change.TheVariants as Changes
use Rattle.above.specs.Facts.{OneRow, touched_by, becomes, turned_by, turned, row_after, with_rows}
use Rattle.above.proofs.Turns.{rows_more, rows-still}

-- ---- a cell

cell_same : (r i k : ℕ) (x : Cell) (B : Level) → x ≡ B.rows r i k → with_cell r i k x B ≡ B
unfolding with_cell
cell_same r i k x B e =
    level-path (λ s j m.
    cases (eqb r s)
    (λ t. cases (eqb i j)
    (λ u. cases (eqb k m)
    (λ w. rw (t, u, w, ← (eqb-true r s t), ← (eqb-true i j u), ← (eqb-true k m w)) e)
    (λ w. rw (t, u, w)))
    (λ u. rw (t, u)))
    (λ t. rw t))

module _ (h : Change) (c : ℕ) where
  turned_same : (x : Cell) → (x.class ≡ c → ⊥) → turned_by h c x ≡ x
  unfolding turned_by
  turned_same x n = rw (ne_eqb x.class c n)

  turned-own : (x : Cell) → x.class ≡ c → turned_by h c x ≡ becomes h x
  unfolding turned_by
  turned-own x e = rw (eq-eqb x.class c e)

  module _ (d : Description) (vs cs : List ℕ) (r l i k : ℕ) where
    abbrev S : State
    S = state_of d (holding vs cs)

    -- a cell of another class stays
    pub cell-kept : (class_at d cs r l i k ≡ c → ⊥) → S ≡ change_level l (with_cell r i k (turned_by h c ((S l).rows r i k))) S
    cell-kept n =
        change-same l _ S (cell_same r i k _ (S l) (turned_same ((S l).rows r i k) (λ e. n (sym (ap (λ (x : Cell). x.class) (state-cell d vs cs r l i k)) ∙ e))))

    -- a cell of the subject's class is stored as it becomes
    pub cell-turned : {v : ℕ} {y : Cell} {S' : State} → v ≡ value_at d vs r l i k → class_at d cs r l i k ≡ c → y ≡ becomes h (cell v c)
        → S' ≡ change_level l (with_cell r i k y) S → S' ≡ change_level l (with_cell r i k (turned_by h c ((S l).rows r i k))) S
    cell-turned {v} e q p g =
        g ∙ ap (λ (x : Cell). change_level l (with_cell r i k x) S) (p ∙ sym (rw (state-cell d vs cs r l i k, ← e, q) (turned-own (cell v c) refl)))

-- ---- a row

-- the next cell of a row is not yet changed
row_still : (k r i : ℕ) (R : Row) (B : Level) → 1 ≤ k → (with_row (pred k) r i R B).rows r i k ≡ B.rows r i k
unfolding with_row
row_still zero r i R B h = absurd (omega arith)
row_still (suc n) r i R B h = rw (eq-eqb r r refl, eq-eqb i i refl, is_false (between-r 1 n (suc n)) (λ g. omega (arith, g.1)))

-- a row's cells, each written as g makes it of what it was
cells-more : (l k r i : ℕ) (g : ℕ → Cell → Cell) (S₀ : State) {S S' : State} → 1 ≤ k → S ≡ change_level l (with_row (pred k) r i (λ m. g m ((S₀ l).rows r i m))) S₀
    → S' ≡ change_level l (with_cell r i k (g k ((S l).rows r i k))) S → S' ≡ change_level l (with_row k r i (λ m. g m ((S₀ l).rows r i m))) S₀
cells-more l k r i g S₀ {S} {S'} h p q =
    row-next l k r i (λ m. g m ((S₀ l).rows r i m)) S₀ h p (q ∙ ap (λ (x : Cell). change_level l (with_cell r i k (g k x)) S) still)
  where
    still : (S l).rows r i k ≡ (S₀ l).rows r i k
    still =
        ap (λ (T : State). (T l).rows r i k) p
        ∙ ap (λ (B : Level). B.rows r i k) (change-here l (with_row (pred k) r i (λ m. g m ((S₀ l).rows r i m))) S₀)
        ∙ row_still k r i (λ m. g m ((S₀ l).rows r i m)) (S₀ l) h

pub cells-turned : (d : Description) (vs cs : List ℕ) (l k r i : ℕ) (hs : List Change) (c : ℕ) {S S' : State} → 1 ≤ k
    → S ≡ change_level l (with_row (pred k) r i (λ m. turned hs c m ((state_of d (holding vs cs) l).rows r i m))) (state_of d (holding vs cs))
    → S' ≡ change_level l (with_cell r i k (turned_by (get_or hs k Changes.Keep) c ((S l).rows r i k))) S
    → S' ≡ change_level l (with_row k r i (λ m. turned hs c m ((state_of d (holding vs cs) l).rows r i m))) (state_of d (holding vs cs))
unfolding turned
cells-turned d vs cs l k r i hs c h p q = cells-more l k r i (turned hs c) (state_of d (holding vs cs)) h p q

module _ (d : Description) (vs cs : List ℕ) (n m r l i : ℕ) (P : Plan) (c : ℕ) where
  abbrev T : State
  T = state_of d (holding vs cs)

  abbrev after : Row
  after = row_after n P c ((T c).rows r) ((T l).rows r i)

  abbrev touched : Bool
  touched = touched_by n P.chosen ((T c).rows r) ((T l).rows r i)

  -- a row whose entity isn't touched stays
  pub row_kept : {b : Bool} → b ≡ touched → b ≡ false → T ≡ change_level l (with_row m r i after) T
  unfolding row_after
  row_kept e f = let t = sym e ∙ f in change-same l (with_row m r i after) T (row_same m r i after (T l) (λ k. rw t))

  module _ {b : Bool} (e : b ≡ touched) (f : b ≡ true) {q : ℕ} (is : q ≡ class_at d cs r l i 1) where
    is-touched : touched ≡ true
    is-touched = sym e ∙ f

    class-is : ((T l).rows r i 1).class ≡ q
    class-is = ap (λ (x : Cell). x.class) (state-cell d vs cs r l i 1) ∙ sym is

    -- the subject's own row is emptied
    pub row-emptied : P.gone ≡ true → eqb q c ≡ true → {S : State} → S ≡ change_level l (with_row m r i norow) T → S ≡ change_level l (with_row m r i after) T
    unfolding row_after
    row-emptied g p h = h ∙ ap (λ (R : Row). change_level l (with_row m r i R) T) (fun_ext (λ k. rw (is-touched, g, class-is, p)))

    -- the cells of any other row change
    pub row-turned : (P.gone && eqb q c) ≡ false → {S : State} → S ≡ change_level l (with_row m r i (λ k. turned P.changes c k ((T l).rows r i k))) T → S ≡ change_level l (with_row m r i after) T
    unfolding row_after
    row-turned g h = h ∙ ap (λ (R : Row). change_level l (with_row m r i R) T) (fun_ext (λ k. rw (is-touched, class-is, g)))

-- ---- the rows, one after another

-- rows of tables that hold the same at a level have the same keys there
one_kept : (d : Description) (vs cs vs' cs' : List ℕ) (r l : ℕ) → state_of d (holding vs' cs') l ≡ state_of d (holding vs cs) l → OneRow d vs r l → OneRow d vs' r l
one_kept d vs cs vs' cs' r l e o =
    record { one = λ i j h g n q. o.one i j h g (λ z. n (same_key i ∙ z)) (sym (same_key i) ∙ q ∙ same_key j) }
  where
    same_key : (i : ℕ) → value_at d vs' r l i 1 ≡ value_at d vs r l i 1
    same_key i =
        ap (λ (x : Cell). x.value) (sym (state-cell d vs' cs' r l i 1))
        ∙ ap (λ (B : Level). (B.rows r i 1).value) e
        ∙ ap (λ (x : Cell). x.value) (state-cell d vs cs r l i 1)

-- the rows, each as the plan leaves it, where the subject's level is another
module _ (d : Description) (vs cs : List ℕ) (l n m r N c : ℕ) (P : Plan) where
  abbrev S₀ : State
  S₀ = state_of d (holding vs cs)

  abbrev planned : ℕ → Row
  planned i = row_after N P c ((S₀ c).rows r) ((S₀ l).rows r i)

  -- the subject's level stays
  other : {S : State} → S ≡ change_level l (with_rows n m r planned) S₀ → l ≢ c → S c ≡ S₀ c
  other p o = ap (λ (T : State). T c) p ∙ change-other l c (with_rows n m r planned) S₀ o

  pub rows-after : {S S' : State} → l ≢ c → S ≡ change_level l (with_rows n m r planned) S₀
      → S' ≡ change_level l (with_row m r n (row_after N P c ((S c).rows r) ((S l).rows r n))) S → S' ≡ change_level l (with_rows (n + 1) m r planned) S₀
  rows-after o p q =
      let B = ap (λ (L : Level). L.rows r) (other p o) in
      rows_more l n m r planned S₀ p q (ap₂ (row_after N P c) B (rows-still l n m r planned S₀ p))

  -- no key stands in two rows of the subject's level, as before
  pub rows-one : (vs' cs' : List ℕ) → l ≢ c → state_of d (holding vs' cs') ≡ change_level l (with_rows n m r planned) S₀ → OneRow d vs r c → OneRow d vs' r c
  rows-one vs' cs' o p u = one_kept d vs cs vs' cs' r c (other p o) u
