-- A row written cell after cell, and what the rows of a level are to a search.
-- Assumes nothing.
use Rattle.std.specs.Prelude.{if◌then◌else◌}
use Prim.Native.Nat.{ℕ, zero, suc, pred, ◌+◌, ◌≤◌, ◌<◌}
use native.Mathlib.Numerals.{add-one}
use mathlib.Core.Path.{◌≡◌, refl, sym, ap, ◌∙◌, fun_ext}
use mathlib.Core.Bool.{Bool, true, false, ◌&&◌}
use mathlib.Core.List.{List, [], ◌∷◌}
use native.Mathlib.Omega.{arith}
use lib.Dec.{eqb, ltb}
use borrow.Author.Tests.{eq-eqb, ne_eqb, lt-ltb, le-ltb, eqb-true}
use Rattle.bounded.proofs.Cases.{cases, order}
use Rattle.bounded.proofs.Reflection.{is_true, is_false, of-true, of-false}
use Rattle.model.specs.declared.Description.{Description}
use Rattle.model.specs.Description.{between, row_count}
use Rattle.model.specs.Tables.{Row, nocell, Level, State}
use Rattle.model.proofs.Sound.{between-r}
use Rattle.cells.specs.Changed.{class_at, key_place, entity_place, with_cell, with_row, change_level, listed_row}
use Rattle.cells.proofs.Changes.{level-path, change-same, change-twice}

-- ---- a row, cell after cell

row-none : (r i : ℕ) (R : Row) (B : Level) → with_row 0 r i R B ≡ B
unfolding with_row
row-none r i R B =
    level-path (λ s j m.
    let none = is_false (between-r 1 0 m) (λ h. omega (arith, h.0, h.1)) in
    cases (eqb r s) (λ t. cases (eqb i j) (λ u. rw (t, u, none)) (λ u. rw (t, u))) (λ t. rw t))

-- a column that is not the next one is among the first n + 1 where it is among the first n
among_next : (n m : ℕ) → m < n + 1 → between 1 (n + 1) m ≡ between 1 n m
among_next n m h =
    cases (between 1 n m)
    (λ t. let g = of-true (between-r 1 n m) t in is_true (between-r 1 (n + 1) m) (g.0, omega (arith, g.1)) ∙ sym t)
    (λ t. is_false (between-r 1 (n + 1) m) (λ g. of-false (between-r 1 n m) t (g.0, omega (arith, h))) ∙ sym t)

row-turn : (n r i : ℕ) (R : Row) (B : Level) → with_cell r i (n + 1) (R (n + 1)) (with_row n r i R B) ≡ with_row (n + 1) r i R B
unfolding with_row with_cell
row-turn n r i R B =
    level-path (λ s j m.
    cases (eqb r s)
    (λ t. cases (eqb i j)
    (λ u. order m (n + 1)
    (λ h. rw (t, u, ne_eqb (n + 1) m (λ e. omega arith), among_next n m h))
    (λ e. rw (t, u, e, eq-eqb (n + 1) (n + 1) refl, is_true (between-r 1 (n + 1) (n + 1)) (omega arith, omega arith)))
    (λ h. rw (t, u, ne_eqb (n + 1) m (λ e. omega arith), is_false (between-r 1 n m) (λ g. omega (arith, g.1)), is_false (between-r 1 (n + 1) m) (λ g. omega (arith, g.1)))))
    (λ u. rw (t, u)))
    (λ t. rw t))

pub row-start : (l r i : ℕ) (R : Row) (S : State) → S ≡ change_level l (with_row 0 r i R) S
row-start l r i R S = change-same l (with_row 0 r i R) S (row-none r i R (S l))

pub row_more : (l n r i : ℕ) (R : Row) (S₀ : State) {S S' : State} → S ≡ change_level l (with_row n r i R) S₀ → S' ≡ change_level l (with_cell r i (n + 1) (R (n + 1))) S → S' ≡ change_level l (with_row (n + 1) r i R) S₀
row_more l n r i R S₀ p q =
    q ∙ (ap (change_level l (with_cell r i (n + 1) (R (n + 1)))) p
    ∙ (change-twice l (with_cell r i (n + 1) (R (n + 1))) (with_row n r i R) S₀ ∙ ap (λ (f : Level → Level). change_level l f S₀) (fun_ext (row-turn n r i R))))

-- the same, where the next column is counted from 1
pub row-next : (l k r i : ℕ) (R : Row) (S₀ : State) {S S' : State} → 1 ≤ k → S ≡ change_level l (with_row (pred k) r i R) S₀ → S' ≡ change_level l (with_cell r i k (R k)) S → S' ≡ change_level l (with_row k r i R) S₀
row-next l zero r i R S₀ h p q = absurd (omega arith)
row-next l (suc n) r i R S₀ h p q = rw (← add-one) (row_more l n r i R S₀ p (rw (← add-one) at q))

pub row-end : (l n m r i : ℕ) (R : Row) (S₀ : State) {S : State} → S ≡ change_level l (with_row m r i R) S₀ → m ≡ n → S ≡ change_level l (with_row n r i R) S₀
row-end l n m r i R S₀ {S} p e = rw e at p

-- two rows that agree on the columns are stored alike
rows_alike : (n r i : ℕ) (R Q : Row) → ((k : ℕ) → 0 < k → k ≤ n → R k ≡ Q k) → (B : Level) → with_row n r i R B ≡ with_row n r i Q B
unfolding with_row
rows_alike n r i R Q e B =
    level-path (λ s j m.
    cases (eqb r s)
    (λ t. cases (eqb i j)
    (λ u. cases (between 1 n m) (λ w. let g = of-true (between-r 1 n m) w in rw (t, u, w) (e m g.0 g.1)) (λ w. rw (t, u, w)))
    (λ u. rw (t, u)))
    (λ t. rw t))

pub row_as : (l n r i : ℕ) (R Q : Row) (S : State) → ((k : ℕ) → 0 < k → k ≤ n → R k ≡ Q k) → change_level l (with_row n r i R) S ≡ change_level l (with_row n r i Q) S
row_as l n r i R Q S e = ap (λ (f : Level → Level). change_level l f S) (fun_ext (rows_alike n r i R Q e))

-- a row stored as it was
pub row_same : (n r i : ℕ) (R : Row) (B : Level) → ((k : ℕ) → R k ≡ B.rows r i k) → with_row n r i R B ≡ B
unfolding with_row
row_same n r i R B e =
    level-path (λ s j k.
    cases (eqb r s)
    (λ t. cases (eqb i j)
    (λ u. cases (between 1 n k) (λ w. rw (t, u, w, ← (eqb-true r s t), ← (eqb-true i j u)) (e k)) (λ w. rw (t, u, w)))
    (λ u. rw (t, u)))
    (λ t. rw t))

-- nine nulls are an empty row
pub nulls-empty : (k : ℕ) → k ≤ 8 → listed_row (0 ∷ 0 ∷ 0 ∷ 0 ∷ 0 ∷ 0 ∷ 0 ∷ 0 ∷ 0 ∷ []) (255 ∷ 255 ∷ 255 ∷ 255 ∷ 255 ∷ 255 ∷ 255 ∷ 255 ∷ 255 ∷ []) k ≡ nocell
unfolding listed_row
nulls-empty zero h = refl
nulls-empty (suc zero) h = refl
nulls-empty (suc (suc zero)) h = refl
nulls-empty (suc (suc (suc zero))) h = refl
nulls-empty (suc (suc (suc (suc zero)))) h = refl
nulls-empty (suc (suc (suc (suc (suc zero))))) h = refl
nulls-empty (suc (suc (suc (suc (suc (suc zero)))))) h = refl
nulls-empty (suc (suc (suc (suc (suc (suc (suc zero))))))) h = refl
nulls-empty (suc (suc (suc (suc (suc (suc (suc (suc zero)))))))) h = refl
nulls-empty (suc (suc (suc (suc (suc (suc (suc (suc (suc k))))))))) h = absurd (omega arith)

-- ---- an entity's row, from the row that has the key

module _ (d : Description) (vs cs : List ℕ) (r l v c : ℕ) where
  pub entity-nowhere : row_count d r ≤ key_place d vs r l v → entity_place d vs cs r l v c ≡ row_count d r
  unfolding entity_place
  entity-nowhere h = rw (le-ltb (key_place d vs r l v) (row_count d r) h)

  pub entity-here : {i : ℕ} → key_place d vs r l v < row_count d r → i ≡ key_place d vs r l v → class_at d cs r l i 1 ≡ c → entity_place d vs cs r l v c ≡ key_place d vs r l v
  unfolding entity_place
  entity-here h e q = rw (lt-ltb (key_place d vs r l v) (row_count d r) h, eq-eqb (class_at d cs r l (key_place d vs r l v) 1) c (rw e at q))

  pub entity-other : {i : ℕ} → i ≡ key_place d vs r l v → (class_at d cs r l i 1 ≡ c → ⊥) → entity_place d vs cs r l v c ≡ row_count d r
  unfolding entity_place
  entity-other e n = rw (ne_eqb (class_at d cs r l (key_place d vs r l v) 1) c (rw e at n)) (rest (ltb (key_place d vs r l v) (row_count d r)))
    where
      rest : (b : Bool) → (if b && false then key_place d vs r l v else row_count d r) ≡ row_count d r
      rest true = refl
      rest false = refl
