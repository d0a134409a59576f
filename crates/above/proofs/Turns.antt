-- The rows of a relation written one after the other.
-- Assumes nothing.
use Prim.Native.Nat.{ℕ, ◌+◌}
use mathlib.Core.Path.{◌≡◌, refl, ap, ◌∙◌, fun_ext}
use native.Mathlib.Omega.{arith}
use lib.Dec.{eqb}
use borrow.Author.Tests.{eq-eqb, ne_eqb, lt-ltb, le-ltb}
use Rattle.bounded.proofs.Cases.{cases, order}
use Rattle.model.specs.Tables.{Row, Level, State}
use Rattle.cells.specs.Changed.{with_row, change_level}
use Rattle.cells.proofs.Changes.{level-path, change-same, change-here, change-on}
use Rattle.above.specs.Facts.{with_rows}

rows_none : (m r : ℕ) (F : ℕ → Row) (B : Level) → with_rows 0 m r F B ≡ B
unfolding with_rows
rows_none m r F B = level-path (λ s j k. cases (eqb r s) (λ t. rw (t, le-ltb j 0 (omega arith))) (λ t. rw t))

rows-turn : (n m r : ℕ) (F : ℕ → Row) (R : Row) (B : Level) → R ≡ F n → with_row m r n R (with_rows n m r F B) ≡ with_rows (n + 1) m r F B
unfolding with_rows with_row
rows-turn n m r F R B e =
    level-path (λ s j k.
    cases (eqb r s)
    (λ t. order j n
    (λ h. rw (t, ne_eqb n j (λ q. omega arith), lt-ltb j n h, lt-ltb j (n + 1) (omega arith)))
    (λ q. rw (t, q, e, eq-eqb n n refl, le-ltb n n (omega arith), lt-ltb n (n + 1) (omega arith)))
    (λ h. rw (t, ne_eqb n j (λ q. omega arith), le-ltb j n (omega arith), le-ltb j (n + 1) (omega arith))))
    (λ t. rw t))

pub rows_next : (n m r : ℕ) (F : ℕ → Row) (B : Level) → (with_rows n m r F B).rows r n ≡ B.rows r n
unfolding with_rows
rows_next n m r F B = fun_ext (λ k. rw (eq-eqb r r refl, le-ltb n n (omega arith)))

pub rows_start : (l m r : ℕ) (F : ℕ → Row) (S : State) → S ≡ change_level l (with_rows 0 m r F) S
rows_start l m r F S = change-same l (with_rows 0 m r F) S (rows_none m r F (S l))

pub rows_more : (l n m r : ℕ) (F : ℕ → Row) (S₀ : State) {S S' : State} {R : Row} → S ≡ change_level l (with_rows n m r F) S₀ → S' ≡ change_level l (with_row m r n R) S → R ≡ F n
    → S' ≡ change_level l (with_rows (n + 1) m r F) S₀
rows_more l n m r F S₀ {R = R} p q e = change-on l (with_row m r n R) (with_rows n m r F) (with_rows (n + 1) m r F) S₀ p q (rows-turn n m r F R (S₀ l) e)

pub rows_end : (l n i m r : ℕ) (F : ℕ → Row) (S₀ : State) {S : State} → S ≡ change_level l (with_rows i m r F) S₀ → i ≡ n → S ≡ change_level l (with_rows n m r F) S₀
rows_end l n i m r F S₀ {S} p e = rw e at p

-- the next row is not yet changed
pub rows-still : (l n m r : ℕ) (F : ℕ → Row) (S₀ : State) {S : State} → S ≡ change_level l (with_rows n m r F) S₀ → (S l).rows r n ≡ (S₀ l).rows r n
rows-still l n m r F S₀ p =
    ap (λ (T : State). (T l).rows r n) p ∙ ap (λ (B : Level). B.rows r n) (change-here l (with_rows n m r F) S₀) ∙ rows_next n m r F (S₀ l)
