-- What a subject sees of its own level and of those below is what is there, and of other levels nothing.
-- Assumes nothing.
use Prim.Native.Nat.{ℕ}
use mathlib.Core.Bool.{true}
use mathlib.Core.Path.{◌≡◌, sym, ap, ◌∙◌}
use Rattle.bounded.proofs.Reflection.{if-cases, bool-r}
use Rattle.model.specs.Description.{over, row_count}
use Rattle.model.specs.Tables.{Row, Level, nolevel, State, rows_of, seen, seek, at}
use Rattle.model.specs.declared.Description.{Description}
use Rattle.theory.proofs.Seek.{at-seek}

module _ (D : Description) (G : State) (c : ℕ) where
  pub seen_as : (l : ℕ) (P : Level → Type 0) → (over D c l ≡ true → P (G l)) → P nolevel → P (seen D c G l)
  unfolding seen
  seen_as l P f e = if-cases P (bool-r (over D c l)) f (λ _. e)

  pub seen-level : (l : ℕ) → over D c l ≡ true → seen D c G l ≡ G l
  unfolding seen
  seen-level l h = rw h

  pub seen-row : (r l : ℕ) → over D c l ≡ true → rows_of (seen D c G) r l ≡ rows_of G r l
  seen-row r l h = ap (λ (K : Level). K.rows r) (seen-level l h)

  pub seen_at : (r l v : ℕ) → over D c l ≡ true → at D (rows_of (seen D c G)) r l v ≡ at D (rows_of G) r l v
  seen_at r l v h = at-seek D (rows_of (seen D c G)) r l v ∙ ap (λ (B : ℕ → Row). seek (row_count D r) B v) (seen-row r l h) ∙ sym (at-seek D (rows_of G) r l v)

  -- the rows at the subject's level
  pub seen-own : over D c c ≡ true → (seen D c G c).rows ≡ (G c).rows
  seen-own h = ap (λ (K : Level). K.rows) (seen-level c h)
