-- A search for a key over a buffer is the search over the rows of its tables.
-- Assumes nothing.
use Prim.Native.Nat.{ℕ, ◌≤◌, ◌<◌}
use mathlib.Core.Path.{◌≡◌, ap, ◌∙◌}
use mathlib.Core.Bool.{true}
use mathlib.Core.List.{List}
use native.Mathlib.Omega.{arith}
use lib.Dec.{eqb}
use borrow.Author.Tests.{lt-ltb, le-ltb, eqb-true}
use Rattle.bounded.proofs.First.{first_cong, first_holds}
use Rattle.model.specs.declared.Description.{Description}
use Rattle.model.specs.Description.{row_count}
use Rattle.model.specs.Tables.{Cell, Row, cell, norow, State, rows_of, place, seek, at}
use Rattle.model.specs.Buffers.{holding, inside, state_of}
use Rattle.model.proofs.Border.{inside-shown}
use Rattle.cells.specs.Layout.{InLevel}
use Rattle.cells.specs.Changed.{value_at, class_at, key_place}
use Rattle.cells.proofs.Cells.{state-cell}

-- a row has a key
pub key-inside : (d : Description) (r l i : ℕ) → InLevel d r l → i < row_count d r → inside d r l i 1 ≡ true
key-inside d r l i h g = inside-shown d r l i 1 (record { relation = h.relation; level = h.level; row = g; least = omega arith; column = h.keyed })

module _ (d : Description) (vs cs : List ℕ) where
  abbrev S : State
  S = state_of d (holding vs cs)

  pub place-key : (r l v : ℕ) → place (row_count d r) ((S l).rows r) v ≡ key_place d vs r l v
  unfolding place key_place
  place-key r l v = first_cong (row_count d r) _ _ (λ i h. ap (λ (x : Cell). eqb x.value v) (state-cell d vs cs r l i 1))

  -- the key's own cell
  pub key-is : (r l v : ℕ) {i : ℕ} → i ≡ key_place d vs r l v → i < row_count d r → value_at d vs r l i 1 ≡ v
  unfolding key_place
  key-is r l v e h = rw e (eqb-true _ _ (first_holds (row_count d r) (λ j. eqb (value_at d vs r l j 1) v) (rw e at h)))

  -- the row found by key is the row of that number
  pub at_row : (r l v : ℕ) {i : ℕ} → i ≡ key_place d vs r l v → i < row_count d r → at d (rows_of S) r l v ≡ (S l).rows r i
  unfolding at seek
  at_row r l v {i} e h = rw (place-key r l v, ← e, lt-ltb i (row_count d r) h)

  pub at_there : (r l v : ℕ) {i : ℕ} → i ≡ key_place d vs r l v → i < row_count d r → at d (rows_of S) r l v 1 ≡ cell v (class_at d cs r l i 1)
  at_there r l v {i} e h =
      ap (λ (R : Row). R 1) (at_row r l v e h) ∙ (state-cell d vs cs r l i 1 ∙ ap (λ (x : ℕ). cell x (class_at d cs r l i 1)) (key-is r l v e h))

  pub at-nowhere : (r l v : ℕ) {i : ℕ} → i ≡ key_place d vs r l v → row_count d r ≤ i → at d (rows_of S) r l v ≡ norow
  unfolding at seek
  at-nowhere r l v {i} e h = rw (place-key r l v, ← e, le-ltb i (row_count d r) h)
