-- A key is in use where the search over a buffer comes to a row; and the row that a reference names.
-- Assumes nothing.
use Prim.Native.Nat.{ℕ}
use mathlib.Core.Path.{◌≡◌, refl, ap, ◌∙◌}
use mathlib.Core.Bool.{true}
use mathlib.Core.Logic.{◌≢◌}
use mathlib.Core.List.{List}
use lib.Dec.{ltb}
use borrow.Author.Tests.{ltb-true, ltb-false, eq-eqb, ne_eqb}
use Rattle.std.specs.Prelude.{Option, is_some}
use Rattle.bounded.specs.Bounded.{some_below}
use Rattle.bounded.proofs.Cases.{cases}
use Rattle.model.specs.declared.Description.{Description}
use Rattle.model.specs.Description.{row_count, refers_of}
use Rattle.model.specs.Tables.{used, State, rows_of, at}
use Rattle.model.specs.Effect.{names_row}
use Rattle.model.specs.Buffers.{holding, state_of}
use Rattle.cells.specs.Layout.{Row}
use Rattle.cells.specs.Changed.{key_place}
use Rattle.cells.proofs.Sought.{at_there, at-nowhere}

-- a search comes to a row where it comes to a number below the rows'
some-is : (n k : ℕ) → is_some (some_below n k) ≡ ltb k n
unfolding some_below
some-is n k = cases (ltb k n) (λ t. rw t) (λ t. rw t)

module _ (d : Description) (vs cs : List ℕ) where
  abbrev S : State
  S = state_of d (holding vs cs)

  -- a key is in use where the search comes to a row
  pub used-is : (r l v : ℕ) {i : ℕ} → v ≢ 0 → i ≡ key_place d vs r l v → ltb i (row_count d r) ≡ used (at d (rows_of S) r l v)
  unfolding used
  used-is r l v {i} n e =
      cases (ltb i (row_count d r))
      (λ t. rw (t, at_there d vs cs r l v e (ltb-true _ _ t), ne_eqb v 0 n))
      (λ t. rw (t, at-nowhere d vs cs r l v e (ltb-false _ _ t)))

  pub used-some : (r l v : ℕ) {o : Option ℕ} → v ≢ 0 → Row d r (key_place d vs r l v) o → is_some o ≡ used (at d (rows_of S) r l v)
  used-some r l v n e = ap is_some e ∙ (some-is _ _ ∙ used-is r l v n refl)

  -- ---- the row that a reference names

  pub names-null : (c r v : ℕ) → v ≡ 0 → true ≡ names_row d c r (rows_of S) v
  unfolding names_row
  names-null c r v z = rw (eq-eqb v 0 z)

  pub names-sought : (c r v : ℕ) {target : ℕ} {o : Option ℕ} → v ≢ 0 → target ≡ refers_of d r → Row d target (key_place d vs target c v) o → is_some o ≡ names_row d c r (rows_of S) v
  unfolding names_row
  names-sought c r v z t e = rw (ne_eqb v 0 z, ← t) (used-some _ c v z e)
