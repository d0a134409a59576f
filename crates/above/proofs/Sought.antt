-- What the searches for a key at two levels say, way by way.
-- Assumes nothing.
use Prim.Native.Nat.{ℕ, ◌≤◌, ◌<◌}
use mathlib.Core.Path.{◌≡◌, refl, sym, ◌∙◌}
use mathlib.Core.Bool.{Bool, true, false}
use mathlib.Core.Logic.{◌≢◌}
use mathlib.Core.List.{List}
use native.Mathlib.Omega.{arith}
use lib.Dec.{eqb}
use lib.ListN.{get_or}
use borrow.Author.Tests.{lt-ltb, le-ltb, eq-eqb, ne_eqb}
use Rattle.bounded.proofs.First.{First, found, absent, first-cases}
use Rattle.bounded.proofs.Reflection.{of-true, of-false, eqb-r}
use Rattle.model.specs.declared.Description.{Description}
use Rattle.model.specs.Description.{row_count}
use Rattle.model.specs.Tables.{same, used, State, rows_of, at}
use Rattle.model.specs.Buffers.{holding, state_of}
use Rattle.cells.specs.Changed.{value_at, class_at, key_place}
use Rattle.cells.proofs.Cells.{state-cell}
use Rattle.cells.proofs.Sought.{place-key, at_there, at-nowhere}
use Rattle.above.specs.declared.plan.Plan.{Plan}
use Rattle.above.specs.Facts.{OneRow, chosen_at, touched_by, gone_by}

-- a row that has the key is the row of the key, where no key stands in two rows
pub key_here : (d : Description) (vs : List ℕ) (r l v i : ℕ) → OneRow d vs r l → v ≢ 0 → i < row_count d r → value_at d vs r l i 1 ≡ v → i ≡ key_place d vs r l v
unfolding key_place
key_here d vs r l v i one nz h e = go (first-cases (row_count d r) (λ j. eqb (value_at d vs r l j 1) v))
  where
    go : {j : ℕ} → First (row_count d r) (λ j. eqb (value_at d vs r l j 1) v) j → i ≡ j
    go {j} (found g t _) = one.one i j h g (λ z. nz (sym e ∙ z)) (e ∙ sym (of-true (eqb-r _ v) t))
    go (absent _ f) = absurd (of-false (eqb-r _ v) (f i h) e)

module _ (d : Description) (vs cs : List ℕ) where
  abbrev S : State
  S = state_of d (holding vs cs)

  -- ---- whether a row is emptied

  module _ (r : ℕ) (P : Plan) (c l v : ℕ) where
    abbrev gone : Bool
    gone = gone_by d r P c S l v

    pub gone-off : P.gone ≡ false → false ≡ gone
    unfolding gone_by
    gone-off e = rw e

    module _ (on : P.gone ≡ true) {own : ℕ} (e : own ≡ key_place d vs r c v) where
      pub gone-none : row_count d r ≤ own → false ≡ gone
      unfolding gone_by chosen_at
      gone-none h = rw (on, place-key d vs cs r c v, ← e, le-ltb own (row_count d r) h)

      module _ (h : own < row_count d r) where
        pub gone-unchosen : get_or P.chosen own false ≡ false → false ≡ gone
        unfolding gone_by chosen_at
        gone-unchosen m = rw (on, place-key d vs cs r c v, ← e, lt-ltb own (row_count d r) h, m)

        module _ (m : get_or P.chosen own false ≡ true) where
          pub gone-other : (class_at d cs r c own 1 ≡ c → ⊥) → false ≡ gone
          unfolding gone_by chosen_at
          gone-other n = rw (on, place-key d vs cs r c v, ← e, lt-ltb own (row_count d r) h, m, at_there d vs cs r c v e h, ne_eqb _ _ n)

          module _ (q : class_at d cs r c own 1 ≡ c) {row : ℕ} (f : row ≡ key_place d vs r l v) where
            pub gone-missing : c < 16 → row_count d r ≤ row → false ≡ gone
            unfolding gone_by chosen_at
            gone-missing s g =
                rw (on, place-key d vs cs r c v, ← e, lt-ltb own (row_count d r) h, m, at_there d vs cs r c v e h, eq-eqb _ _ q, at-nowhere d vs cs r l v f g, ne_eqb 255 c (λ x. omega arith))

            pub gone-there : row < row_count d r → eqb (class_at d cs r l row 1) c ≡ gone
            unfolding gone_by chosen_at
            gone-there g = rw (on, place-key d vs cs r c v, ← e, lt-ltb own (row_count d r) h, m, at_there d vs cs r c v e h, eq-eqb _ _ q, at_there d vs cs r l v f g)

  -- ---- whether a row is touched

  module _ (r : ℕ) (chosen : List Bool) (c l i : ℕ) {v : ℕ} (k : v ≡ value_at d vs r l i 1) where
    abbrev touched : Bool
    touched = touched_by (row_count d r) chosen ((S c).rows r) ((S l).rows r i)

    pub touched-unused : v ≡ 0 → false ≡ touched
    unfolding touched_by used
    touched-unused z = rw (state-cell d vs cs r l i 1, ← k, z)

    module _ (nz : v ≢ 0) {own : ℕ} (e : own ≡ key_place d vs r c v) where
      pub touched_none : row_count d r ≤ own → false ≡ touched
      unfolding touched_by used chosen_at
      touched_none h = rw (state-cell d vs cs r l i 1, ← k, ne_eqb v 0 nz, place-key d vs cs r c v, ← e, le-ltb own (row_count d r) h)

      module _ (h : own < row_count d r) where
        pub touched-unchosen : get_or chosen own false ≡ false → false ≡ touched
        unfolding touched_by used chosen_at
        touched-unchosen m = rw (state-cell d vs cs r l i 1, ← k, ne_eqb v 0 nz, place-key d vs cs r c v, ← e, lt-ltb own (row_count d r) h, m)

        pub touched-chosen : get_or chosen own false ≡ true → eqb (class_at d cs r c own 1) (class_at d cs r l i 1) ≡ touched
        unfolding touched_by used chosen_at
        touched-chosen m =
            rw (state-cell d vs cs r l i 1, ← k, ne_eqb v 0 nz, place-key d vs cs r c v, ← e, lt-ltb own (row_count d r) h, m, state-cell d vs cs r c own 1)

  -- ---- whether two rows with one key are one entity

  module _ (r a b v : ℕ) (nz : v ≢ 0) {i j : ℕ} (e : i ≡ key_place d vs r a v) (f : j ≡ key_place d vs r b v) where
    abbrev agree : Bool
    agree = same (at d (rows_of S) r a v 1) (at d (rows_of S) r b v 1)

    pub agree-none : row_count d r ≤ i → row_count d r ≤ j → true ≡ agree
    unfolding same
    agree-none h g = rw (at-nowhere d vs cs r a v e h, at-nowhere d vs cs r b v f g)

    pub agree-other : row_count d r ≤ i → j < row_count d r → false ≡ agree
    unfolding same
    agree-other h g = rw (at-nowhere d vs cs r a v e h, at_there d vs cs r b v f g, ne_eqb 0 v (λ z. nz (sym z)))

    pub agree-one : i < row_count d r → row_count d r ≤ j → false ≡ agree
    unfolding same
    agree-one h g = rw (at_there d vs cs r a v e h, at-nowhere d vs cs r b v f g, ne_eqb v 0 nz)

    pub agree-both : i < row_count d r → j < row_count d r → eqb (class_at d cs r a i 1) (class_at d cs r b j 1) ≡ agree
    unfolding same
    agree-both h g = rw (at_there d vs cs r a v e h, at_there d vs cs r b v f g, eq-eqb v v refl)
