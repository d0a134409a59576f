-- The row of an entity: whether a search over the buffers comes to it is what the tables say, and what a level lends is read from it.
-- Assumes nothing.
use Rattle.std.specs.Prelude.{Option, Some, None, is_some}
use Prim.Native.Nat.{ℕ, ◌≤◌, ◌<◌}
use mathlib.Core.Path.{◌≡◌, refl, sym, ap, ◌∙◌}
use mathlib.Core.Bool.{Bool, true, false}
use mathlib.Core.Logic.{◌≢◌}
use mathlib.Core.List.{List}
use native.Mathlib.Omega.{arith}
use lib.Dec.{eqb, ltb}
use borrow.Author.Tests.{ltb-true, ltb-false, eqb-true, eqb-false}
use Rattle.bounded.specs.Bounded.{some_below}
use Rattle.bounded.proofs.Cases.{cases}
use Rattle.bounded.proofs.Found.{some-below, none-below}
use Rattle.bounded.proofs.Reflection.{is_true, is_false, of-true}
use Rattle.model.specs.declared.Description.{Description}
use Rattle.model.specs.Description.{over, row_count, sound}
use Rattle.model.specs.Tables.{Cell, Row, cell, same, State, rows_of, seen, place, at, lends}
use Rattle.model.specs.Buffers.{holding, state_of}
use Rattle.model.specs.Uplevel.{based}
use Rattle.cells.specs.Layout.{Row as Sought}
use Rattle.cells.specs.Changed.{value_at, class_at, key_place, entity_place}
use Rattle.cells.proofs.Cells.{state-cell}
use Rattle.cells.proofs.Sought.{place-key, at_row, at_there, at-nowhere}
use Rattle.cells.proofs.Written.{entity-nowhere, entity-here, entity-other}
use Rattle.model.proofs.Sound.{sound-r}
use Rattle.theory.proofs.Described.{sound-laws}
use Rattle.theory.proofs.Fine.{same-r, value_of, class_of, lends-yes, lends-no}
use Rattle.theory.proofs.Seen.{seen_at}

-- a level that is dominated is one of 16
pub level-few : (d : Description) → sound d ≡ true → (c a : ℕ) → over d c a ≡ true → (a < d.levels) × (a < 16)
level-few d s c a h = let g = ((sound-laws d s).within c a h).1 in (g, omega (arith, (of-true (sound-r d) s).few-levels))

-- a search came to a row where it came to a number below the rows'
pub some-is : (n k : ℕ) → is_some (some_below n k) ≡ ltb k n
unfolding some_below
some-is n k = cases (ltb k n) (λ t. rw t) (λ t. rw t)

module _ (d : Description) (vs cs : List ℕ) where
  abbrev S : State
  S = state_of d (holding vs cs)

  module _ (r l v c : ℕ) where
    -- the row that a search for the entity came to
    pub record Entity (i : ℕ) : Type 0 where
      pub within : i < row_count d r
      pub first : i ≡ place (row_count d r) ((S l).rows r) v
      pub it : at d (rows_of S) r l v 1 ≡ cell v c
      pub row : at d (rows_of S) r l v ≡ (S l).rows r i

    pub entity-found : {i : ℕ} → Sought d r (entity_place d vs cs r l v c) (Some i) → Entity i
    entity-found {i} e =
        let f : (i ≡ entity_place d vs cs r l v c) × (entity_place d vs cs r l v c < row_count d r) = some-below _ _ e in
        cases (ltb (key_place d vs r l v) (row_count d r))
        (λ t. cases (eqb (class_at d cs r l (key_place d vs r l v) 1) c)
        (λ u. found f.0 (ltb-true _ _ t) (eqb-true _ _ u))
        (λ u. let q = entity-other d vs cs r l v c refl (eqb-false _ _ u) in absurd (omega (arith, f, q))))
        (λ t. let q = entity-nowhere d vs cs r l v c (ltb-false _ _ t) in absurd (omega (arith, f, q)))
      where
        found : i ≡ entity_place d vs cs r l v c → key_place d vs r l v < row_count d r → class_at d cs r l (key_place d vs r l v) 1 ≡ c → Entity i
        found e h q =
            let p : i ≡ key_place d vs r l v = e ∙ entity-here d vs cs r l v c h refl q in
            record {
              within = rw p h;
              first = p ∙ sym (place-key d vs cs r l v);
              it = at_there d vs cs r l v refl h ∙ ap (cell v) q;
              row = at_row d vs cs r l v p (rw p h);
            }

    pub entity-missing : v ≢ 0 → Sought d r (entity_place d vs cs r l v c) None → at d (rows_of S) r l v 1 ≡ cell v c → ⊥
    entity-missing nz e p =
        let f : row_count d r ≤ entity_place d vs cs r l v c = none-below _ _ e in
        cases (ltb (key_place d vs r l v) (row_count d r))
        (λ t. cases (eqb (class_at d cs r l (key_place d vs r l v) 1) c)
        (λ u. let q = entity-here d vs cs r l v c (ltb-true _ _ t) refl (eqb-true _ _ u) in let h = ltb-true _ _ t in omega (arith, f, q, h))
        (λ u. eqb-false _ _ u (class_of (sym (at_there d vs cs r l v refl (ltb-true _ _ t)) ∙ p))))
        (λ t. nz (sym (value_of (sym (ap (λ (R : Row). R 1) (at-nowhere d vs cs r l v refl (ltb-false _ _ t))) ∙ p))))

    -- it is there
    pub entity-is : v ≢ 0 → {o : Option ℕ} → Sought d r (entity_place d vs cs r l v c) o → is_some o ≡ same (at d (rows_of S) r l v 1) (cell v c)
    entity-is nz {o = None} e = sym (is_false (same-r _ _) (entity-missing nz e))
    entity-is nz {o = Some i} e = sym (is_true (same-r _ _) (entity-found e).it)

    -- ---- what a level lends it

    abbrev lending : ℕ → Cell
    lending k = lends (at d (rows_of S) r l v) (cell v c) k l

    pub lent-missing : v ≢ 0 → Sought d r (entity_place d vs cs r l v c) None → (k : ℕ) → 0 ≡ (lending k).value
    lent-missing nz e k = sym (value_of (lends-no (at d (rows_of S) r l v) (cell v c) k l (λ q _. entity-missing nz e q)))

    module _ {i : ℕ} (e : Sought d r (entity_place d vs cs r l v c) (Some i)) (k : ℕ) where
      cell_at : at d (rows_of S) r l v k ≡ cell (value_at d vs r l i k) (class_at d cs r l i k)
      cell_at = ap (λ (R : Row). R k) (entity-found e).row ∙ state-cell d vs cs r l i k

      pub lent_other : {x : ℕ} → x ≡ class_at d cs r l i k → x ≢ l → 0 ≡ (lending k).value
      lent_other p n = sym (value_of (lends-no (at d (rows_of S) r l v) (cell v c) k l (λ _ q. n (p ∙ sym (class_of cell_at) ∙ q))))

      pub lent-own : {x w : ℕ} → x ≡ class_at d cs r l i k → x ≡ l → w ≡ value_at d vs r l i k → w ≡ (lending k).value
      lent-own {x} {w} p q z = z ∙ sym (value_of (lends-yes (at d (rows_of S) r l v) (cell v c) k l (entity-found e).it (class_of cell_at ∙ sym p ∙ q) ∙ cell_at))

  -- ---- whether an entity has a base row that the subject sees

  module _ (c r v a : ℕ) {b : Bool} (x : b ≡ over d c a) where
    pub based-unseen : b ≡ false → false ≡ based d c r v (rows_of (seen d c S)) a
    unfolding based
    based-unseen t = rw (← x, t)

    pub based-seen : b ≡ true → v ≢ 0 → {o : Option ℕ} → Sought d r (entity_place d vs cs r a v a) o → is_some o ≡ based d c r v (rows_of (seen d c S)) a
    unfolding based
    based-seen t nz e = let o : over d c a ≡ true = sym x ∙ t in rw (o, seen_at d S c r a v o) (entity-is r a v a nz e)
