-- A sound description has the laws that the theorems rely on.
-- Assumes nothing.
use Prim.Native.Nat.{ℕ, ◌<◌}
use mathlib.Core.Bool.{true}
use mathlib.Core.Path.{◌≡◌, sym, ◌∙◌}
use native.Mathlib.Nat.{le_refl}
use native.Mathlib.Omega.{arith}
use Rattle.bounded.specs.Tests.{Reflects}
use Rattle.bounded.proofs.Reflection.{is_true, of-true, bool-r, and_r}
use Rattle.model.specs.Description.{over, is_relation, row_count, is_column, low_of, high_of, in_range, sound}
use Rattle.level.specs.Laws.{LevelLaws}
use Rattle.model.specs.declared.Description.{Description}
use Rattle.model.proofs.Sound.{column-r, some_of, Sound, sound-says, relation-of, reference-of, levels-of}
use Rattle.theory.specs.Laws.{Laws}

-- ---- relations, columns and ranges

module _ (d : Description) where
  pub row-relation : (r i : ℕ) → i < row_count d r → is_relation d r ≡ true
  unfolding row_count
  row-relation r i h = some_of d d.rows r (λ z. let q : row_count d r ≡ 0 = z in omega arith)

  pub range-r : (r k c : ℕ) → Reflects ((is_column d r k ≡ true) × ((over d (high_of d r k) c ≡ true) × (over d c (low_of d r k) ≡ true))) (in_range d r k c)
  unfolding in_range
  range-r r k c = and_r (bool-r (is_column d r k)) (and_r (bool-r (over d (high_of d r k) c)) (bool-r (over d c (low_of d r k))))

  -- a class in range is a level
  pub range-level : Laws d → (r k c : ℕ) → in_range d r k c ≡ true → c < d.levels
  range-level L r k c h = (L.within c (low_of d r k) (of-true (range-r r k c) h).1.1).0

-- ---- a sound description

module _ (d : Description) where
  pub sound-laws : sound d ≡ true → Laws d
  unfolding over
  sound-laws e = record {
    reflexive = levels.reflexive;
    transitive = levels.transitive;
    antisymmetric = levels.antisymmetric;
    within = levels.within;
    few = let h = s.few-levels in omega arith;
    apart = λ r q. let h = (reference-of d s r (λ z. zero≢one (sym z ∙ q))).after-key in omega (arith, h, q);
    lower = λ r n. (reference-of d s r n).lower;
    keyed = λ r h. is_true (column-r d r 1) (le_refl 1, (relation-of d s r h).keyed);
  }
    where
      s : Sound d
      s = sound-says d e

      levels : LevelLaws d.labels d.levels
      levels = levels-of d s

      zero≢one : ◌≡◌ {A = ℕ} 0 1 → ⊥
      zero≢one q = omega arith
