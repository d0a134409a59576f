-- Whether an UPLEVEL's list and key are well formed, test by test.
-- Assumes nothing.
use Rattle.std.specs.Prelude.{Option, is_some}
use Prim.Native.Nat.{ℕ, ◌%◌, ◌/◌, ◌≤◌, ◌<◌}
use mathlib.Core.Path.{◌≡◌, refl, sym, ap, ◌∙◌}
use mathlib.Core.Bool.{true, not, ◌&&◌, ◌||◌}
use mathlib.Core.Logic.{◌≢◌, ◌⊎◌, inl, inr}
use mathlib.Core.List.{List}
use native.Mathlib.Omega.{arith}
use lib.Dec.{eqb, ltb}
use lib.ListN.{length}
use Rattle.bounded.proofs.Any.{any-first}
use Rattle.bounded.proofs.Reflection.{of-true, bool-r, not-r, and_r, or_r, eqb-r, ltb-r}
use Rattle.model.specs.declared.Description.{Description}
use Rattle.model.specs.Description.{is_level, is_column, over}
use Rattle.model.specs.Listed.{whole, pairs, column_at, each, lists, columns_once}
use Rattle.model.specs.Uplevel.{uplevel_formed}
use Rattle.asked.specs.declared.pairs.Rule.TheVariants as Rules
use Rattle.asked.specs.Facts.{rule_of, Found}
use Rattle.uplevel.specs.Listed.{Listing}
use Rattle.uplevel.proofs.Entities.{some-is}

-- test after test
pub formed-tests : (d : Description) (r key class : ℕ) (list : List ℕ)
    → uplevel_formed d r key class list
    ≡ (eqb (length list % 2) 0 && (each (rule_of d r Rules.From) list && (columns_once list && (not (lists list 1) && (not (eqb key 0) && (eqb class 255 || ltb class d.levels))))))
unfolding uplevel_formed whole rule_of is_level
formed-tests d r key class list = refl

-- whether the key is listed
pub key-lists : (list : List ℕ) {o : Option ℕ} → Found list 1 o → lists list 1 ≡ is_some o
unfolding lists pairs
key-lists list z = any-first (length list / 2) (λ j. eqb (column_at list j) 1) ∙ (sym (some-is _ _) ∙ sym (ap is_some z))

-- ---- what a well formed one says

module _ (d : Description) (r key class : ℕ) (list : List ℕ) (t : uplevel_formed d r key class list ≡ true) where
  says : (each (λ k a. is_column d r k && is_level d a) list ≡ true) × ((key ≢ 0) × ((class ≡ 255) ⊎ (class < d.levels)))
  unfolding uplevel_formed is_level
  says =
      let h = of-true (and_r (bool-r (whole 2 list)) (and_r (bool-r (each (λ k a. is_column d r k && is_level d a) list)) (and_r (bool-r (columns_once list)) (and_r (bool-r (not (lists list 1))) (and_r (not-r (eqb-r key 0)) (or_r (eqb-r class 255) (ltb-r class d.levels))))))) t in
      (h.1.0, (h.1.1.1.1.0, h.1.1.1.1.1))

  -- there is a key
  pub formed-key : key ≢ 0
  formed-key = says.1.0

  -- the columns and FROM levels that are listed exist
  pub formed-lists : (c : ℕ) → each (λ k a. over d c a) list ≡ true → Listing d r c list
  formed-lists c s = record { columns = says.0; seen = s }

  -- a key class that is given exists, so its number is below 256
  pub class-small : d.levels ≤ 16 → class ≤ 255
  class-small f = go says.1.1
    where
      go : (class ≡ 255) ⊎ (class < d.levels) → class ≤ 255
      go (inl e) = omega arith
      go (inr h) = omega arith
