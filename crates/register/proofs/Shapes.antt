-- When the lists beside a statement are well formed.
-- Assumes nothing.
use Prim.Native.Nat.{ℕ, ◌≤◌, ◌<◌}
use native.Mathlib.Omega.{arith}
use mathlib.Core.Path.{◌≡◌, refl, sym, ◌∙◌}
use mathlib.Core.Bool.{Bool, true, false, ◌&&◌}
use mathlib.Core.List.{List}
use lib.ListN.{length}
use Rattle.std.specs.Prelude.{◌==◌}
use borrow.Author.Tests.{eq-eqb, ne_eqb, lt-ltb, le-ltb, eqb-true}
use Rattle.bounded.proofs.Cases.{clash, and-false-right}
use Rattle.bounded.proofs.Reflection.{is_true, is_false}
use Rattle.model.specs.declared.Description.{Description}
use Rattle.model.specs.declared.What.TheVariants as Whats
use Rattle.model.specs.Description.{is_level, is_relation}
use Rattle.model.specs.Insert.{insert_formed}
use Rattle.model.specs.Update.{update_formed}
use Rattle.model.specs.Uplevel.{uplevel_formed}
use Rattle.model.specs.Select.{select_formed}
use Rattle.model.specs.Conditions.{conditions_formed}
use Rattle.model.specs.Run.{empty, formed_as}
use Rattle.model.proofs.Sound.{relation-r}

and-true-right : (a b : Bool) → b ≡ true → (a && b) ≡ a
and-true-right true b e = e
and-true-right false b e = refl

-- ---- a list is empty or not

pub empty-so : (list : List ℕ) {b : Bool} → b ≡ (length list == 0) → b ≡ true → length list ≡ 0
empty-so list e t = eqb-true _ _ (sym e ∙ t)

pub empty_not : (list : List ℕ) {b : Bool} → b ≡ (length list == 0) → b ≡ false → length list ≡ 0 → ⊥
empty_not list e f z = clash (eq-eqb _ _ z) (sym e ∙ f)

-- ---- the lists

module _ (d : Description) (r : ℕ) (list conditions : List ℕ) where
  pub insert-more : (length conditions ≡ 0 → ⊥) → false ≡ formed_as d r Whats.Insert list conditions
  unfolding formed_as empty
  insert-more n = sym (and-false-right (insert_formed d r list) _ (ne_eqb (length conditions) 0 n))

  pub insert-so : length conditions ≡ 0 → {b : Bool} → b ≡ insert_formed d r list → b ≡ formed_as d r Whats.Insert list conditions
  unfolding formed_as empty
  insert-so z e = e ∙ sym (and-true-right (insert_formed d r list) _ (eq-eqb (length conditions) 0 z))

  pub delete-more : (length list ≡ 0 → ⊥) → false ≡ formed_as d r Whats.Delete list conditions
  unfolding formed_as empty
  delete-more n = rw (ne_eqb (length list) 0 n)

  pub delete-so : length list ≡ 0 → {b : Bool} → b ≡ conditions_formed d r conditions → b ≡ formed_as d r Whats.Delete list conditions
  unfolding formed_as empty
  delete-so z e = rw (eq-eqb (length list) 0 z) e

  pub update-not : {b : Bool} → b ≡ update_formed d r list → b ≡ false → false ≡ formed_as d r Whats.Update list conditions
  unfolding formed_as
  update-not e n = rw (← e, n)

  pub update-so : {b c : Bool} → b ≡ update_formed d r list → b ≡ true → c ≡ conditions_formed d r conditions → c ≡ formed_as d r Whats.Update list conditions
  unfolding formed_as
  update-so e t k = rw (← e, t) k

  pub uplevel-more : (key class : ℕ) → (length conditions ≡ 0 → ⊥) → false ≡ formed_as d r (Whats.Uplevel key class) list conditions
  unfolding formed_as empty
  uplevel-more key class n = sym (and-false-right (uplevel_formed d r key class list) _ (ne_eqb (length conditions) 0 n))

  pub uplevel-so : (key class : ℕ) → length conditions ≡ 0 → {b : Bool} → b ≡ uplevel_formed d r key class list → b ≡ formed_as d r (Whats.Uplevel key class) list conditions
  unfolding formed_as empty
  uplevel-so key class z e = e ∙ sym (and-true-right (uplevel_formed d r key class list) _ (eq-eqb (length conditions) 0 z))

  pub select-not : {b : Bool} → b ≡ select_formed d list → b ≡ false → false ≡ formed_as d r Whats.Select list conditions
  unfolding formed_as
  select-not e n = rw (← e, n)

  pub select-so : {b c : Bool} → b ≡ select_formed d list → b ≡ true → c ≡ conditions_formed d r conditions → c ≡ formed_as d r Whats.Select list conditions
  unfolding formed_as
  select-so e t k = rw (← e, t) k

-- ---- the level and the relation

module _ (d : Description) (l r : ℕ) (x : Bool) where
  pub no-level : d.levels ≤ l → false ≡ (is_level d l && (is_relation d r && x))
  unfolding is_level
  no-level h = rw (le-ltb l d.levels h)

  absent : is_relation d r ≡ false → false ≡ (is_level d l && (is_relation d r && x))
  absent e = sym (and-false-right (is_level d l) _ (rw e))

  pub no-relation : r ≡ 0 → false ≡ (is_level d l && (is_relation d r && x))
  no-relation z = absent (is_false (relation-r d r) (λ h. omega (arith, h.0)))

  pub past-relation : d.relations < r → false ≡ (is_level d l && (is_relation d r && x))
  past-relation z = absent (is_false (relation-r d r) (λ h. omega (arith, h.1)))

  pub shaped : l < d.levels → is_relation d r ≡ true → {b : Bool} → b ≡ x → b ≡ (is_level d l && (is_relation d r && x))
  unfolding is_level
  shaped h e t = rw (lt-ltb l d.levels h, e) t

pub relation-there : (d : Description) (r : ℕ) → (r ≡ 0 → ⊥) → r ≤ d.relations → is_relation d r ≡ true
relation-there d r n h = is_true (relation-r d r) (omega (arith, n), h)
