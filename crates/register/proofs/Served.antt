-- What a statement's function may know once the tables are judged and the statement is well formed.
-- Assumes nothing.
use Prim.Native.Nat.{ℕ, ◌≤◌, ◌<◌}
use mathlib.Core.Path.{◌≡◌, sym, ◌∙◌}
use mathlib.Core.Bool.{Bool, true, ◌&&◌}
use mathlib.Core.List.{List}
use native.Mathlib.Omega.{arith}
use lib.ListN.{length}
use borrow.Author.Tests.{ltb-true}
use Rattle.bounded.proofs.Cases.{and_left, and_right}
use Rattle.bounded.proofs.Reflection.{of-true, bool-r, and_r, eqb-r}
use Rattle.level.specs.Order.{order_of}
use Rattle.model.specs.declared.Description.{Description}
use Rattle.model.specs.declared.What.TheVariants as Whats
use Rattle.model.specs.Description.{sound, is_level, is_relation, column_count, total_of}
use Rattle.model.specs.Buffers.{holding, fitting}
use Rattle.model.specs.Conditions.{conditions_formed}
use Rattle.model.specs.Insert.{insert_formed}
use Rattle.model.specs.Update.{update_formed}
use Rattle.model.specs.Uplevel.{uplevel_formed}
use Rattle.model.specs.Select.{select_formed}
use Rattle.model.specs.Run.{Request, subject, relation, formed, formed_as, empty}
use Rattle.model.proofs.Sound.{relation-of}
use Rattle.cells.proofs.Counts.{sound-says, relation-few}
use Rattle.asked.specs.Known.{Ordered, Related}
use Rattle.change.specs.Facts.{Standing}
use Rattle.register.specs.Facts.{Judged}

pub ordered_of : (d : Description) (order : List (List Bool)) → sound d ≡ true → order ≡ order_of d.labels d.levels → Ordered d order
ordered_of d order s o = record { order_is = o; few = (sound-says d s).few-levels }

pub related-of : (d : Description) (r : ℕ) {n : ℕ} → sound d ≡ true → is_relation d r ≡ true → n ≡ column_count d r → Related d r n
related-of d r s h e = record { relation = relation-few d s r h; is = e; narrow = omega (arith, e, (relation-of d (sound-says d s) r h).narrow) }

pub few-relations : (d : Description) → sound d ≡ true → d.relations ≤ 8
few-relations d s = (sound-says d s).few-relations

pub still-fits : (d : Description) (vs cs vs' cs' : List ℕ) → fitting d (holding vs cs) ≡ true → length vs' ≡ length vs → length cs' ≡ length cs → fitting d (holding vs' cs') ≡ true
unfolding fitting
still-fits d vs cs vs' cs' f v c = rw (v, c) f

module _ (d : Description) (q : Request) (m : formed d q ≡ true) where
  pub level-there : subject q < d.levels
  unfolding formed is_level
  level-there = ltb-true _ _ (and_left (is_level d (subject q)) _ m)

  rest : (is_relation d (relation q) && formed_as d (relation q) q.statement.what q.list q.conditions) ≡ true
  unfolding formed
  rest = and_right (is_level d (subject q)) _ m

  pub relation-known : is_relation d (relation q) ≡ true
  relation-known = and_left (is_relation d (relation q)) _ rest

  shape : formed_as d (relation q) q.statement.what q.list q.conditions ≡ true
  shape = and_right (is_relation d (relation q)) _ rest

  pub insert-shape : q.statement.what ≡ Whats.Insert → insert_formed d (relation q) q.list ≡ true
  unfolding formed_as
  insert-shape w = and_left (insert_formed d (relation q) q.list) (empty q.conditions) (rw w at shape)

  pub delete-shape : q.statement.what ≡ Whats.Delete → conditions_formed d (relation q) q.conditions ≡ true
  unfolding formed_as
  delete-shape w = and_right (empty q.list) (conditions_formed d (relation q) q.conditions) (rw w at shape)

  pub update-shape : q.statement.what ≡ Whats.Update → (update_formed d (relation q) q.list ≡ true) × (conditions_formed d (relation q) q.conditions ≡ true)
  unfolding formed_as
  update-shape w = of-true (and_r (bool-r (update_formed d (relation q) q.list)) (bool-r (conditions_formed d (relation q) q.conditions))) (rw w at shape)

  pub uplevel-shape : (key class : ℕ) → q.statement.what ≡ Whats.Uplevel key class → uplevel_formed d (relation q) key class q.list ≡ true
  unfolding formed_as
  uplevel-shape key class w = and_left (uplevel_formed d (relation q) key class q.list) (empty q.conditions) (rw w at shape)

  pub select-shape : q.statement.what ≡ Whats.Select → (select_formed d q.list ≡ true) × (conditions_formed d (relation q) q.conditions ≡ true)
  unfolding formed_as
  select-shape w = of-true (and_r (bool-r (select_formed d q.list)) (bool-r (conditions_formed d (relation q) q.conditions))) (rw w at shape)

  pub standing-of : (vs cs : List ℕ) → Judged d vs cs → Standing d (relation q) (subject q) vs cs
  unfolding fitting
  standing-of vs cs j =
      let f = of-true (and_r (eqb-r (length vs) (total_of d)) (eqb-r (length cs) (total_of d))) j.fits in
      record { sound-is = j.sound-is; relation = relation-known; level = level-there; long = f.0; wide = f.1; legal-is = j.legal-is }

-- the test that the code makes, as the definition has it
pub formed-is : (d : Description) (q : Request) {b : Bool} {v : Bool} → b ≡ (is_level d (subject q) && (is_relation d (relation q) && formed_as d (relation q) q.statement.what q.list q.conditions)) → b ≡ v → formed d q ≡ v
unfolding formed
formed-is d q e t = sym e ∙ t
