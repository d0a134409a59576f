-- What refers to a chosen row: key, row and relation.
-- Assumes nothing.
use Prim.Native.Nat.{ℕ, suc, ◌+◌, ◌≤◌, ◌<◌}
use mathlib.Core.Path.{◌≡◌, refl, sym}
use mathlib.Core.Bool.{Bool, true, false}
use mathlib.Core.Logic.{◌≢◌}
use mathlib.Core.List.{List}
use native.Mathlib.Omega.{arith}
use lib.ListN.{get_or}
use borrow.Author.Tests.{eq-eqb, ne_eqb, lt-ltb, le-ltb}
use Rattle.std.specs.Prelude.{Some, None}
use Rattle.bounded.specs.Bounded.{any_below}
use Rattle.bounded.proofs.Found.{some-below, none-below}
use Rattle.bounded.proofs.Any.{any-start, any-more, any_here, any-end, any-of-none}
use Rattle.model.specs.declared.Description.{Description}
use Rattle.model.specs.Description.{between, is_relation, of_relation, row_count, foreign_of, refers_of}
use Rattle.model.specs.Buffers.{inside}
use Rattle.model.proofs.Sound.{Reference}
use Rattle.model.proofs.Border.{inside-shown}
use Rattle.cells.specs.Layout.{Row}
use Rattle.cells.specs.Changed.{value_at, key_place}
use Rattle.change.specs.Facts.{Naming}
use Rattle.chosen.specs.Choosing.{names_chosen, row_refers, refers_chosen, referred_chosen}
use Rattle.cells.proofs.Counts.{relation-is, in-level}

module _ (d : Description) (vs : List ℕ) (chosen : List Bool) (r c : ℕ) where
  -- ---- a key

  module _ (v : ℕ) where
    pub names-null : v ≡ 0 → false ≡ names_chosen d vs chosen r c v
    unfolding names_chosen
    names-null e = rw (eq-eqb v 0 e)

    module _ (n : v ≢ 0) where
      pub names-nowhere : Row d r (key_place d vs r c v) None → false ≡ names_chosen d vs chosen r c v
      unfolding names_chosen
      names-nowhere e = rw (ne_eqb v 0 n, le-ltb _ _ (none-below _ _ e))

      pub names-there : {i : ℕ} → Row d r (key_place d vs r c v) (Some i) → get_or chosen i false ≡ names_chosen d vs chosen r c v
      unfolding names_chosen
      names-there e = let f = some-below _ _ e in rw (ne_eqb v 0 n, lt-ltb _ _ f.1, ← f.0)

  -- ---- a row of a relation

  module _ (s : ℕ) where
    -- it refers to another
    pub refers-other : refers_of d s ≢ r → false ≡ refers_chosen d vs chosen r c s
    unfolding refers_chosen row_refers
    refers-other n = sym (any-of-none (row_count d s) (row_refers d vs chosen r c s) (λ i h. rw (ne_eqb (refers_of d s) r n)))

    pub row-refers : (i : ℕ) → refers_of d s ≡ r → {k v : ℕ} {b : Bool} → k ≡ foreign_of d s → v ≡ value_at d vs s c i k → b ≡ names_chosen d vs chosen r c v
        → b ≡ row_refers d vs chosen r c s i
    unfolding row_refers
    row-refers i e f g h = rw (eq-eqb (refers_of d s) r e, ← f, ← g) h

    pub refers-here : (i : ℕ) {b : Bool} → b ≡ row_refers d vs chosen r c s i → b ≡ true → i < row_count d s → true ≡ refers_chosen d vs chosen r c s
    unfolding refers_chosen
    refers-here i e t h = sym (any_here (row_count d s) i (row_refers d vs chosen r c s) e t h)

    pub refers-none : (i : ℕ) → any_below i (row_refers d vs chosen r c s) ≡ false → i ≤ row_count d s → row_count d s ≤ i → false ≡ refers_chosen d vs chosen r c s
    unfolding refers_chosen
    refers-none i e h g = sym (any-end (row_count d s) i (row_refers d vs chosen r c s) e h g)

  -- ---- a relation

  no_rows : row_count d 0 ≡ 0
  unfolding row_count of_relation is_relation between
  no_rows = refl

  pub referred-start : any_below 1 (refers_chosen d vs chosen r c) ≡ false
  unfolding refers_chosen
  referred-start = any-more 0 (refers_chosen d vs chosen r c) (any-start (refers_chosen d vs chosen r c)) refl (rw no_rows (any-start (row_refers d vs chosen r c 0)))

  pub referred-here : (s : ℕ) {b : Bool} → b ≡ refers_chosen d vs chosen r c s → b ≡ true → s ≤ d.relations → true ≡ referred_chosen d vs chosen r c
  unfolding referred_chosen
  referred-here s e t h = sym (any_here (suc d.relations) s (refers_chosen d vs chosen r c) e t (omega arith))

  pub referred-none : (n : ℕ) → any_below n (refers_chosen d vs chosen r c) ≡ false → n ≤ d.relations + 1 → d.relations < n → false ≡ referred_chosen d vs chosen r c
  unfolding referred_chosen
  referred-none n e h g = sym (any-end (suc d.relations) n (refers_chosen d vs chosen r c) e (omega arith) (omega arith))

-- the cell of a reference
pub reference-inside : (d : Description) (r s c n : ℕ) → Naming d s c n → 0 < r → refers_of d s ≡ r → (i : ℕ) → i < row_count d s → inside d s c i (foreign_of d s) ≡ true
reference-inside d r s c n N p e i h =
    let R = relation-is d N.sound-is s N.relation in
    let F : Reference d s = R.referring (λ z. omega (arith, R.unreferring z, e)) in
    let L = in-level d N.sound-is s N.relation c N.level in
    inside-shown d s c i (foreign_of d s) (record { relation = L.relation; level = L.level; row = h; least = omega (arith, F.after-key); column = F.column })
