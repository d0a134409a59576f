-- What a statement's effect at level c has to meet so that fine tables stay fine: `N` finds the new rows at c by key.
-- Assumes nothing.
use Prim.Native.Nat.{ℕ, ◌<◌}
use mathlib.Core.Bool.{true}
use mathlib.Core.Logic.{◌≢◌, ◌⊎◌}
use mathlib.Core.Path.{◌≡◌}
use Rattle.model.specs.Description.{over, foreign_of, refers_of, in_range}
use Rattle.model.specs.Effect.{take, Above}
use Rattle.model.specs.Tables.{cell, nocell, Row, Tables, lends}
use Rattle.model.specs.declared.Description.{Description}
use Rattle.theory.proofs.Fine.{Absent, Keyed}
use Rattle.theory.proofs.Reach.{settle}

-- a cell of a new row at c
pub record Owns (D : Description) (W : Tables) (c : ℕ) (N : ℕ → ℕ → Row) (r v k : ℕ) : Type 0 where
  pub range : in_range D r k (N r v k).class ≡ true
  pub below : over D c (N r v k).class ≡ true
  pub over-key : over D (N r v k).class (N r v 1).class ≡ true
  pub owned : (N r v k).class ≢ c → N r v k ≡ lends (W r (N r v k).class v) (N r v 1) k (N r v k).class

-- column k of it, a reference
pub record Names (D : Description) (W : Tables) (c : ℕ) (N : ℕ → ℕ → Row) (r v k : ℕ) : Type 0 where
  pub there : (N (refers_of D r) (N r v k).value 1).value ≡ (N r v k).value
  pub one : (N r v k).class ≢ c → W (refers_of D r) (N r v k).class (N r v k).value 1 ≡ N (refers_of D r) (N r v k).value 1

pub record Apt (D : Description) (W : Tables) (c : ℕ) (N : ℕ → ℕ → Row) (E : Above) : Type 0 where
  pub level : c < D.levels
  pub keyed : (r v : ℕ) → Absent (N r v) ⊎ Keyed (N r v) v
  pub cells : (r v k : ℕ) → (N r v k ≡ nocell) ⊎ Owns D W c N r v k
  pub refs : (r v k : ℕ) → k ≡ foreign_of D r → (N r v k).value ≢ 0 → Names D W c N r v k
  -- a row that is there before and after is one entity
  pub stable : (r v : ℕ) → Keyed (N r v) v → Keyed (W r c v) v → N r v 1 ≡ W r c v 1
  -- a deleted entity was c's own, and has no row at c left
  pub gone : (r v : ℕ) → E.gone r v ≡ true → (v ≢ 0) × Absent (N r v)
  -- c's own entity is deleted or stays
  pub base : (r v : ℕ) → (W r c v 1).value ≢ 0 → (W r c v 1).class ≡ c → (E.gone r v ≡ true) ⊎ (N r v 1 ≡ W r c v 1)
  -- the cells above that c lends become what the new row at c lends
  pub settled : (r v k : ℕ) → (W r c v 1).value ≢ 0 → (E.gone r v ≡ true → (W r c v 1).class ≡ c → ⊥)
      → settle c (E.change r v k) (lends (W r c v) (W r c v 1) k c) ≡ lends (N r v) (W r c v 1) k c
  -- a new row of an entity that is not c's own lends nothing
  pub fresh : (r v k : ℕ) → Absent (W r c v) → (N r v 1).class ≢ c → lends (N r v) (N r v 1) k c ≡ cell 0 c
  -- a reference that is handed up names a row at c
  pub taken : (r v k x : ℕ) → E.change r v k ≡ take x → k ≡ foreign_of D r → x ≢ 0 → Keyed (W (refers_of D r) c x) x
