-- What the theorems rely on of a description. Every sound one has it (proofs/Described.antt).
-- Assumes nothing: these are statements.
use Rattle.std.specs.Prelude.{ℕ, ◌<◌, ◌≤◌, ◌≡◌, ◌≢◌, true}
use Rattle.model.specs.declared.Description.{Description}
use Rattle.model.specs.Description.{over, is_relation, is_column, foreign_of, refers_of}

pub record Laws (d : Description) : Type 0 where
  pub reflexive : (a : ℕ) → a < d.levels → over d a a ≡ true
  pub transitive : (a b c : ℕ) → over d a b ≡ true → over d b c ≡ true → over d a c ≡ true
  pub antisymmetric : (a b : ℕ) → over d a b ≡ true → over d b a ≡ true → a ≡ b
  pub within : (a b : ℕ) → over d a b ≡ true → (a < d.levels) × (b < d.levels)
  -- no level is 255, which is the null class
  pub few : d.levels ≤ 255
  -- the foreign key column is never the key
  pub apart : (r : ℕ) → foreign_of d r ≢ 1
  pub lower : (r : ℕ) → foreign_of d r ≢ 0 → refers_of d r < r
  -- a relation has a key
  pub keyed : (r : ℕ) → is_relation d r ≡ true → is_column d r 1 ≡ true
