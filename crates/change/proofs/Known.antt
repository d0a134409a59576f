-- What follows from what is known of a statement's relation and level.
-- Assumes nothing.
use Prim.Native.Nat.{ℕ, ◌<◌}
use mathlib.Core.Path.{◌≡◌}
use mathlib.Core.Bool.{true}
use mathlib.Core.List.{List}
use lib.ListN.{length}
use Rattle.model.specs.declared.Description.{Description}
use Rattle.model.specs.Description.{over, sound}
use Rattle.cells.specs.Layout.{InLevel, Lent}
use Rattle.cells.proofs.Counts.{in-level}
use Rattle.theory.proofs.Described.{sound-laws}
use Rattle.change.specs.Facts.{Standing}

-- ---- of a level

pub over-self : (d : Description) → sound d ≡ true → (c : ℕ) → c < d.levels → over d c c ≡ true
over-self d s c h = (sound-laws d s).reflexive c h

-- ---- of what stands

module _ {d : Description} {r c : ℕ} {vs cs : List ℕ} (S : Standing d r c vs cs) where
  pub own-level : InLevel d r c
  own-level = in-level d S.sound-is r S.relation c S.level

  pub lent : Lent d (length vs) (length cs)
  lent = record { values = S.long; classes = S.wide }

  pub own-over : over d c c ≡ true
  own-over = over-self d S.sound-is c S.level
