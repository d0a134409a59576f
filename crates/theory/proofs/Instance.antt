-- Nothing is vacuous: the worked description and tables meet what the theorems assume, and two statements from levels apart both change a
-- level above them. The other files named Instance have witnesses of their own for the theorems that they name.
-- Assumes nothing.
use mathlib.Core.Path.{◌≡◌, refl, ap}
use native.Mathlib.Omega.{arith}
use mathlib.Core.Bool.{true, false≢true}
use Prim.Native.Nat.{ℕ}
use mathlib.Core.List.{[], ◌∷◌}
use lib.ListN.{replicate}
use Rattle.std.specs.Prelude.{Ok, Err}
use Rattle.model.specs.declared.Fault.TheVariants as Faults
use Rattle.model.specs.Description.{sound}
use Rattle.model.specs.Tables.{Cell, cell, at}
use Rattle.model.specs.Ledger.{Ledger}
use Rattle.model.specs.Run.{Request}
use Rattle.model.proofs.Computed.{computed}
use Rattle.model.proofs.Build.{update_at, uplevel_at, select_at, laid}
use Rattle.model.proofs.Worked.{five, one, no₁, no₂, levels, x₀, x₁, x₂, X, row₁}
use Rattle.theory.specs.Laws.{Laws}
use Rattle.theory.specs.Theorems.{Yes, tables, leaves, hears, Kept, Apart, Commute, Lists, Silent}
use Rattle.theory.proofs.Described.{sound-laws}
use Rattle.theory.proofs.Theorems.{stays-legal, refusal-keeps, apart-commute}
use Rattle.theory.proofs.Silence.{silence-shows}

-- ---- the worked description and tables X, with P1's row at level 3, as a ledger

five-sound : sound five ≡ true
unfolding computed
five-sound = refl

pub five-laws : Laws five
five-laws = sound-laws five five-sound

abbrev pub start : Ledger
start = laid five (X row₁ no₂ no₂)

pub start-legal : Yes five start
unfolding computed
start-legal = refl

-- ---- apart-commute: two statements from levels apart

-- at level 1 column 2 = 22, and at level 2 column 3 = 33
abbrev one_side : Request
one_side = update_at 1 1 (2 ∷ 22 ∷ []) []

abbrev other-side : Request
other-side = update_at 2 1 (3 ∷ 33 ∷ []) []

pub sides_apart : Apart five one_side other-side
unfolding computed
sides_apart = record { not-over = false≢true; not-under = false≢true }

-- each changes level 3, which borrows from both: 7/0 21/1 31/2 becomes 7/0 22/1 31/2, and 7/0 21/1 33/2
pub one-changes-above : leaves five one_side start ≡ laid five (levels x₀ (one (cell 7 0) (cell 22 1) (cell 30 0)) x₂ (one (cell 7 0) (cell 22 1) (cell 31 2)) no₂ no₂)
unfolding computed
one-changes-above = refl

pub other-changes-above : leaves five other-side start ≡ laid five (levels x₀ x₁ (one (cell 7 0) (cell 20 0) (cell 33 2)) (one (cell 7 0) (cell 21 1) (cell 33 2)) no₂ no₂)
unfolding computed
other-changes-above = refl

pub sides-commute : Commute five start one_side other-side
sides-commute = apart-commute five start one_side other-side start-legal sides_apart

-- ---- stays-legal: a statement that is done, and changes what is stored

pub start-stays : Yes five (leaves five one_side start)
start-stays = stays-legal five start one_side start-legal

-- ---- refusal-keeps: a SELECT whose output buffers are too short, by one number

abbrev short : Request
short = select_at 1 1 (0 ∷ 1 ∷ []) [] (replicate 6 9) (replicate 7 8)

pub short-refused : (hears five short start).answer ≡ Err Faults.Short
unfolding computed
short-refused = refl

pub short-keeps : Kept five start short
short-keeps = refusal-keeps five start short Faults.Short short-refused

-- ---- silence-shows: P6, level 2 is silent on column 2

abbrev borrowing : Request
borrowing = uplevel_at 3 1 7 255 (2 ∷ 2 ∷ [])

pub borrowing-done : (hears five borrowing (laid five (X no₁ no₂ no₂))).answer ≡ Ok 1
unfolding computed
borrowing-done = refl

pub borrowing-lists : Lists five (laid five (X no₁ no₂ no₂)) borrowing (cell 7 0) 2 2
unfolding computed
borrowing-lists = record { class = 255; what = refl; is = refl; column = refl }

pub borrowing-silent : Silent five (laid five (X no₁ no₂ no₂)) 1 (cell 7 0) 2 2
unfolding computed
borrowing-silent v n e f = let z : ◌≡◌ {A = ℕ} 0 2 = ap (λ (x : Cell). x.class) f in omega arith

-- so level 3 shows level 2 with nothing, and not the 20 that level 2 has from level 0
pub silence-shown : at five (tables five (leaves five borrowing (laid five (X no₁ no₂ no₂)))) 1 3 7 2 ≡ cell 0 2
silence-shown = (silence-shows five (laid five (X no₁ no₂ no₂)) borrowing (cell 7 0) 2 2 1 borrowing-done borrowing-lists borrowing-silent).1
