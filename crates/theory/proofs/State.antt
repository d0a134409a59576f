-- One call on pages: what it is refused for, what it leaves, and what is heard.
-- Assumes nothing: these are definitions.
use Rattle.std.specs.Prelude.{if◌then◌else◌}
use mathlib.Core.Bool.{Bool, true, false}
use mathlib.Core.List.{◌∷◌}
use mathlib.Core.Option.{Option, none, some}
use Rattle.model.specs.Judge.{legal_pages}
use Rattle.model.specs.Run.{Request, subject, first_fault, tests, after, Reply, refused, done}
use Rattle.model.specs.Tables.{seen}
use Rattle.model.specs.Ledger.{Pages, cells_of}
use Rattle.model.specs.declared.Description.{Description}
use Rattle.model.specs.declared.Fault.{Fault}
use Rattle.model.specs.declared.Fault.TheVariants as Faults

unfoldable pub fault : Description → Request → Pages → Option Fault
fault d q P = first_fault ((legal_pages d P, Faults.Illegal) ∷ tests d q P)

unfoldable pub acts : Description → Request → Pages → Bool
acts d q P = elim (fault d q P) [ none ↦ true | some f ↦ false ]

-- "Each refusal .. changes no buffer."
unfoldable pub step : Description → Request → Pages → Pages
step d q P = if acts d q P then after d q P else P

unfoldable pub reply : Description → Request → Pages → Reply
reply d q P = elim (fault d q P) [ some f ↦ refused q f | none ↦ done d q (seen d (subject q) (cells_of P)) ]
