-- Nothing is vacuous: the judge gives each of its four verdicts.
-- Assumes nothing.
use mathlib.Core.Path.{◌≡◌, refl}
use mathlib.Core.List.{List, [], ◌∷◌, ◌++◌}
use lib.ListN.{replicate}
use Rattle.model.specs.declared.Description.{Description}
use Rattle.std.specs.Prelude.{Ok, Err}
use Rattle.model.specs.declared.Fault.TheVariants as Faults
use Rattle.model.specs.Tables.{Cell, cell, nocell}
use Rattle.model.specs.Judge.{judge}
use Rattle.model.proofs.Computed.{computed}
use Rattle.model.proofs.Build.{laid}
use Rattle.model.proofs.Worked.{described, five, one, no₂, X, row₁}

-- a row whose key is null and whose other cells aren't
abbrev illegal : List (List Cell)
illegal = X (one nocell (cell 5 3) nocell) no₂ no₂

-- no range at all: L isn't dominated by H
abbrev unsound : Description
unsound = described (0 ∷ 1 ∷ 2 ∷ 3 ∷ 259 ∷ []) (replicate 81 4) (replicate 81 0)

pub says-legal : judge five (laid five (X row₁ no₂ no₂)) ≡ (Ok tt)
unfolding computed
says-legal = refl

pub says-illegal : judge five (laid five illegal) ≡ (Err Faults.Illegal)
unfolding computed
says-illegal = refl

pub says-length : judge five (laid five (illegal ++ ((nocell ∷ []) ∷ []))) ≡ (Err Faults.Length)
unfolding computed
says-length = refl

pub says-description : judge unsound (laid unsound illegal) ≡ (Err Faults.Description)
unfolding computed
says-description = refl
