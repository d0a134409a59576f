-- Nothing is vacuous: a statement to which two numbers apply, and the lesser is given; and one that passes every test.
-- Assumes nothing.
use Prim.Native.Nat.{◌<◌}
use mathlib.Core.Path.{◌≡◌, refl}
use mathlib.Core.Bool.{true, false}
use mathlib.Core.List.{[], ◌∷◌}
use native.Mathlib.Omega.{arith}
use Rattle.std.specs.Prelude.{Ok, Err}
use Rattle.model.specs.declared.Fault.TheVariants as Faults
use Rattle.model.specs.Ledger.{Ledger}
use Rattle.model.specs.Run.{Request, all_tests}
use Rattle.model.proofs.Computed.{computed}
use Rattle.model.proofs.Build.{insert_at, laid}
use Rattle.model.proofs.Worked.{five, no₁, no₂, X, ref}
use Rattle.theory.specs.Places.{entry_at}
use Rattle.theory.specs.Theorems.{hears, Test, number_of, First}
use Rattle.theory.proofs.Least.{least-given}

abbrev stored : Ledger
stored = laid five (X no₁ ref no₂)

-- ---- refused: level 1 has key 50 in relation 2, and no row with key 8 in relation 1

abbrev twofold : Request
twofold = insert_at 1 2 (1 ∷ 50 ∷ 2 ∷ 8 ∷ [])

pub taken-applies : Test (all_tests five stored twofold) 5 false Faults.Taken
unfolding computed entry_at
taken-applies = refl

pub reference-applies : Test (all_tests five stored twofold) 6 false Faults.Reference
unfolding computed entry_at
reference-applies = refl

pub taken-given : (hears five twofold stored).answer ≡ Err Faults.Taken
unfolding computed
taken-given = refl

pub taken-first : First (all_tests five stored twofold) Faults.Taken
taken-first = (least-given five stored twofold).first Faults.Taken taken-given

pub taken-less : number_of Faults.Taken < number_of Faults.Reference
taken-less = (least-given five stored twofold).rise 5 6 false false Faults.Taken Faults.Reference (omega arith) taken-applies reference-applies

-- ---- done: key 51, which names key 7

abbrev passing : Request
passing = insert_at 1 2 (1 ∷ 51 ∷ 2 ∷ 7 ∷ [])

pub passing-done : (hears five passing stored).answer ≡ Ok 1
unfolding computed
passing-done = refl

-- its last test is for 13
pub room-holds : Test (all_tests five stored passing) 7 true Faults.Full
unfolding computed entry_at
room-holds = refl
