-- Where no test of a list fails, each holds: by the number of its fault, so that a test put between two others moves no proof.
-- Assumes nothing.
use Rattle.std.specs.Prelude.{if◌then◌else◌}
use Prim.Native.Nat.{ℕ, zero, suc}
use mathlib.Core.Bool.{Bool, true}
use mathlib.Core.List.{List, [], ◌∷◌}
use mathlib.Core.Option.{none, some}
use mathlib.Core.Path.{◌≡◌, refl}
use native.Mathlib.Omega.{arith}
use lib.Dec.{eqb}
use Rattle.bounded.proofs.Cases.{cases}
use Rattle.bounded.proofs.Reflection.{if-cases, eqb-r}
use Rattle.model.specs.Numbers.{fault_number}
use Rattle.model.specs.Run.{first_fault}
use Rattle.model.specs.declared.Fault.{Fault}

-- the test that stands under a fault's number
abbrev pub test_under : ℕ → List (Bool × Fault) → Bool
test_under n [] = true
test_under n (t ∷ ts) = if eqb n (fault_number t.1) then t.0 else test_under n ts

-- the tests after the first few
abbrev pub tests_after : ℕ → List (Bool × Fault) → List (Bool × Fault)
tests_after zero ts = ts
tests_after (suc n) [] = []
tests_after (suc n) (t ∷ ts) = tests_after n ts

pub passed : (t : Bool × Fault) (ts : List (Bool × Fault)) → first_fault (t ∷ ts) ≡ none → (t.0 ≡ true) × (first_fault ts ≡ none)
unfolding first_fault
passed t ts e = cases t.0 (λ q. (q, rw (q, first_fault) at e)) (λ q. let h : some t.1 ≡ none = rw (q, first_fault) at e in let z : ◌≡◌ {A = ℕ} 0 1 = cc in absurd (omega (arith, z)))

pub pass : (ts : List (Bool × Fault)) → first_fault ts ≡ none → (n : ℕ) → test_under n ts ≡ true
pass [] e n = refl
pass (t ∷ ts) e n =
    if-cases (λ (b : Bool). b ≡ true) (eqb-r n (fault_number t.1)) (λ _. (passed t ts e).0) (λ _. pass ts (passed t ts e).1 n)

pub pass-after : (n : ℕ) (ts : List (Bool × Fault)) → first_fault ts ≡ none → first_fault (tests_after n ts) ≡ none
pass-after zero ts e = e
pass-after (suc n) [] e = e
pass-after (suc n) (t ∷ ts) e = pass-after n ts (passed t ts e).1
