-- How a statement's tests end, link by link: a test fails, and that is its end, or it passes, and they end as those after it.
-- Assumes nothing.
use Prim.Native.Nat.{ℕ}
use mathlib.Core.Path.{◌≡◌, refl, sym, ap, ◌∙◌}
use mathlib.Core.Bool.{Bool, true, false}
use mathlib.Core.List.{List, [], ◌∷◌}
use mathlib.Core.Option.{Option, none, some}
use Rattle.model.specs.declared.Description.{Description}
use Rattle.model.specs.declared.Fault.{Fault}
use Rattle.std.specs.Prelude.{Ok, Err}
use Rattle.model.specs.Description.{over, in_range}
use Rattle.model.specs.Tables.{rows_of}
use Rattle.model.specs.Buffers.{holding, state_of}
use Rattle.model.specs.Listed.{each}
use Rattle.model.specs.Effect.{Effect}
use Rattle.model.specs.Insert.{listed_names}
use Rattle.asked.specs.declared.pairs.Rule.TheVariants as Rules
use Rattle.asked.specs.Facts.{rule_of}
use Rattle.change.specs.Facts.{Answered, refuses, sight}
use Rattle.change.specs.Tests.{Test, test_of, ended}
use Rattle.change.proofs.Answers.{first-fails, first_passes, first-none, listed-seen}

-- ---- the links

module _ (f : Fault) (ts : List (Bool × Fault)) {a : Bool} where
  pub fails : a ≡ false → Err f ≡ ended ((a, f) ∷ ts)
  unfolding test_of
  fails t = sym (ap test_of (first-fails f ts t))

  pub passes : {r : Test} → a ≡ true → r ≡ ended ts → r ≡ ended ((a, f) ∷ ts)
  passes t p = p ∙ sym (ap test_of (first_passes f ts t))

pub no_more : Ok tt ≡ ended []
unfolding test_of
no_more = sym (ap test_of first-none)

-- ---- how they ended

module _ {o : Option Fault} {a : Test} (e : a ≡ test_of o) where
  pub failed-by : {f : Fault} → a ≡ Err f → o ≡ some f
  unfolding test_of
  failed-by {f} p = go o (sym e ∙ p)
    where
      go : (o : Option Fault) → test_of o ≡ Err f → o ≡ some f
      go none q = cc
      go (some g) q = cc

  pub passed-by : a ≡ Ok tt → o ≡ none
  unfolding test_of
  passed-by p = go o (sym e ∙ p)
    where
      go : (o : Option Fault) → test_of o ≡ Ok tt → o ≡ none
      go none q = refl
      go (some g) q = cc

-- the fault of a test that failed is answered, and every cell stays
pub failed-answer : {d : Description} {c n : ℕ} {E : Effect} {vs cs : List ℕ} {tests : List (Bool × Fault)} {a : Test} {f : Fault}
    → a ≡ ended tests → a ≡ Err f → Answered d c tests n E vs cs vs cs (Err f)
failed-answer e p = refuses _ (failed-by e p) refl refl refl

-- ---- tests that INSERT and UPDATE have

-- the subject's level is in the range of each listed column
pub range-test : (d : Description) (r c : ℕ) (list : List ℕ) {a : Bool} → a ≡ each (rule_of d r (Rules.Takes c)) list → each (λ k v. in_range d r k c) list ≡ a
unfolding rule_of
range-test d r c list e = sym e

-- a reference that is listed has its row
pub names-test : (d : Description) (r c : ℕ) (list vs cs : List ℕ) → over d c c ≡ true → {b : Bool}
    → ((classes : List ℕ) → b ≡ listed_names d c r list (rows_of (state_of d (holding vs classes)))) → listed_names d c r list (rows_of (sight d c vs cs)) ≡ b
names-test d r c list vs cs o z = listed-seen d c (state_of d (holding vs cs)) o r list ∙ sym (z cs)
