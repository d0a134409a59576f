-- Of the tests of a call that fail, the one with the least number is answered.
-- Assumes nothing.
use Prim.Native.Nat.{ℕ, zero, suc, ◌<◌, ◌≤◌}
use mathlib.Core.Bool.{Bool, true, false, ◌&&◌, false≢true}
use mathlib.Core.List.{List, [], ◌∷◌, map}
use mathlib.Core.Option.{Option, none, some}
use mathlib.Core.Path.{◌≡◌, refl, sym, ap, ◌∙◌}
use native.Mathlib.Nat.{le_of_suc-le-suc}
use native.Mathlib.Omega.{arith}
use lib.Dec.{ltb}
use Rattle.bounded.proofs.Cases.{cases, order, and_left, and_right}
use Rattle.bounded.proofs.Reflection.{of-true, ltb-r}
use Rattle.model.specs.declared.Description.{Description}
use Rattle.model.specs.declared.What.{What}
use Rattle.model.specs.declared.What.TheVariants as Whats
use Rattle.model.specs.declared.Fault.{Fault}
use Rattle.std.specs.Prelude.{Ok, Err}
use Rattle.model.specs.Answers.{Answer}
use Rattle.model.specs.Numbers.{fault_number, answer_number}
use Rattle.model.specs.Ledger.{Ledger, cells_of, pages_of}
use Rattle.model.specs.Insert.{insert_tests}
use Rattle.model.specs.Delete.{delete_tests}
use Rattle.model.specs.Update.{update_tests}
use Rattle.model.specs.Uplevel.{uplevel_tests}
use Rattle.model.specs.Select.{select_tests}
use Rattle.model.specs.Tables.{State, seen}
use Rattle.model.specs.Run.{Request, subject, Outcome, further, first_fault, tests, all_tests, refusal, refused, done}
use Rattle.theory.specs.Places.{entry_at}
use Rattle.theory.specs.Theorems.{hears, Test, number_of, numbers_for, First, LeastGiven, LeastIsGiven}
use Rattle.theory.proofs.Tests.{passed}
use Rattle.theory.proofs.Calls.{run-refused, run-done}

abbrev Tests : Type 0
Tests = List (Bool × Fault)

none≢some : {A : Type 0} {x : A} → none ≡ some x → ⊥
none≢some e = let z : ◌≡◌ {A = ℕ} 0 1 = cc in omega arith

some_is : {A : Type 0} {x y : A} → some x ≡ some y → x ≡ y
some_is e = cc

holds-is : {t u : Bool × Fault} → some t ≡ some u → t.0 ≡ u.0
holds-is e = ap (λ (x : Bool × Fault). x.0) (some_is e)

fault-is : {t u : Bool × Fault} → some t ≡ some u → t.1 ≡ u.1
fault-is e = ap (λ (x : Bool × Fault). x.1) (some_is e)

-- ---- the first test that fails

first_of : (ts : Tests) (fault : Fault) → first_fault ts ≡ some fault → First ts fault
unfolding first_fault entry_at
first_of [] fault e = absurd (none≢some e)
first_of (t ∷ ts) fault e = cases t.0 (λ h. later h (first_of ts fault (rw (h, first_fault) at e))) (λ h. here h (rw (h, first_fault) at e))
  where
    here : t.0 ≡ false → some t.1 ≡ some fault → First (t ∷ ts) fault
    here h f = record { place = 0; fails = ap some (λ i. (h i, some_is f i)); before = λ m x other l. absurd (omega (arith, l)) }

    later : t.0 ≡ true → First ts fault → First (t ∷ ts) fault
    later h r = record { place = suc r.place; fails = r.fails; before = before }
      where
        before : (m : ℕ) (x : Bool) (other : Fault) → m < suc r.place → Test (t ∷ ts) m x other → x ≡ true
        before zero x other _ e = sym (holds-is e) ∙ h
        before (suc m) x other l e = r.before m x other (le_of_suc-le-suc l) e

-- where there is none, every test holds
all_hold : (ts : Tests) → first_fault ts ≡ none → (n : ℕ) (x : Bool) (fault : Fault) → Test ts n x fault → x ≡ true
unfolding entry_at
all_hold [] _ n x fault e = absurd (none≢some e)
all_hold (u ∷ ts) f zero x fault e = sym (holds-is e) ∙ (passed u ts f).0
all_hold (u ∷ ts) f (suc n) x fault e = all_hold ts (passed u ts f).1 n x fault e

-- ---- the numbers rise

abbrev number : Bool × Fault → ℕ
number t = number_of t.1

rising_from : ℕ → List ℕ → Bool
rising_from low [] = true
rising_from low (x ∷ xs) = ltb low x && rising_from x xs

over-low : (low : ℕ) (ts : Tests) → rising_from low (map number ts) ≡ true → (n : ℕ) (x : Bool) (fault : Fault) → Test ts n x fault → low < number_of fault
unfolding rising_from entry_at
over-low low [] _ n x fault e = absurd (none≢some e)
over-low low (u ∷ ts) h zero x fault e = rw (← (fault-is e)) (of-true (ltb-r low (number u)) (and_left _ _ h))
over-low low (u ∷ ts) h (suc n) x fault e =
    omega (arith, of-true (ltb-r low (number u)) (and_left _ _ h), over-low (number u) ts (and_right (ltb low (number u)) _ h) n x fault e)

rises : (low : ℕ) (ts : Tests) → rising_from low (map number ts) ≡ true → (m n : ℕ) (x y : Bool) (fault other : Fault) → m < n → Test ts m x fault → Test ts n y other
    → number_of fault < number_of other
unfolding rising_from entry_at
rises low [] _ m n x y fault other _ e _ = absurd (none≢some e)
rises low (u ∷ ts) h zero zero x y fault other l _ _ = absurd (omega (arith, l))
rises low (u ∷ ts) h zero (suc n) x y fault other _ e f = rw (← (fault-is e)) (over-low (number u) ts (and_right (ltb low (number u)) _ h) n y other f)
rises low (u ∷ ts) h (suc m) zero x y fault other l _ _ = absurd (omega (arith, l))
rises low (u ∷ ts) h (suc m) (suc n) x y fault other l e f = rises (number u) ts (and_right (ltb low (number u)) _ h) m n x y fault other (le_of_suc-le-suc l) e f

-- ---- of one call

module _ (d : Description) (b : Ledger) (q : Request) where
  numbers : map number (all_tests d b q) ≡ numbers_for q.statement.what
  unfolding tests further insert_tests delete_tests update_tests uplevel_tests select_tests numbers_for answer_number fault_number
  numbers = go q.statement.what (seen d (subject q) (cells_of (pages_of d b)))
    where
      go : (w : What) (S : State) → 1 ∷ 2 ∷ 3 ∷ 4 ∷ map number (further d q w S) ≡ numbers_for w
      go Whats.Insert S = refl
      go Whats.Delete S = refl
      go Whats.Update S = refl
      go (Whats.Uplevel key class) S = refl
      go Whats.Select S = refl

  for-each : (w : What) → rising_from 0 (numbers_for w) ≡ true
  unfolding rising_from numbers_for
  for-each Whats.Insert = refl
  for-each Whats.Delete = refl
  for-each Whats.Update = refl
  for-each (Whats.Uplevel key class) = refl
  for-each Whats.Select = refl

  -- the answer is that of the first test that fails, or every test holds
  data Heard : Answer → Type 0 where
    at_first : (fault : Fault) → First (all_tests d b q) fault → Heard (Err fault)
    all_held : (count : ℕ) → ((n : ℕ) (x : Bool) (fault : Fault) → Test (all_tests d b q) n x fault → x ≡ true) → Heard (Ok count)

  heard : Heard (hears d q b).answer
  unfolding refusal refused done
  heard = go (refusal d b q) refl
    where
      go : (x : Option Fault) → refusal d b q ≡ x → Heard (hears d q b).answer
      go none e = rw (ap (λ (o : Outcome). o.reply.answer) (run-done d b q e)) (all_held _ (all_hold (all_tests d b q) e))
      go (some x) e = rw (ap (λ (o : Outcome). o.reply.answer) (run-refused d b q e)) (at_first x (first_of (all_tests d b q) x e))

  given : LeastGiven d b q
  unfolding answer_number
  given = record {
    numbers = numbers;
    rise = rise;
    first = first heard;
    least = least heard;
    done = all_done heard;
  }
    where
      rise : (m n : ℕ) (x y : Bool) (fault other : Fault) → m < n → Test (all_tests d b q) m x fault → Test (all_tests d b q) n y other → number_of fault < number_of other
      rise = rises 0 (all_tests d b q) (ap (rising_from 0) numbers ∙ for-each q.statement.what)

      first : {a : Answer} → Heard a → (fault : Fault) → a ≡ Err fault → First (all_tests d b q) fault
      first (all_held count h) fault e = absurd (let z : ◌≡◌ {A = ℕ} 0 1 = cc in omega arith)
      first (at_first x f) fault e = let p : x ≡ fault = cc in rw (← p) f

      least : {a : Answer} → Heard a → (n : ℕ) (fault : Fault) → Test (all_tests d b q) n false fault → answer_number a ≤ number_of fault
      least (all_held count h) n fault e = absurd (false≢true (h n false fault e))
      least (at_first answered f) n fault e =
          order n f.place
          (λ l. absurd (false≢true (f.before n false fault l e)))
          (λ p. let z : number_of answered ≡ number_of fault = ap number_of (fault-is (sym f.fails ∙ ap (entry_at (all_tests d b q)) (sym p) ∙ e)) in omega (arith, z))
          (λ l. let z : number_of answered < number_of fault = rise f.place n false false answered fault l f.fails e in omega (arith, z))

      all_done : {a : Answer} → Heard a → (count : ℕ) → a ≡ Ok count → (n : ℕ) (x : Bool) (fault : Fault) → Test (all_tests d b q) n x fault → x ≡ true
      all_done (all_held _ h) count e = h
      all_done (at_first x f) count e = absurd (let z : ◌≡◌ {A = ℕ} 0 1 = cc in omega arith)

pub least-given : LeastIsGiven
least-given d b q = given d b q
