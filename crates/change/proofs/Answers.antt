-- What a statement is answered: the first of its tests that fails. What its subject sees of its own level, and the tables that an effect leaves.
-- Assumes nothing.
use Rattle.model.specs.Answers.{Answer}
use Prim.Native.Nat.{ℕ}
use mathlib.Core.Path.{◌≡◌, refl, sym, ap, ap₂, ◌∙◌, fun_ext}
use mathlib.Core.Bool.{Bool, true, false}
use mathlib.Core.List.{List, [], ◌∷◌}
use mathlib.Core.Logic.{◌≢◌}
use mathlib.Core.Option.{Option, none, some}
use native.Mathlib.Omega.{arith}
use lib.Dec.{eqb}
use lib.ListN.{length}
use borrow.Author.Tests.{eq-eqb, ne_eqb}
use Rattle.bounded.proofs.Cases.{cases}
use Rattle.model.specs.declared.Description.{Description}
use Rattle.model.specs.declared.Fault.{Fault}
use Rattle.model.specs.Description.{over, foreign_of, refers_of, total_of}
use Rattle.model.specs.Tables.{Row, Tables, State, rows_of, seen, same, at}
use Rattle.model.specs.Listed.{listed}
use Rattle.model.specs.Effect.{Effect, Above, keep, changed, gone_at, reach, carry, applied, names_row}
use Rattle.model.specs.Insert.{listed_names}
use Rattle.model.specs.Run.{first_fault, left}
use Rattle.model.specs.Buffers.{holding}
use Rattle.cells.proofs.Settled.{one-buffers}
use Rattle.theory.proofs.Seen.{seen_at}
use Rattle.change.specs.Facts.{Answered, refuses, does}

-- ---- the first test that fails

module _ (f : Fault) (ts : List (Bool × Fault)) {b : Bool} where
  pub first-fails : b ≡ false → first_fault ((b, f) ∷ ts) ≡ some f
  unfolding first_fault
  first-fails e = rw e

  pub first_passes : b ≡ true → first_fault ((b, f) ∷ ts) ≡ first_fault ts
  unfolding first_fault
  first_passes e = rw e

pub first-none : first_fault [] ≡ none
unfolding first_fault
first-none = refl

-- where no test fails, the first passes, and of the others none fails
pub passed-first : (t : Bool × Fault) (ts : List (Bool × Fault)) → first_fault (t ∷ ts) ≡ none → (t.0 ≡ true) × (first_fault ts ≡ none)
unfolding first_fault
passed-first t ts e = cases t.0 (λ u. (u, rw u at e)) (λ u. let z = (rw u at e) in cc)

-- ---- what a subject sees of its own level

module _ (d : Description) (c : ℕ) (S : State) (h : over d c c ≡ true) where
  pub names-seen : (r v : ℕ) → names_row d c r (rows_of (seen d c S)) v ≡ names_row d c r (rows_of S) v
  unfolding names_row
  names-seen r v = rw (seen_at d S c (refers_of d r) c v h)

  pub listed-seen : (r : ℕ) (list : List ℕ) → listed_names d c r list (rows_of (seen d c S)) ≡ listed_names d c r list (rows_of S)
  unfolding listed_names
  listed-seen r list = ap (all_named (listed list (foreign_of d r))) (fun_ext (names-seen r))
    where
      all_named : Option ℕ → (ℕ → Bool) → Bool
      all_named o f = elim o [ none ↦ true | some v ↦ f v ]

-- ---- the tables that an effect leaves

-- where nothing changes and nothing is deleted, a row above stays
pub reach-still : (d : Description) (W : Tables) (c : ℕ) (E : Above) → ((s v : ℕ) → E.gone s v ≡ false) → ((s v k : ℕ) → E.change s v k ≡ keep)
    → (r l : ℕ) (R : Row) (k : ℕ) → reach d W c E r l R k ≡ R k
unfolding reach gone_at changed
reach-still d W c E g n r l R k =
    rw (g r (R 1).value, g (refers_of d r) (R k).value, n r (R 1).value k)
    (cases (eqb (R k).class c)
    (λ t. cases (same (R 1) (W r c (R 1).value 1)) (λ u. rw (t, u)) (λ u. rw (t, u) (cases (eqb k (foreign_of d r)) (λ w. rw w) (λ w. rw w))))
    (λ t. rw t (cases (eqb k (foreign_of d r)) (λ w. rw w) (λ w. rw w))))

module _ (d : Description) (c : ℕ) (E : Effect) (S : State) where
  pub left-own : (r i k : ℕ) → (left d c (some E) S c).rows r i k ≡ E.own r i k
  unfolding left applied carry
  left-own r i k = rw (eq-eqb c c refl)

  pub left_over : (r l i k : ℕ) → l ≢ c → over d l c ≡ true → (left d c (some E) S l).rows r i k ≡ reach d (at d (rows_of S)) c E.above r l ((S l).rows r i) k
  unfolding left applied carry
  left_over r l i k n o = rw (ne_eqb l c n, o)

  pub left_other : (r l i k : ℕ) → l ≢ c → over d l c ≡ false → (left d c (some E) S l).rows r i k ≡ (S l).rows r i k
  unfolding left applied carry
  left_other r l i k n o = rw (ne_eqb l c n, o)

  -- of an effect that leaves the rows above as they are
  pub left-still : ((s v : ℕ) → E.above.gone s v ≡ false) → ((s v k : ℕ) → E.above.change s v k ≡ keep)
      → (r l i k : ℕ) → l ≢ c → (left d c (some E) S l).rows r i k ≡ (S l).rows r i k
  left-still g n r l i k m =
      cases (over d l c)
      (λ o. left_over r l i k m o ∙ reach-still d (at d (rows_of S)) c E.above g n r l ((S l).rows r i) k)
      (λ o. left_other r l i k m o)

-- ---- at most one outcome

-- two answers and two pairs of buffers that are what a statement promises are the same, where the buffers keep their lengths
pub one-answered : (d : Description) (c : ℕ) (tests : List (Bool × Fault)) (n : ℕ) (E : Effect) (vs cs us ds us' ds' : List ℕ) (a b : Answer)
    → length vs ≡ total_of d → length cs ≡ total_of d
    → length us ≡ length vs → length ds ≡ length cs → length us' ≡ length vs → length ds' ≡ length cs
    → Answered d c tests n E vs cs us ds a → Answered d c tests n E vs cs us' ds' b → (a ≡ b) × (holding us ds ≡ holding us' ds')
one-answered d c tests n E vs cs us ds us' ds' a b v w x y x' y' (refuses f t q e g) (refuses f' t' q' e' g') =
    (cc, ap₂ holding (e ∙ sym e') (g ∙ sym g'))
one-answered d c tests n E vs cs us ds us' ds' a b v w x y x' y' (refuses f t q e g) (does t' q' s') =
    let h : some f ≡ none = sym t ∙ t' in
    let z : ◌≡◌ {A = ℕ} 0 1 = cc in absurd (omega (arith, z))
one-answered d c tests n E vs cs us ds us' ds' a b v w x y x' y' (does t q s) (refuses f' t' q' e' g') =
    let h : some f' ≡ none = sym t' ∙ t in
    let z : ◌≡◌ {A = ℕ} 0 1 = cc in absurd (omega (arith, z))
one-answered d c tests n E vs cs us ds us' ds' a b v w x y x' y' (does t q s) (does t' q' s') =
    (q ∙ sym q', one-buffers d us ds us' ds' (x ∙ v) (y ∙ w) (x' ∙ v) (y' ∙ w) (s ∙ sym s'))
