-- A reference that is taken above: where it is lost, way by way, and the plan that is left of it.
-- Assumes nothing.
use Rattle.std.specs.Prelude.{if◌then◌else◌}
use Prim.Native.Nat.{ℕ, ◌<◌}
use mathlib.Core.Path.{◌≡◌, refl, sym, ap, ◌∙◌}
use mathlib.Core.Bool.{Bool, true, false, not, ◌&&◌}
use mathlib.Core.Logic.{◌≢◌}
use native.Mathlib.Omega.{arith}
use lib.Dec.{eqb}
use lib.ListN.{get_or}
use lib.Seq.{get_or-set_same, get_or-set_other}
use borrow.Author.Tests.{eq-eqb, ne_eqb, eqb-true, eqb-false}
use Rattle.bounded.proofs.Cases.{cases, and-false-right}
use Rattle.model.specs.declared.Description.{Description}
use Rattle.model.specs.Description.{foreign_of, refers_of, is_relation, sound}
use Rattle.model.specs.Tables.{Cell, cell, same, State, rows_of, at, own_null}
use Rattle.model.specs.Effect.{take, agrees, changed}
use Rattle.theory.proofs.Fine.{cell-path}
use Rattle.theory.proofs.Reach.{null-value}
use Rattle.cells.proofs.Counts.{relation-is, foreign-is, target-relation}
use Rattle.above.specs.declared.plan.Plan.{Plan}
use Rattle.above.specs.declared.plan.Change.{Change}
use Rattle.above.specs.declared.plan.Change.TheVariants as Changes
use Rattle.above.specs.Facts.{effect_of, planned, change_of, becomes, lost_as, lost_by, handed, given_by, Planned}

-- ---- the relation that is referred to

module _ (d : Description) (z : sound d ≡ true) (r : ℕ) (h : is_relation d r ≡ true) where
  pub foreign-small : foreign_of d r < 9
  foreign-small =
      cases (eqb (foreign_of d r) 0)
      (λ t. omega (arith, eqb-true (foreign_of d r) 0 t))
      (λ t. let R = relation-is d z r h in omega (arith, (R.referring (eqb-false _ _ t)).column, R.narrow))

  pub foreign-few : get_or d.foreign r 0 < 9
  foreign-few = rw (foreign-is d r h) foreign-small

  -- a relation with a column for it refers to a relation
  pub referred : get_or d.foreign r 0 ≢ 0 → is_relation d (get_or d.refers r 0) ≡ true
  referred n = target-relation d z r h (λ e. n (foreign-is d r h ∙ e))

-- ---- whether it is lost

-- what is not taken is not lost
untaken : (d : Description) (r c : ℕ) (S : State) (l : ℕ) (h : Change) → ((v o : ℕ) → h ≡ Changes.Take v o → ⊥) → lost_as d r c S l h ≡ false
unfolding lost_as
untaken d r c S l Changes.Keep n = refl
untaken d r c S l (Changes.Take v o) n = absurd (n v o refl)
untaken d r c S l (Changes.Only v o) n = refl

module _ (d : Description) (r : ℕ) (P : Plan) (c : ℕ) (S : State) (l : ℕ) {k : ℕ} (e : k ≡ foreign_of d r) where
  abbrev lost : Bool
  lost = lost_by d r P c S l

  pub lost-unreferring : k ≡ 0 → false ≡ lost
  unfolding lost_by
  lost-unreferring z = rw (← e, z)

  pub lost-untaken : ((v o : ℕ) → planned P k ≡ Changes.Take v o → ⊥) → false ≡ lost
  unfolding lost_by
  lost-untaken n = rw (← e, untaken d r c S l (planned P k) n) (sym (and-false-right (not (eqb k 0)) false refl))

  module _ (nz : k ≢ 0) {v o : ℕ} (is : planned P k ≡ Changes.Take v o) where
    pub lost-null : v ≡ 0 → false ≡ lost
    unfolding lost_by lost_as
    lost-null z = rw (← e, is, ne_eqb k 0 nz, z)

    pub lost-named : v ≢ 0 → {t : ℕ} {b : Bool} → t ≡ refers_of d r
        → b ≡ same (at d (rows_of S) t l v 1) (at d (rows_of S) t c v 1) → not b ≡ lost
    unfolding lost_by lost_as agrees
    lost-named n q p = rw (← e, is, ne_eqb k 0 nz, ne_eqb v 0 n, p, q)

-- ---- the plan at a level

module _ (d : Description) (r : ℕ) (P : Plan) (c : ℕ) (S : State) (l : ℕ) {b : Bool} (p : b ≡ lost_by d r P c S l) where
  pub given-whole : b ≡ false → P ≡ given_by d r P c S l
  unfolding given_by
  given-whole t = rw (← p, t)

  pub given-handed : b ≡ true → {k n : ℕ} {Q : Plan} → k ≡ foreign_of d r → n ≡ (own_null d r k l).class → Q ≡ handed P k n → Q ≡ given_by d r P c S l
  unfolding given_by
  given-handed t e f q = rw (← p, t, q, f, e)

-- the plan as it is at l
module _ (d : Description) (r c l : ℕ) (P : Plan) (S : State) (Q : Planned d r c P ((S c).rows r)) (f : foreign_of d r < 9) where
  abbrev G : Plan
  G = given_by d r P c S l

  pub given-chosen : G.chosen ≡ P.chosen
  unfolding given_by handed
  given-chosen = cases (lost_by d r P c S l) (λ t. rw t) (λ t. rw t)

  pub given-gone : G.gone ≡ P.gone
  unfolding given_by handed
  given-gone = cases (lost_by d r P c S l) (λ t. rw t) (λ t. rw t)

  given-kept : lost_by d r P c S l ≡ false → G ≡ P
  unfolding given_by
  given-kept t = rw t

  given-other : (k : ℕ) → k ≢ foreign_of d r → planned G k ≡ planned P k
  unfolding given_by handed
  given-other k n = cases (lost_by d r P c S l) (λ t. rw t (get_or-set_other P.changes (foreign_of d r) k _ Changes.Keep n)) (λ t. rw t)

  given-null : lost_by d r P c S l ≡ true → planned G (foreign_of d r) ≡ Changes.Take 0 (own_null d r (foreign_of d r) l).class
  unfolding given_by handed
  given-null t = rw t (get_or-set_same P.changes (foreign_of d r) _ Changes.Keep (omega (arith, Q.changes)))

  not-lost : {h : Change} → planned P (foreign_of d r) ≡ h → ((v o : ℕ) → h ≡ Changes.Take v o → ⊥) → lost_by d r P c S l ≡ false
  unfolding lost_by
  not-lost e n = rw (e, untaken d r c S l _ n) (and-false-right (not (eqb (foreign_of d r) 0)) false refl)

  -- the change stays, where no reference in that column is lost
  given-as : (k : ℕ) {h : Change} → planned P k ≡ h → (k ≡ foreign_of d r → lost_by d r P c S l ≡ false) → planned G k ≡ h
  given-as k e h =
      cases (eqb k (foreign_of d r))
      (λ t. ap (λ (X : Plan). planned X k) (given-kept (h (eqb-true _ _ t))) ∙ e)
      (λ t. given-other k (eqb-false _ _ t) ∙ e)

  module _ (k : ℕ) (least : 0 < k) where
    module _ (x : Cell) (v o : ℕ) (e : planned P k ≡ Changes.Take v o) where
      taken-kept : (k ≡ foreign_of d r → lost_by d r P c S l ≡ false) → cell v c ≡ becomes (planned G k) x
      unfolding becomes
      taken-kept h = rw (given-as k e h) (ap (cell v) (sym (Q.own k v o e)))

      taken-null : k ≡ foreign_of d r → lost_by d r P c S l ≡ true → own_null d r k l ≡ becomes (planned G k) x
      unfolding becomes
      taken-null q t = rw (q, given-null t) (cell-path (null-value d r (foreign_of d r) l) refl)

      -- where a reference is taken
      lost-is : k ≡ foreign_of d r → lost_by d r P c S l ≡ (not (eqb v 0) && not (agrees d (at d (rows_of S)) r l c v))
      unfolding lost_by lost_as
      lost-is q = rw (← q, e, ne_eqb k 0 (λ z. omega arith))

      taken : changed d (at d (rows_of S)) c r l k (take v) x ≡ becomes (planned G k) x
      unfolding changed
      taken = cases (eqb k (foreign_of d r)) (λ t. here (eqb-true _ _ t)) (λ t. rw t (taken-kept (λ q. absurd (eqb-false _ _ t q))))
        where
          here : k ≡ foreign_of d r → (if eqb k (foreign_of d r) && (not (eqb v 0) && not (agrees d (at d (rows_of S)) r l c v)) then own_null d r k l else cell v c) ≡ becomes (planned G k) x
          here q =
              cases (lost_by d r P c S l)
              (λ t. rw (eq-eqb _ _ q, sym (lost-is q) ∙ t) (taken-null q t))
              (λ t. rw (eq-eqb _ _ q, sym (lost-is q) ∙ t) (taken-kept (λ _. t)))

    -- what becomes of a cell of the subject's class in a touched row
    pub turns : (x : Cell) → changed d (at d (rows_of S)) c r l k (change_of P k) x ≡ becomes (planned G k) x
    unfolding change_of effect_of becomes changed
    turns x = go (planned P k) refl
      where
        go : (h : Change) → planned P k ≡ h → changed d (at d (rows_of S)) c r l k (effect_of (planned P k)) x ≡ becomes (planned G k) x
        go Changes.Keep e = rw (given-as k e (λ q. not-lost (rw q at e) (λ v o z. cc)), e)
        go (Changes.Take v o) e = rw e (taken x v o e)
        go (Changes.Only v o) e = rw (given-as k e (λ q. not-lost (rw q at e) (λ v o z. cc)), e)
