-- The levels, one after another: what is left when some are passed, and that what is known stays known.
-- Assumes nothing.
use Rattle.std.specs.Prelude.{if◌then◌else◌}
use Prim.Native.Nat.{ℕ, ◌+◌, ◌≤◌, ◌<◌}
use mathlib.Core.Path.{◌≡◌, refl, sym, ap, ◌∙◌, subst, fun_ext}
use mathlib.Core.Bool.{Bool, true, false, ◌&&◌}
use mathlib.Core.Logic.{◌≢◌, ◌⊎◌, inl, inr}
use native.Mathlib.Omega.{arith}
use lib.Dec.{eqb, ltb}
use borrow.Author.Tests.{eq-eqb, ne_eqb, lt-ltb, le-ltb, ltb-true, ltb-false}
use Rattle.bounded.proofs.Cases.{cases, order}
use Rattle.model.specs.declared.Description.{Description}
use Rattle.model.specs.Description.{row_count, foreign_of, refers_of}
use Rattle.model.specs.Tables.{Cell, Row, cell, nocell, same, Level, State, rows_of, at}
use Rattle.model.specs.Effect.{keep, changed, gone_at, reach}
use Rattle.theory.proofs.Described.{sound-laws}
use Rattle.theory.proofs.Reach.{Side, at_c, over-c, off-c, side}
use Rattle.cells.specs.Changed.{change_level}
use Rattle.above.specs.declared.plan.Plan.{Plan}
use Rattle.above.specs.declared.plan.Change.{Change}
use Rattle.above.specs.declared.plan.Change.TheVariants as Changes
use Rattle.above.specs.Facts.{chosen_at, effect_of, planned, change_of, above_of, carried, carried_below, Working, Planned}
use Rattle.above.proofs.Carried.{carried-own, carried-cell, carried-local, off, reach-nothing}

-- ---- the levels, one after another

module _ (n : ℕ) (d : Description) (c r : ℕ) (P : Plan) (S : State) where
  pub below-reached : (l : ℕ) → l < n → carried_below n d c r P S l ≡ carried d c r P S l
  unfolding carried_below
  below-reached l h = rw (lt-ltb l n h)

  -- a level that has not been come to stays
  pub below-still : (l : ℕ) → n ≤ l → carried_below n d c r P S l ≡ S l
  unfolding carried_below
  below-still l h = rw (le-ltb l n h)

  -- and so does the subject's own
  pub below-own : carried_below n d c r P S c ≡ S c
  below-own = cases (ltb c n) (λ t. below-reached c (ltb-true c n t) ∙ carried-own d c r P S) (λ t. below-still c (ltb-false c n t))

module _ (d : Description) (c r : ℕ) (P : Plan) (S₀ : State) where
  pub levels-start : S₀ ≡ carried_below 0 d c r P S₀
  levels-start = fun_ext (λ l. sym (below-still 0 d c r P S₀ l (omega arith)))

  pub levels-more : (n : ℕ) {S S' : State} → S ≡ carried_below n d c r P S₀ → S' ≡ change_level n (λ B. carried d c r P S n) S → S' ≡ carried_below (n + 1) d c r P S₀
  unfolding change_level
  levels-more n {S} {S'} p q = fun_ext (λ l. ap (λ (T : State). T l) q ∙ order l n (under l) (here l) (past l))
    where
      is : (l : ℕ) → S l ≡ carried_below n d c r P S₀ l
      is l = ap (λ (T : State). T l) p

      under : (l : ℕ) → l < n → (if eqb n l then carried d c r P S n else S l) ≡ carried_below (n + 1) d c r P S₀ l
      under l h = rw (ne_eqb n l (λ e. omega arith)) (is l ∙ below-reached n d c r P S₀ l h ∙ sym (below-reached (n + 1) d c r P S₀ l (omega arith)))

      here : (l : ℕ) → l ≡ n → (if eqb n l then carried d c r P S n else S l) ≡ carried_below (n + 1) d c r P S₀ l
      here l e =
          rw (e, eq-eqb n n refl)
          (carried-local d c r P S S₀ n (is c ∙ below-own n d c r P S₀) (is n ∙ below-still n d c r P S₀ n (omega arith)) ∙ sym (below-reached (n + 1) d c r P S₀ n (omega arith)))

      past : (l : ℕ) → n < l → (if eqb n l then carried d c r P S n else S l) ≡ carried_below (n + 1) d c r P S₀ l
      past l h = rw (ne_eqb n l (λ e. omega arith)) (is l ∙ below-still n d c r P S₀ l (omega arith) ∙ sym (below-still (n + 1) d c r P S₀ l (omega arith)))

  -- no level past the last is above
  pub levels-end : (n : ℕ) {S : State} → Working d r c S₀ → S ≡ carried_below n d c r P S₀ → n ≡ d.levels → S ≡ carried d c r P S₀
  levels-end n {S} W p e = fun_ext (λ l. ap (λ (T : State). T l) p ∙ cases (ltb l n) (λ t. below-reached n d c r P S₀ l (ltb-true l n t)) (λ t. past l (ltb-false l n t)))
    where
      past : (l : ℕ) → n ≤ l → carried_below n d c r P S₀ l ≡ carried d c r P S₀ l
      past l h =
          below-still n d c r P S₀ l h
          ∙ sym (off d c r P S₀ l (λ q. omega (arith, W.level)) (λ o. let g = ((sound-laws d W.sound-is).within l c o).0 in omega arith))

-- ---- what is known stays known

module _ (d : Description) (r c : ℕ) (P : Plan) (S : State) (W : Working d r c S) (Q : Planned d r c P ((S c).rows r)) where
  change-key : (l s : ℕ) (h : Bool) (x : Cell) → ((changed d (at d (rows_of S)) c s l 1 (if h then change_of P 1 else keep) x).value ≡ x.value) ⊎ ((changed d (at d (rows_of S)) c s l 1 (if h then change_of P 1 else keep) x).value ≡ 0)
  unfolding changed change_of effect_of
  change-key l s true x = go (planned P 1) refl
    where
      go : (h : Change) → planned P 1 ≡ h → ((changed d (at d (rows_of S)) c s l 1 (effect_of (planned P 1)) x).value ≡ x.value) ⊎ ((changed d (at d (rows_of S)) c s l 1 (effect_of (planned P 1)) x).value ≡ 0)
      go Changes.Keep e = rw e (inl refl)
      go (Changes.Take v o) e = absurd (Q.key v o e)
      go (Changes.Only v o) e = rw e (cases (same x (cell v o)) (λ u. rw u (inl refl)) (λ u. rw u (inr refl)))
  change-key l s false x = inl refl

  -- a row keeps its key or loses it
  reach-key : (l s : ℕ) (R : Row) → ((reach d (at d (rows_of S)) c (above_of d c r P (S c).rows) s l R 1).value ≡ (R 1).value) ⊎ ((reach d (at d (rows_of S)) c (above_of d c r P (S c).rows) s l R 1).value ≡ 0)
  unfolding reach above_of
  reach-key l s R =
      cases (gone_at d (at d (rows_of S)) c (above_of d c r P (S c).rows) l (R 1).value s)
      (λ t. rw t (inr refl))
      (λ t. cases (eqb (R 1).class c && same (R 1) (at d (rows_of S) s c (R 1).value 1))
      (λ u. rw (t, u) (change-key l s (eqb s r && chosen_at (row_count d s) P.chosen ((S c).rows s) (R 1).value) (R 1)))
      (λ u. cases (eqb 1 (foreign_of d s) && gone_at d (at d (rows_of S)) c (above_of d c r P (S c).rows) l (R 1).value (refers_of d s))
      (λ w. rw (t, u, w) (inr refl))
      (λ w. rw (t, u, w) (inl refl))))

  module _ (n : ℕ) where
    abbrev S' : State
    S' = carried_below n d c r P S

    -- a level stays or is reached cell for cell
    below-level : (l : ℕ) → (S' l ≡ S l) ⊎ ((s i k : ℕ) → (S' l).rows s i k ≡ reach d (at d (rows_of S)) c (above_of d c r P (S c).rows) s l ((S l).rows s i) k)
    below-level l = cases (ltb l n) (λ t. go (below-reached n d c r P S l (ltb-true l n t)) (side d c l)) (λ t. inl (below-still n d c r P S l (ltb-false l n t)))
      where
        go : S' l ≡ carried d c r P S l → Side d c l → (S' l ≡ S l) ⊎ ((s i k : ℕ) → (S' l).rows s i k ≡ reach d (at d (rows_of S)) c (above_of d c r P (S c).rows) s l ((S l).rows s i) k)
        go p (at_c e) = inl (rw e (below-own n d c r P S))
        go p (over-c m o) = inr (λ s i k. ap (λ (B : Level). B.rows s i k) p ∙ carried-cell d c r P S l m o s i k)
        go p (off-c m o) = inl (p ∙ off d c r P S l m o)

    none : (s l i k : ℕ) → (S l).rows s i k ≡ nocell → (S' l).rows s i k ≡ nocell
    none s l i k e = go (below-level l)
      where
        go : (S' l ≡ S l) ⊎ ((s i k : ℕ) → (S' l).rows s i k ≡ reach d (at d (rows_of S)) c (above_of d c r P (S c).rows) s l ((S l).rows s i) k) → (S' l).rows s i k ≡ nocell
        go (inl p) = ap (λ (B : Level). B.rows s i k) p ∙ e
        go (inr f) = f s i k ∙ reach-nothing d r c P S W Q l s ((S l).rows s i) k e

    key : (s l i : ℕ) → ((S' l).rows s i 1).value ≢ 0 → ((S' l).rows s i 1).value ≡ ((S l).rows s i 1).value
    key s l i nz = go (below-level l)
      where
        kept : ((reach d (at d (rows_of S)) c (above_of d c r P (S c).rows) s l ((S l).rows s i) 1).value ≡ ((S l).rows s i 1).value) ⊎ ((reach d (at d (rows_of S)) c (above_of d c r P (S c).rows) s l ((S l).rows s i) 1).value ≡ 0)
            → ((S' l).rows s i 1).value ≡ (reach d (at d (rows_of S)) c (above_of d c r P (S c).rows) s l ((S l).rows s i) 1).value → ((S' l).rows s i 1).value ≡ ((S l).rows s i 1).value
        kept (inl e) p = p ∙ e
        kept (inr z) p = absurd (nz (p ∙ z))

        go : (S' l ≡ S l) ⊎ ((s i k : ℕ) → (S' l).rows s i k ≡ reach d (at d (rows_of S)) c (above_of d c r P (S c).rows) s l ((S l).rows s i) k) → ((S' l).rows s i 1).value ≡ ((S l).rows s i 1).value
        go (inl p) = ap (λ (B : Level). (B.rows s i 1).value) p
        go (inr f) = kept (reach-key l s ((S l).rows s i)) (ap (λ (x : Cell). x.value) (f s i 1))

    working-below : Working d r c (carried_below n d c r P S)
    working-below = record {
      sound-is = W.sound-is;
      relation = W.relation;
      level = W.level;
      outside = λ s l i k h. none s l i k (W.outside s l i k h);
      beyond = λ s l i k h. none s l i k (W.beyond s l i k h);
      one-row = λ s l i j nz e. W.one-row s l i j (λ z. nz (key s l i nz ∙ z)) (sym (key s l i nz) ∙ e ∙ key s l j (λ z. nz (e ∙ z)));
    }

    planned_below : Planned d r c P ((carried_below n d c r P S c).rows r)
    planned_below = subst (λ (B : Level). Planned d r c P (B.rows r)) (sym (below-own n d c r P S)) Q

    -- so of tables that are as they are when the levels below n are passed
    pub working-as : {T : State} → T ≡ carried_below n d c r P S → Working d r c T
    working-as e = subst (Working d r c) (sym e) working-below

    pub planned-as : {T : State} → T ≡ carried_below n d c r P S → Planned d r c P ((T c).rows r)
    planned-as e = subst (λ (T : State). Planned d r c P ((T c).rows r)) (sym e) planned_below
