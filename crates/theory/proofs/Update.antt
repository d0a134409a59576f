-- UPDATE's effect is apt. W finds rows by key, N the new rows at c.
-- Assumes nothing.
use Rattle.std.specs.Prelude.{if◌then◌else◌}
use Prim.Native.Nat.{ℕ, ◌<◌}
use mathlib.Core.Bool.{true, false, ◌&&◌, false≢true}
use mathlib.Core.List.{List}
use mathlib.Core.Logic.{◌≢◌, ◌⊎◌, inl, inr}
use mathlib.Core.Option.{Option, none, some}
use mathlib.Core.Path.{◌≡◌, refl, sym, ◌∙◌}
use native.Mathlib.Omega.{arith}
use lib.Dec.{eqb}
use Rattle.bounded.proofs.Reflection.{is_true, is_false, of-true, decide, bool-r, not-r, and_r, eqb-r}
use Rattle.model.specs.Conditions.{met}
use Rattle.model.specs.Description.{foreign_of, refers_of, in_range}
use Rattle.model.specs.Effect.{Rows, keep, take, only, Above}
use Rattle.model.specs.Listed.{listed}
use Rattle.model.specs.Tables.{Cell, cell, nocell, Row, used, Tables, lends}
use Rattle.model.specs.Update.{set_in, take_in}
use Rattle.model.specs.declared.Description.{Description}
use Rattle.theory.specs.Laws.{Laws}
use Rattle.theory.proofs.Fine.{Held, Named, Absent, Keyed, Fine, lends-yes, lends-no, lends-cong, class_of, nocell-value, nocell-class, no-level, key_below}
use Rattle.theory.proofs.Reach.{settle}
use Rattle.theory.proofs.Apt.{Owns, Names, Apt}

pub keep≢take : {x : ℕ} → keep ≡ take x → ⊥
keep≢take e = let z : ◌≡◌ {A = ℕ} 0 1 = cc in omega arith

pub only≢take : {x : ℕ} {n : Cell} → only n ≡ take x → ⊥
only≢take e = let z : ◌≡◌ {A = ℕ} 0 1 = cc in omega arith

-- a row that meets conditions is in use
pub met-used : (D : Description) (q : List ℕ) (R : Row) → met D q R ≡ true → (R 1).value ≢ 0
unfolding met used
met-used D q R e = (of-true (and_r (not-r (eqb-r (R 1).value 0)) (bool-r _)) e).0

module _ (D : Description) (L : Laws D) (W : Tables) (c r₀ : ℕ) (s : List ℕ) (q : List ℕ) (F : Fine D W) (level : c < D.levels)
    (keyless : listed s 1 ≡ none) (ranged : (k x : ℕ) → listed s k ≡ some x → in_range D r₀ k c ≡ true)
    (names : (v x : ℕ) → met D q (W r₀ c v) ≡ true → listed s (foreign_of D r₀) ≡ some x → x ≢ 0 → Keyed (W (refers_of D r₀) c x) x)
    (N : Rows) (E : Above)
    (own : (r v : ℕ) → N r v ≡ (if eqb r r₀ && met D q (W r c v) then set_in c s (W r c v) else W r c v))
    (none-gone : (r v : ℕ) → E.gone r v ≡ false)
    (change : (r v k : ℕ) → E.change r v k ≡ (if eqb r r₀ && met D q (W r c v) then take_in s k else keep)) where
  data Up (r v k : ℕ) : Type 0 where
    given : (x : ℕ) → r ≡ r₀ → met D q (W r c v) ≡ true → listed s k ≡ some x → N r v k ≡ cell x c → E.change r v k ≡ take x → Up r v k
    left : N r v k ≡ W r c v k → E.change r v k ≡ keep → Up r v k

  up : (r v k : ℕ) → Up r v k
  unfolding set_in take_in
  up r v k = go (decide (and_r (eqb-r r r₀) (bool-r (met D q (W r c v))))) (listed s k) refl
    where
      hits : (r ≡ r₀) × (met D q (W r c v) ≡ true) → (eqb r r₀ && met D q (W r c v)) ≡ true
      hits h = is_true (and_r (eqb-r r r₀) (bool-r (met D q (W r c v)))) h

      misses : ((r ≡ r₀) × (met D q (W r c v) ≡ true) → ⊥) → (eqb r r₀ && met D q (W r c v)) ≡ false
      misses n = is_false (and_r (eqb-r r r₀) (bool-r (met D q (W r c v)))) n

      go : ((r ≡ r₀) × (met D q (W r c v) ≡ true)) ⊎ ((r ≡ r₀) × (met D q (W r c v) ≡ true) → ⊥) → (o : Option ℕ) → listed s k ≡ o → Up r v k
      go (inl h) (some x) e = given x h.0 h.1 e (rw (own r v, hits h, e, set_in)) (rw (change r v k, hits h, e, take_in))
      go (inl h) none e = left (rw (own r v, hits h, e, set_in)) (rw (change r v k, hits h, e, take_in))
      go (inr n) o e = left (rw (own r v, misses n)) (rw (change r v k, misses n))

  key : (r v : ℕ) → N r v 1 ≡ W r c v 1
  key r v = go (up r v 1)
    where
      go : Up r v 1 → N r v 1 ≡ W r c v 1
      go (given x _ _ e _ _) = cc (keyless, e)
      go (left e _) = e

  -- an empty row stays empty
  empty : (r v : ℕ) → Absent (W r c v) → Absent (N r v)
  empty r v a k = go (up r v k)
    where
      go : Up r v k → N r v k ≡ nocell
      go (given x e m _ _ _) = absurd (met-used D q (W r c v) m (nocell-value (a 1)))
      go (left e _) = e ∙ a k

  pub apt : Apt D W c N E
  unfolding settle
  apt = record {
    level = level;
    keyed = λ r v. keyed r v (F.keyed r c v);
    cells = λ r v k. cells r v k (up r v k) (F.cells r c v k);
    refs = λ r v k f n. refs r v k f n (up r v k);
    stable = λ r v _ _. key r v;
    gone = λ r v g. absurd (false≢true (sym (none-gone r v) ∙ g));
    base = λ r v _ _. inr (key r v);
    settled = λ r v k n _. settled r v k (up r v k);
    fresh = λ r v k a _. lends-no (N r v) (N r v 1) k c (λ _ e. no-level L (sym e ∙ nocell-class (empty r v a k)) level);
    taken = λ r v k x e f n. taken r v k x e f n (up r v k);
  }
    where
      keyed : (r v : ℕ) → Absent (W r c v) ⊎ Keyed (W r c v) v → Absent (N r v) ⊎ Keyed (N r v) v
      keyed r v (inl a) = inl (empty r v a)
      keyed r v (inr h) = inr (cc (key r v, h.0), h.1)

      cells : (r v k : ℕ) → Up r v k → (W r c v k ≡ nocell) ⊎ Held D W r c v k → (N r v k ≡ nocell) ⊎ Owns D W c N r v k
      cells r v k (given x e m g n _) _ =
          inr (record {
            range = cc (n, ranged k x g, e);
            below = cc (n, L.reflexive c level);
            over-key = cc (n, key r v, key_below F r c v (met-used D q (W r c v) m));
            owned = λ o. absurd (o (class_of n));
          })
      cells r v k (left n _) (inl z) = inl (n ∙ z)
      cells r v k (left n _) (inr h) =
          inr (record { range = cc (n, h.range); below = cc (n, h.below); over-key = cc (n, key r v, h.over-key); owned = λ _. cc (n, key r v, h.owned) })

      named : (r v k x : ℕ) → r ≡ r₀ → met D q (W r c v) ≡ true → k ≡ foreign_of D r → listed s k ≡ some x → x ≢ 0 → Keyed (W (refers_of D r) c x) x
      named r v k x e m f g z = rw e (names v x (cc (m, e)) (cc (g, f, e)) z)

      refs : (r v k : ℕ) → k ≡ foreign_of D r → (N r v k).value ≢ 0 → Up r v k → Names D W c N r v k
      refs r v k f z (given x e m g n _) =
          record { there = cc (n, key (refers_of D r) x, is.0); one = λ o. absurd (o (class_of n)) }
        where
          is : Keyed (W (refers_of D r) c x) x
          is = named r v k x e m f g (λ y. z (cc (n, y)))
      refs r v k f z (left n _) = record { there = cc (n, key (refers_of D r) (W r c v k).value, name.there); one = λ _. cc (n, key (refers_of D r) (W r c v k).value, name.one) }
        where
          name : Named D W r c v k
          name = F.refs r c v k f (λ y. z (cc (n, y)))

      settled : (r v k : ℕ) → Up r v k → settle c (E.change r v k) (lends (W r c v) (W r c v 1) k c) ≡ lends (N r v) (W r c v 1) k c
      settled r v k (given x e m g n h) = rw h (sym (lends-yes (N r v) (W r c v 1) k c (key r v) (class_of n) ∙ n))
      settled r v k (left n h) = rw h (lends-cong (W r c v) (N r v) (W r c v 1) k c (sym (key r v)) (sym n))

      taken : (r v k x : ℕ) → E.change r v k ≡ take x → k ≡ foreign_of D r → x ≢ 0 → Up r v k → Keyed (W (refers_of D r) c x) x
      taken r v k x e f z (given y p m g _ h) = named r v k x p m f (cc (g, h, e)) z
      taken r v k x e f z (left _ h) = absurd (keep≢take (sym h ∙ e))
