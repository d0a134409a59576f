-- DELETE's effect is apt. W finds rows by key, N the new rows at c.
-- Assumes nothing.
use Rattle.std.specs.Prelude.{if◌then◌else◌}
use Prim.Native.Nat.{ℕ, ◌<◌}
use mathlib.Core.Bool.{true, false, ◌&&◌, false≢true}
use mathlib.Core.List.{List}
use mathlib.Core.Logic.{◌≢◌, ◌⊎◌, inl, inr}
use mathlib.Core.Path.{◌≡◌, refl, sym, ap, ◌∙◌}
use lib.Dec.{eqb}
use Rattle.bounded.proofs.Reflection.{if-cases, is_true, is_false, decide, bool-r, and_r, eqb-r}
use Rattle.model.specs.Conditions.{met}
use Rattle.model.specs.Description.{foreign_of, refers_of}
use Rattle.model.specs.Effect.{Rows, keep, take, only, Above}
use Rattle.model.specs.Tables.{Cell, cell, nocell, norow, Tables, lends}
use Rattle.model.specs.declared.Description.{Description}
use Rattle.theory.specs.Laws.{Laws}
use Rattle.theory.proofs.Fine.{same-r, Held, Named, Absent, Keyed, Fine, lends-no, value_of, nocell-class, no-level, key-is, lends-class}
use Rattle.theory.proofs.Reach.{settle}
use Rattle.theory.proofs.Apt.{Owns, Names, Apt}
use Rattle.theory.proofs.Update.{keep≢take, only≢take, met-used}

module _ (D : Description) (L : Laws D) (W : Tables) (c r₀ : ℕ) (q : List ℕ) (F : Fine D W) (level : c < D.levels)
    (unnamed : (r v k : ℕ) → refers_of D r ≡ r₀ → k ≡ foreign_of D r → (W r c v k).value ≢ 0 → met D q (W r₀ c (W r c v k).value) ≡ true → ⊥)
    (N : Rows) (E : Above)
    (own : (r v : ℕ) → N r v ≡ (if eqb r r₀ && met D q (W r c v) then norow else W r c v))
    (gone : (r v : ℕ) → E.gone r v ≡ (eqb r r₀ && (met D q (W r c v) && eqb (W r c v 1).class c)))
    (change : (r v k : ℕ) → E.change r v k ≡ (if eqb r r₀ && met D q (W r c v) then only nocell else keep)) where
  data Del (r v : ℕ) : Type 0 where
    out : r ≡ r₀ → met D q (W r c v) ≡ true → N r v ≡ norow → E.gone r v ≡ eqb (W r c v 1).class c → ((k : ℕ) → E.change r v k ≡ only nocell) → Del r v
    left : N r v ≡ W r c v → E.gone r v ≡ false → ((k : ℕ) → E.change r v k ≡ keep) → Del r v

  del : (r v : ℕ) → Del r v
  del r v = go (decide (and_r (eqb-r r r₀) (bool-r (met D q (W r c v)))))
    where
      go : ((r ≡ r₀) × (met D q (W r c v) ≡ true)) ⊎ ((r ≡ r₀) × (met D q (W r c v) ≡ true) → ⊥) → Del r v
      go (inl h) = out h.0 h.1 (rw (own r v, t)) (rw (gone r v, is_true (eqb-r r r₀) h.0, h.1)) (λ k. rw (change r v k, t))
        where
          t : (eqb r r₀ && met D q (W r c v)) ≡ true
          t = is_true (and_r (eqb-r r r₀) (bool-r (met D q (W r c v)))) h
      go (inr n) = left (rw (own r v, t)) (gone r v ∙ is_false (and_r (eqb-r r r₀) (and_r (bool-r (met D q (W r c v))) (eqb-r (W r c v 1).class c))) (λ h. n (h.0, h.1.0))) (λ k. rw (change r v k, t))
        where
          t : (eqb r r₀ && met D q (W r c v)) ≡ false
          t = is_false (and_r (eqb-r r r₀) (bool-r (met D q (W r c v)))) n

  empty : (r v : ℕ) → Absent (W r c v) → Absent (N r v)
  empty r v a = go (del r v)
    where
      go : Del r v → Absent (N r v)
      go (out _ _ n _ _) = rw n (λ k. refl)
      go (left n _ _) = rw n a

  -- a row that a row at c names stays
  named-stays : (r v k : ℕ) → k ≡ foreign_of D r → (W r c v k).value ≢ 0 → N (refers_of D r) (W r c v k).value ≡ W (refers_of D r) c (W r c v k).value
  named-stays r v k f z = go (del (refers_of D r) (W r c v k).value)
    where
      go : Del (refers_of D r) (W r c v k).value → N (refers_of D r) (W r c v k).value ≡ W (refers_of D r) c (W r c v k).value
      go (out e m _ _ _) = absurd (unnamed r v k e f z (cc (m, e)))
      go (left n _ _) = n

  pub apt : Apt D W c N E
  unfolding settle
  apt = record {
    level = level;
    keyed = λ r v. keyed r v (del r v) (F.keyed r c v);
    cells = λ r v k. cells r v k (del r v) (F.cells r c v k);
    refs = λ r v k f n. refs r v k f n (del r v);
    stable = λ r v h _. stable r v h (del r v);
    gone = λ r v g. is-gone r v g (del r v);
    base = λ r v n e. base r v n e (del r v);
    settled = λ r v k n _. settled r v k n (del r v);
    fresh = λ r v k a _. lends-no (N r v) (N r v 1) k c (λ _ e. no-level L (sym e ∙ nocell-class (empty r v a k)) level);
    taken = λ r v k x e f n. absurd (no-take r v k x e (del r v));
  }
    where
      keyed : (r v : ℕ) → Del r v → Absent (W r c v) ⊎ Keyed (W r c v) v → Absent (N r v) ⊎ Keyed (N r v) v
      keyed r v (out _ _ n _ _) _ = inl (rw n (λ k. refl))
      keyed r v (left n _ _) h = rw n h

      cells : (r v k : ℕ) → Del r v → (W r c v k ≡ nocell) ⊎ Held D W r c v k → (N r v k ≡ nocell) ⊎ Owns D W c N r v k
      cells r v k (out _ _ n _ _) _ = inl (rw n)
      cells r v k (left n _ _) (inl z) = inl (rw n z)
      cells r v k (left n _ _) (inr h) = inr (record { range = rw n h.range; below = rw n h.below; over-key = rw n h.over-key; owned = λ _. rw n h.owned })

      refs : (r v k : ℕ) → k ≡ foreign_of D r → (N r v k).value ≢ 0 → Del r v → Names D W c N r v k
      refs r v k f z (out _ _ n _ _) = absurd (z (rw n))
      refs r v k f z (left n _ _) = record { there = cc (n, stays, name.there); one = λ _. cc (n, stays, name.one) }
        where
          some : (W r c v k).value ≢ 0
          some y = z (rw n y)

          name : Named D W r c v k
          name = F.refs r c v k f some

          stays : N (refers_of D r) (W r c v k).value ≡ W (refers_of D r) c (W r c v k).value
          stays = named-stays r v k f some

      stable : (r v : ℕ) → Keyed (N r v) v → Del r v → N r v 1 ≡ W r c v 1
      stable r v h (out _ _ n _ _) = absurd (h.1 (sym h.0 ∙ rw n))
      stable r v h (left n _ _) = rw n

      is-gone : (r v : ℕ) → E.gone r v ≡ true → Del r v → (v ≢ 0) × Absent (N r v)
      is-gone r v g (out _ m n _ _) = ((key-is F r c v (met-used D q (W r c v) m)).1, rw n (λ k. refl))
      is-gone r v g (left _ e _) = absurd (false≢true (sym e ∙ g))

      base : (r v : ℕ) → (W r c v 1).value ≢ 0 → (W r c v 1).class ≡ c → Del r v → (E.gone r v ≡ true) ⊎ (N r v 1 ≡ W r c v 1)
      base r v _ e (out _ _ _ g _) = inl (g ∙ is_true (eqb-r (W r c v 1).class c) e)
      base r v _ e (left n _ _) = inr (rw n)

      settled : (r v k : ℕ) → (W r c v 1).value ≢ 0 → Del r v → settle c (E.change r v k) (lends (W r c v) (W r c v 1) k c) ≡ lends (N r v) (W r c v 1) k c
      settled r v k z (left n _ h) = rw (h k, n)
      settled r v k z (out _ _ n _ h) =
          rw (h k, n)
          (if-cases (λ (y : Cell). y ≡ lends norow (W r c v 1) k c) (same-r (lends (W r c v) (W r c v 1) k c) nocell)
          (λ e. absurd (no-level L (sym (lends-class (W r c v) (W r c v 1) k c) ∙ nocell-class e) level))
          (λ _. ap (cell 0) (lends-class (W r c v) (W r c v 1) k c) ∙ sym (lends-no norow (W r c v 1) k c (λ e _. z (sym (value_of e))))))

      no-take : (r v k x : ℕ) → E.change r v k ≡ take x → Del r v → ⊥
      no-take r v k x e (out _ _ _ _ h) = only≢take (sym (h k) ∙ e)
      no-take r v k x e (left _ _ h) = keep≢take (sym (h k) ∙ e)
