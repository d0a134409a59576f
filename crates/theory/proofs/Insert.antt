-- INSERT's effect is apt. W finds rows by key, N the new rows at c.
-- Assumes nothing.
use Rattle.std.specs.Prelude.{if◌then◌else◌}
use Prim.Native.Nat.{ℕ, ◌<◌}
use mathlib.Core.Bool.{true, false, ◌&&◌, false≢true}
use mathlib.Core.List.{List}
use mathlib.Core.Logic.{◌≢◌, ◌⊎◌, inl, inr}
use mathlib.Core.Option.{Option, none, some}
use mathlib.Core.Path.{◌≡◌, refl, sym, ◌∙◌}
use lib.Dec.{eqb}
use Rattle.bounded.proofs.Reflection.{is_true, is_false, decide, and_r, eqb-r}
use Rattle.model.specs.Description.{foreign_of, refers_of, in_range}
use Rattle.model.specs.Effect.{Rows, keep, Above}
use Rattle.model.specs.Insert.{new_row}
use Rattle.model.specs.Listed.{listed}
use Rattle.model.specs.Tables.{cell, nocell, Tables, own_null, lends}
use Rattle.model.specs.declared.Description.{Description}
use Rattle.theory.specs.Laws.{Laws}
use Rattle.theory.proofs.Fine.{Held, Named, Absent, Keyed, Fine, lends-no, value_of, class_of, nocell-value, nocell-class, no-level, key-is}
use Rattle.theory.proofs.Reach.{settle, own-null}
use Rattle.theory.proofs.Apt.{Owns, Names, Apt}
use Rattle.theory.proofs.Update.{keep≢take}

module _ (D : Description) (L : Laws D) (W : Tables) (c r₀ v₀ : ℕ) (s : List ℕ) (F : Fine D W) (level : c < D.levels)
    (some_key : v₀ ≢ 0) (keyed : listed s 1 ≡ some v₀) (ranged : (k x : ℕ) → listed s k ≡ some x → in_range D r₀ k c ≡ true)
    (absent : Absent (W r₀ c v₀)) (names : (x : ℕ) → listed s (foreign_of D r₀) ≡ some x → x ≢ 0 → Keyed (W (refers_of D r₀) c x) x)
    (N : Rows) (E : Above)
    (own : (r v : ℕ) → N r v ≡ (if eqb r r₀ && eqb v v₀ then new_row D c r₀ s else W r c v))
    (none-gone : (r v : ℕ) → E.gone r v ≡ false) (change : (r v k : ℕ) → E.change r v k ≡ keep) where
  data Ins (r v : ℕ) : Type 0 where
    new : r ≡ r₀ → v ≡ v₀ → ((k : ℕ) → N r v k ≡ new_row D c r₀ s k) → Ins r v
    old : N r v ≡ W r c v → Ins r v

  ins : (r v : ℕ) → Ins r v
  ins r v = go (decide (and_r (eqb-r r r₀) (eqb-r v v₀)))
    where
      go : ((r ≡ r₀) × (v ≡ v₀)) ⊎ ((r ≡ r₀) × (v ≡ v₀) → ⊥) → Ins r v
      go (inl h) = new h.0 h.1 (λ k. rw (own r v, is_true (and_r (eqb-r r r₀) (eqb-r v v₀)) h))
      go (inr n) = old (rw (own r v, is_false (and_r (eqb-r r r₀) (eqb-r v v₀)) n))

  -- a cell of the new row: given, own null, or nothing
  data New (k : ℕ) : Type 0 where
    given : (x : ℕ) → listed s k ≡ some x → new_row D c r₀ s k ≡ cell x c → in_range D r₀ k c ≡ true → New k
    null : new_row D c r₀ s k ≡ cell 0 c → in_range D r₀ k c ≡ true → New k
    empty : new_row D c r₀ s k ≡ nocell → New k

  new-cell : (k : ℕ) → New k
  unfolding new_row
  new-cell k = go (listed s k) refl (own-null D r₀ k c)
    where
      go : (o : Option ℕ) → listed s k ≡ o → (own_null D r₀ k c ≡ nocell) ⊎ ((in_range D r₀ k c ≡ true) × (own_null D r₀ k c ≡ cell 0 c)) → New k
      go (some x) e _ = given x e (rw (e, new_row)) (ranged k x e)
      go none e (inl z) = empty (rw (e, new_row) z)
      go none e (inr h) = null (rw (e, new_row) h.1) h.0

  new-key : new_row D c r₀ s 1 ≡ cell v₀ c
  unfolding new_row
  new-key = rw (keyed, new_row)

  -- a row that was there keeps its key
  keeps : (r v : ℕ) → Keyed (W r c v) v → N r v ≡ W r c v
  keeps r v h = go (ins r v)
    where
      go : Ins r v → N r v ≡ W r c v
      go (new e f _) = absurd (h.1 (sym h.0 ∙ nocell-value {x = W r c v 1} (cc (e, f, absent 1))))
      go (old n) = n

  pub apt : Apt D W c N E
  unfolding settle
  apt = record {
    level = level;
    keyed = λ r v. key r v (ins r v);
    cells = λ r v k. cells r v k (ins r v) (new-cell k) (F.cells r c v k);
    refs = λ r v k f n. refs r v k f n (ins r v) (new-cell k);
    stable = λ r v _ h. rw (keeps r v h);
    gone = λ r v g. absurd (false≢true (sym (none-gone r v) ∙ g));
    base = λ r v n _. inr (rw (keeps r v (key-is F r c v n)));
    settled = λ r v k n _. rw (change r v k, keeps r v (key-is F r c v n));
    fresh = λ r v k a n. fresh r v k a n (ins r v);
    taken = λ r v k x e f n. absurd (keep≢take (sym (change r v k) ∙ e));
  }
    where
      key : (r v : ℕ) → Ins r v → Absent (N r v) ⊎ Keyed (N r v) v
      key r v (new _ f n) = inr (value_of (n 1 ∙ new-key) ∙ sym f, λ z. some_key (sym f ∙ z))
      key r v (old n) = rw n (F.keyed r c v)

      cells : (r v k : ℕ) → Ins r v → New k → (W r c v k ≡ nocell) ⊎ Held D W r c v k → (N r v k ≡ nocell) ⊎ Owns D W c N r v k
      cells r v k (new e f n) (empty z) _ = inl (n k ∙ z)
      cells r v k (new e f n) (null z i) _ = inr (record { range = cc (n k, z, e, i); below = cc (n k, z, L.reflexive c level); over-key = cc (n k, z, n 1, new-key, L.reflexive c level); owned = λ o. absurd (o (class_of (n k ∙ z))) })
      cells r v k (new e f n) (given x _ z i) _ = inr (record { range = cc (n k, z, e, i); below = cc (n k, z, L.reflexive c level); over-key = cc (n k, z, n 1, new-key, L.reflexive c level); owned = λ o. absurd (o (class_of (n k ∙ z))) })
      cells r v k (old n) _ (inl z) = inl (rw n z)
      cells r v k (old n) _ (inr h) = inr (record { range = rw n h.range; below = rw n h.below; over-key = rw n h.over-key; owned = λ _. rw n h.owned })

      refs : (r v k : ℕ) → k ≡ foreign_of D r → (N r v k).value ≢ 0 → Ins r v → New k → Names D W c N r v k
      refs r v k f z (new e _ n) (empty y) = absurd (z (value_of (n k ∙ y)))
      refs r v k f z (new e _ n) (null y _) = absurd (z (value_of (n k ∙ y)))
      refs r v k f z (new e _ n) (given x g y _) = record { there = cc (n k, y, keeps (refers_of D r) x is, is.0); one = λ o. absurd (o (class_of (n k ∙ y))) }
        where
          is : Keyed (W (refers_of D r) c x) x
          is = rw e (names x (cc (g, f, e)) (λ q. z (value_of (n k ∙ y) ∙ q)))
      refs r v k f z (old n) _ = record { there = cc (n, keep-it, name.there); one = λ _. cc (n, keep-it, name.one) }
        where
          some-ref : (W r c v k).value ≢ 0
          some-ref y = z (rw n y)

          name : Named D W r c v k
          name = F.refs r c v k f some-ref

          keep-it : N (refers_of D r) (W r c v k).value ≡ W (refers_of D r) c (W r c v k).value
          keep-it = keeps (refers_of D r) (W r c v k).value (name.there, some-ref)

      fresh : (r v k : ℕ) → Absent (W r c v) → (N r v 1).class ≢ c → Ins r v → lends (N r v) (N r v 1) k c ≡ cell 0 c
      fresh r v k a n (new _ _ e) = absurd (n (class_of (e 1 ∙ new-key)))
      fresh r v k a n (old e) = lends-no (N r v) (N r v 1) k c (λ _ q. no-level L (sym q ∙ nocell-class {x = N r v k} (rw e (a k))) level)
