-- UPLEVEL's effect is apt. W finds rows by key, N the new rows at c.
-- Assumes nothing.
use Rattle.std.specs.Prelude.{if◌then◌else◌}
use Prim.Native.Nat.{ℕ, ◌<◌}
use mathlib.Core.Bool.{true, false, ◌&&◌, false≢true}
use mathlib.Core.List.{List}
use mathlib.Core.Logic.{◌≢◌, ◌⊎◌, inl, inr}
use mathlib.Core.Option.{Option, none, some}
use mathlib.Core.Path.{◌≡◌, refl, sym, ap, ◌∙◌, subst}
use native.Mathlib.Omega.{arith}
use lib.Dec.{eqb}
use Rattle.bounded.specs.Tests.{Reflects}
use Rattle.bounded.proofs.Reflection.{if-cases, is_true, is_false, decide, not-r, and_r, eqb-r}
use Rattle.model.specs.Description.{over, row_count, foreign_of, refers_of, in_range}
use Rattle.model.specs.Effect.{Rows, Change, keep, take, only, Above, agrees, lowest_empty}
use Rattle.model.specs.Listed.{listed}
use Rattle.model.specs.Tables.{Cell, cell, nocell, same, Row, Tables, place, seek, own_null, lends}
use Rattle.model.specs.Uplevel.{borrowed, raised}
use Rattle.model.specs.declared.Description.{Description}
use Rattle.theory.specs.Laws.{Laws}
use Rattle.theory.proofs.Fine.{same-r, Held, Named, Absent, Keyed, Fine, lends-yes, lends-no, lends-cong, value_of, class_of, nocell-value, nocell-class, no-level, key-is, lends-class}
use Rattle.theory.proofs.Reach.{settle, own-null}
use Rattle.theory.proofs.Apt.{Owns, Names, Apt}
use Rattle.theory.proofs.Update.{keep≢take, only≢take}

-- the place of the new row
abbrev pub place_of : Description → ℕ → Cell → Rows → ℕ
place_of D r e B = if same (seek (row_count D r) (B r) e.value 1) e then place (row_count D r) (B r) e.value else lowest_empty D B r

-- a cell of the new row: the entity's key; what the level FROM lends, where a reference names one entity there and at c; or own null
module _ (D : Description) (W : Tables) (c r : ℕ) (e : Cell) (s : List ℕ) (k : ℕ) where
  pub data Raised (y : Cell) : Type 0 where
    is_key : k ≡ 1 → y ≡ e → Raised y
    is-lent : (a : ℕ) → listed s k ≡ some a → (k ≡ foreign_of D r → y.value ≢ 0 → W (refers_of D r) c y.value 1 ≡ W (refers_of D r) a y.value 1)
        → y ≡ lends (W r a e.value) e k a → Raised y
    is-null : ((a : ℕ) → listed s k ≡ some a → (lends (W r a e.value) e k a).value ≢ 0) → y ≡ own_null D r k c → Raised y

  pub raises : Raised (raised D W c r e s k)
  unfolding raised borrowed agrees
  raises = if-cases Raised (eqb-r k 1) (λ q. is_key q refl) (λ _. go (listed s k) refl)
    where
      go : (o : Option ℕ) → listed s k ≡ o → Raised (elim o [ none ↦ own_null D r k c | some a ↦ borrowed D W c r e k a ])
      go none q = is-null (λ a p z. let y : ◌≡◌ {A = ℕ} 0 1 = cc (q, p) in omega arith) refl
      go (some a) q =
          if-cases Raised (and_r (eqb-r k (foreign_of D r)) (and_r (not-r (eqb-r x.value 0)) (not-r (same-r (W (refers_of D r) c x.value 1) (W (refers_of D r) a x.value 1)))))
          (λ h. is-null (λ b p z. h.1.0 (cc (q, p, z))) refl)
          (λ n. is-lent a q (λ f z. agree (λ o. n (f, (z, o))) (decide (same-r (W (refers_of D r) c x.value 1) (W (refers_of D r) a x.value 1)))) refl)
        where
          x : Cell
          x = lends (W r a e.value) e k a

          agree : {A : Type 0} → ((A → ⊥) → ⊥) → A ⊎ (A → ⊥) → A
          agree n (inl h) = h
          agree n (inr h) = absurd (n h)

module _ (D : Description) (L : Laws D) (W : Tables) (c r₀ : ℕ) (e : Cell) (s : List ℕ) (F : Fine D W) (level : c < D.levels)
    (some_key : e.value ≢ 0) (based : W r₀ e.class e.value 1 ≡ e) (sees : over D c e.class ≡ true) (keyless : listed s 1 ≡ none)
    (ranged : (k d : ℕ) → listed s k ≡ some d → (in_range D r₀ k d ≡ true) × (over D c d ≡ true) × (over D d e.class ≡ true))
    (free : Absent (W r₀ c e.value) ⊎ (W r₀ c e.value 1 ≡ e))
    (names : (d x : ℕ) → listed s (foreign_of D r₀) ≡ some d → (lends (W r₀ d e.value) e (foreign_of D r₀) d).value ≡ x → x ≢ 0 → Keyed (W (refers_of D r₀) c x) x)
    (N : Rows) (E : Above)
    (own : (r v : ℕ) → N r v ≡ (if eqb r r₀ && eqb v e.value then raised D W c r₀ e s else W r c v))
    (none-gone : (r v : ℕ) → E.gone r v ≡ false)
    (change : (r v k : ℕ) → E.change r v k ≡ (if eqb r r₀ && (eqb v e.value && same (W r₀ c e.value 1) e) then only (raised D W c r₀ e s k) else keep)) where
  R : Row
  R = raised D W c r₀ e s

  data Ups (r v : ℕ) : Type 0 where
    new : r ≡ r₀ → v ≡ e.value → ((k : ℕ) → N r v k ≡ R k) → Ups r v
    old : ((r ≡ r₀) × (v ≡ e.value) → ⊥) → N r v ≡ W r c v → Ups r v

  ups : (r v : ℕ) → Ups r v
  unfolding R
  ups r v = go (decide (and_r (eqb-r r r₀) (eqb-r v e.value)))
    where
      go : ((r ≡ r₀) × (v ≡ e.value)) ⊎ ((r ≡ r₀) × (v ≡ e.value) → ⊥) → Ups r v
      go (inl h) = new h.0 h.1 (λ k. rw (own r v, is_true (and_r (eqb-r r r₀) (eqb-r v e.value)) h))
      go (inr n) = old n (rw (own r v, is_false (and_r (eqb-r r r₀) (eqb-r v e.value)) n))

  -- a cell of the new row, where own null is null or nothing
  data New (k : ℕ) : Type 0 where
    key : k ≡ 1 → R k ≡ e → New k
    lent : (d : ℕ) → listed s k ≡ some d → R k ≡ lends (W r₀ d e.value) e k d
        → (k ≡ foreign_of D r₀ → (R k).value ≢ 0 → W (refers_of D r₀) c (R k).value 1 ≡ W (refers_of D r₀) d (R k).value 1) → New k
    null : R k ≡ cell 0 c → in_range D r₀ k c ≡ true → New k
    empty : R k ≡ nocell → New k

  new-cell : (k : ℕ) → New k
  unfolding R
  new-cell k = go (raises D W c r₀ e s k) (own-null D r₀ k c)
    where
      go : Raised D W c r₀ e s k (R k) → (own_null D r₀ k c ≡ nocell) ⊎ ((in_range D r₀ k c ≡ true) × (own_null D r₀ k c ≡ cell 0 c)) → New k
      go (is_key q p) _ = key q p
      go (is-lent d q ag p) _ = lent d q p ag
      go (is-null _ p) (inl z) = empty (p ∙ z)
      go (is-null _ p) (inr h) = null (p ∙ h.1) h.0

  R-key : R 1 ≡ e
  unfolding R raised
  R-key = refl

  key-class : e.class < D.levels
  key-class = (L.within c e.class sees).1

  base-range : in_range D r₀ 1 e.class ≡ true
  base-range = go (F.cells r₀ e.class e.value 1)
    where
      go : (W r₀ e.class e.value 1 ≡ nocell) ⊎ Held D W r₀ e.class e.value 1 → in_range D r₀ 1 e.class ≡ true
      go (inl z) = absurd (some_key (value_of (sym based ∙ z)))
      go (inr h) = cc (h.range, based)

  -- a row that was there keeps its key
  keeps-key : (r v : ℕ) → Keyed (W r c v) v → N r v 1 ≡ W r c v 1
  keeps-key r v h = go (ups r v) free
    where
      go : Ups r v → Absent (W r₀ c e.value) ⊎ (W r₀ c e.value 1 ≡ e) → N r v 1 ≡ W r c v 1
      go (new p f n) (inl a) = absurd (h.1 (sym h.0 ∙ nocell-value {x = W r c v 1} (cc (p, f, a 1))))
      go (new p f n) (inr q) = cc (p, f, n 1, R-key, q)
      go (old _ n) _ = rw n

  -- a cell of class c in the new row is null, or what c lent already
  own-cell : (k : ℕ) → (R k).class ≡ c → New k → (R k ≡ cell 0 c) ⊎ (R k ≡ lends (W r₀ c e.value) e k c)
  own-cell k h (key q p) = inr (p ∙ sym based ∙ cc (q, class_of p, h, sym (lends-yes (W r₀ e.class e.value) e 1 e.class based (class_of based))))
  own-cell k h (lent d q p _) = inr (cc (p, h, lends-class (W r₀ d e.value) e k d))
  own-cell k h (null z _) = inl z
  own-cell k h (empty z) = absurd (no-level L (sym h ∙ nocell-class z) level)

  core : (k : ℕ) → settle c (only (R k)) (lends (W r₀ c e.value) e k c) ≡ lends R e k c
  unfolding settle
  core k =
      if-cases (λ (y : Cell). y ≡ lends R e k c) (same-r (lends (W r₀ c e.value) e k c) (R k))
      (λ q. q ∙ sym (lends-yes R e k c R-key (class_of (sym q) ∙ lends-class (W r₀ c e.value) e k c)))
      (λ n. ap (cell 0) (lends-class (W r₀ c e.value) e k c) ∙ sym (go n (decide (eqb-r (R k).class c))))
    where
      go : lends (W r₀ c e.value) e k c ≢ R k → ((R k).class ≡ c) ⊎ ((R k).class ≢ c) → lends R e k c ≡ cell 0 c
      go n (inr m) = lends-no R e k c (λ _ q. m q)
      go n (inl q) = lends-yes R e k c R-key q ∙ by (own-cell k q (new-cell k))
        where
          by : (R k ≡ cell 0 c) ⊎ (R k ≡ lends (W r₀ c e.value) e k c) → R k ≡ cell 0 c
          by (inl z) = z
          by (inr y) = absurd (n (sym y))

  bare : (k : ℕ) → Absent (W r₀ c e.value) → lends R e k c ≡ cell 0 c
  bare k a = go (decide (eqb-r (R k).class c))
    where
      go : ((R k).class ≡ c) ⊎ ((R k).class ≢ c) → lends R e k c ≡ cell 0 c
      go (inr m) = lends-no R e k c (λ _ q. m q)
      go (inl q) = lends-yes R e k c R-key q ∙ by (own-cell k q (new-cell k))
        where
          by : (R k ≡ cell 0 c) ⊎ (R k ≡ lends (W r₀ c e.value) e k c) → R k ≡ cell 0 c
          by (inl z) = z
          by (inr y) = y ∙ lends-no (W r₀ c e.value) e k c (λ z _. some_key (value_of (sym z ∙ a 1)))

  pub apt : Apt D W c N E
  unfolding R settle
  apt = record {
    level = level;
    keyed = λ r v. keyed r v (ups r v);
    cells = λ r v k. cells r v k (ups r v) (new-cell k) (F.cells r c v k);
    refs = λ r v k f n. refs r v k f n (ups r v) (new-cell k);
    stable = λ r v _ h. keeps-key r v h;
    gone = λ r v g. absurd (false≢true (sym (none-gone r v) ∙ g));
    base = λ r v n _. inr (keeps-key r v (key-is F r c v n));
    settled = λ r v k n _. settled r v k n (ups r v) free;
    fresh = λ r v k a n. fresh r v k a n (ups r v);
    taken = λ r v k x q f n. absurd (no-take r v k x q);
  }
    where
      keyed : (r v : ℕ) → Ups r v → Absent (N r v) ⊎ Keyed (N r v) v
      keyed r v (new _ f n) = inr (value_of (n 1 ∙ R-key) ∙ sym f, λ z. some_key (sym f ∙ z))
      keyed r v (old _ n) = rw n (F.keyed r c v)

      cells : (r v k : ℕ) → Ups r v → New k → (W r c v k ≡ nocell) ⊎ Held D W r c v k → (N r v k ≡ nocell) ⊎ Owns D W c N r v k
      cells r v k (new p f n) (empty z) _ = inl (n k ∙ z)
      cells r v k (new p f n) (null z i) _ =
          inr (record { range = cc (n k, z, p, i); below = cc (n k, z, L.reflexive c level); over-key = cc (n k, z, n 1, R-key, sees); owned = λ o. absurd (o (class_of (n k ∙ z))) })
      cells r v k (new p f n) (key q z) _ =
          inr (record {
            range = cc (n k, z, p, q, base-range);
            below = cc (n k, z, sees);
            over-key = cc (n k, z, n 1, R-key, L.reflexive e.class key-class);
            owned = λ _. cc (n k, z, p, q, f, n 1, R-key, based, lends-yes (W r₀ e.class e.value) e 1 e.class based (class_of based));
          })
      cells r v k (new p f n) (lent d q z _) _ =
          inr (record { range = cc (is, p, (ranged k d q).0); below = cc (is, (ranged k d q).1); over-key = cc (is, n 1, R-key, (ranged k d q).2); owned = λ _. cc (is, p, f, n k, z, n 1, R-key) })
        where
          is : (N r v k).class ≡ d
          is = class_of (n k ∙ z) ∙ lends-class (W r₀ d e.value) e k d
      cells r v k (old _ n) _ (inl z) = inl (rw n z)
      cells r v k (old _ n) _ (inr h) = inr (record { range = rw n h.range; below = rw n h.below; over-key = rw n h.over-key; owned = λ _. rw n h.owned })

      refs : (r v k : ℕ) → k ≡ foreign_of D r → (N r v k).value ≢ 0 → Ups r v → New k → Names D W c N r v k
      refs r v k f z (new p _ n) (empty y) = absurd (z (value_of (n k ∙ y)))
      refs r v k f z (new p _ n) (null y _) = absurd (z (value_of (n k ∙ y)))
      refs r v k f z (new p _ n) (key q _) = absurd (L.apart r (sym f ∙ q))
      refs r v k f z (new p _ n) (lent d q y ag) = record { there = cc (kk, is.0); one = λ _. cc (kk, cls, n k, p, ag (cc (f, p)) (λ o. z (cc (n k, o)))) }
        where
          w : ℕ
          w = (N r v k).value

          cls : (N r v k).class ≡ d
          cls = class_of (n k ∙ y) ∙ lends-class (W r₀ d e.value) e k d

          is : Keyed (W (refers_of D r) c w) w
          is = subst (λ (i : ℕ). Keyed (W (refers_of D i) c w) w) (sym p) (names d w (cc (q, f, p)) (cc (n k, y, f, p)) z)

          kk : N (refers_of D r) w 1 ≡ W (refers_of D r) c w 1
          kk = keeps-key (refers_of D r) w is
      refs r v k f z (old _ n) _ = record { there = cc (n, kk, name.there); one = λ _. cc (n, kk, name.one) }
        where
          some-ref : (W r c v k).value ≢ 0
          some-ref y = z (rw n y)

          name : Named D W r c v k
          name = F.refs r c v k f some-ref

          kk : N (refers_of D r) (W r c v k).value 1 ≡ W (refers_of D r) c (W r c v k).value 1
          kk = keeps-key (refers_of D r) (W r c v k).value (name.there, some-ref)

      there? : (r v : ℕ) → Reflects ((r ≡ r₀) × ((v ≡ e.value) × (W r₀ c e.value 1 ≡ e))) (eqb r r₀ && (eqb v e.value && same (W r₀ c e.value 1) e))
      there? r v = and_r (eqb-r r r₀) (and_r (eqb-r v e.value) (same-r (W r₀ c e.value 1) e))

      settled : (r v k : ℕ) → (W r c v 1).value ≢ 0 → Ups r v → Absent (W r₀ c e.value) ⊎ (W r₀ c e.value 1 ≡ e)
          → settle c (E.change r v k) (lends (W r c v) (W r c v 1) k c) ≡ lends (N r v) (W r c v 1) k c
      settled r v k z (old m n) _ = rw (change r v k, is_false (there? r v) (λ h. m (h.0, h.1.0)), n)
      settled r v k z (new p f n) (inl a) = absurd (z (nocell-value {x = W r c v 1} (cc (p, f, a 1))))
      settled r v k z (new p f n) (inr q) = cc (ch, p, f, q, core k, lends-cong (N r v) R e k c (n 1) (n k))
        where
          ch : E.change r v k ≡ only (R k)
          ch = change r v k ∙ rw (is_true (there? r v) (p, (f, q)))

      fresh : (r v k : ℕ) → Absent (W r c v) → (N r v 1).class ≢ c → Ups r v → lends (N r v) (N r v 1) k c ≡ cell 0 c
      fresh r v k a m (old _ n) = lends-no (N r v) (N r v 1) k c (λ _ q. no-level L (sym q ∙ nocell-class {x = N r v k} (rw n (a k))) level)
      fresh r v k a m (new p f n) = cc (n 1, R-key, lends-cong (N r v) R e k c (n 1) (n k), bare k (λ k'. cc (p, f, a k')))

      no-take : (r v k x : ℕ) → E.change r v k ≡ take x → ⊥
      no-take r v k x q = if-cases (λ (h : Change). h ≡ take x → ⊥) (there? r v) (λ _ y. only≢take y) (λ _ y. keep≢take y) (sym (change r v k) ∙ q)
