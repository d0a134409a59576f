-- An apt effect takes fine tables to fine tables: the rows above c.
-- Assumes nothing.
use Prim.Native.Nat.{ℕ, ◌<◌}
use mathlib.Core.Bool.{true}
use mathlib.Core.Logic.{◌≢◌, ◌⊎◌, inl, inr}
use mathlib.Core.Path.{◌≡◌, refl, sym, ap, ◌∙◌, subst}
use Rattle.bounded.proofs.Reflection.{if-cases, decide, and_r, eqb-r}
use Rattle.model.specs.Description.{over, foreign_of, refers_of, in_range}
use Rattle.model.specs.Effect.{Change, keep, take, only, Above, changed, reach, carry}
use Rattle.model.specs.Tables.{Cell, cell, nocell, Row, Tables, at, own_null, lends}
use Rattle.model.specs.declared.Description.{Description}
use Rattle.theory.specs.Laws.{Laws}
use Rattle.theory.proofs.Fine.{same-r, Held, Named, Absent, Keyed, Fine, lends-yes, lends-no, value_of, class_of, nocell-value, nocell-class, no-level, key_below, lends-class}
use Rattle.theory.proofs.Reach.{GoneAt, root, gone-some, gone-r, Gone, Hit, Cut, Reached, emptied, hit, cut, kept, reached, gone-empties, reach-empty, settle, settle-class, Lost, Changed, settled, lost, changes, own-null, null-value, carry_own, carry-above, carry-aside, Side, at_c, over-c, off-c, side}
use Rattle.theory.proofs.Apt.{Owns, Names, Apt}

module _ (D : Description) (L : Laws D) (W : Tables) (c : ℕ) (N : ℕ → ℕ → Row) (E : Above) (F : Fine D W) (A : Apt D W c N E) where
  -- a row in use, and its key
  key_of : (r l v : ℕ) → (W r l v 1).class ≢ 255 → Keyed (W r l v) v
  key_of r l v n = go (F.keyed r l v)
    where
      go : Absent (W r l v) ⊎ Keyed (W r l v) v → Keyed (W r l v) v
      go (inl a) = absurd (n (nocell-class (a 1)))
      go (inr k) = k

  -- ---- rows that are emptied

  pub some-gone : {l v r : ℕ} → GoneAt D W c E l v r → v ≢ 0
  some-gone {l} {v} g = gone-some D W c E l v (λ r v g. (A.gone r v g).0) g

  -- a row that is emptied is above c
  pub gone-over : {l v r : ℕ} → GoneAt D W c E l v r → over D l c ≡ true
  gone-over {l} {v} {r} (root g e) = cc (key_below F r l v (λ z. k.1 (sym k.0 ∙ z)), e)
    where
      k : Keyed (W r l v) v
      k = key_of r l v (λ q. no-level L (sym e ∙ q) A.level)

  -- of one entity all rows are emptied or none
  pub gone_same : (r d l v : ℕ) → W r d v 1 ≡ W r l v 1 → Keyed (W r l v) v → GoneAt D W c E d v r → GoneAt D W c E l v r
  gone_same r d l v q k (root g e) = root g (cc (q, e))

  -- a row at c that stays is none of them
  gone-own : {r v : ℕ} → GoneAt D W c E c v r → (N r v 1).value ≡ v → ⊥
  gone-own {r} {v} (root g e) k = (A.gone r v g).0 (cc (k, (A.gone r v g).1 1))

  pub gone_at_lem : {r l v w : ℕ} → w ≡ v → GoneAt D W c E l w r → GoneAt D W c E l v r
  gone_at_lem {r} {l} e g = subst (λ (x : ℕ). GoneAt D W c E l x r) e g

  module _ (r l v : ℕ) (ne : l ≢ c) (d : over D l c ≡ true) where
    pub stayed : (Gone D L W c E r l (W r l v) → ⊥) → reach D W c E r l (W r l v) 1 ≡ W r l v 1
    stayed ng = go (reached D L W c E r l (W r l v) 1)
      where
        go : {y : Cell} → Reached D L W c E r l (W r l v) 1 y → y ≡ W r l v 1
        go (emptied g e) = absurd (ng g)
        go (cut n _ t e) = absurd (L.apart r (sym t.0))
        go (kept n _ _ e) = e
        go (hit n h e) = changed-key (changes D W c r l 1 (E.change r (W r l v 1).value 1) (W r l v 1)) e
          where
            K : Keyed (W r l v) v
            K = key_of r l v (λ q. no-level L (sym h.0 ∙ q) A.level)

            at_c : W r l v 1 ≡ W r c v 1
            at_c = cc (h.1, K.0)

            some : (W r c v 1).value ≢ 0
            some z = K.1 (cc (K.0, at_c))

            cls : (W r c v 1).class ≡ c
            cls = cc (h.0, at_c)

            not-gone : E.gone r v ≡ true → (W r c v 1).class ≡ c → ⊥
            not-gone g q = ng (gone_at_lem (sym K.0) (root g h.0))

            own_is : (E.gone r v ≡ true) ⊎ (N r v 1 ≡ W r c v 1) → N r v 1 ≡ W r c v 1
            own_is (inl g) = absurd (not-gone g cls)
            own_is (inr q) = q

            q : N r v 1 ≡ W r c v 1
            q = own_is (A.base r v some cls)

            changed-key : {y z : Cell} → Changed D W c r l 1 (E.change r (W r l v 1).value 1) (W r l v 1) z → y ≡ z → y ≡ W r l v 1
            changed-key (lost t _) p = absurd (L.apart r (sym t.foreign))
            changed-key (settled _ f) p = cc (K.0, at_c, q, A.settled r v 1 some not-gone, lends-yes (W r c v) (W r c v 1) 1 c refl cls, lends-yes (N r v) (W r c v 1) 1 c q (ap (λ (z : Cell). z.class) q ∙ cls))

  -- a reference that c's cells above hold afterwards names at l the row that it names at c
  pub source : (r l v k : ℕ) → k ≡ foreign_of D r → Hit D L W c E r l (W r l v) k → (y : Cell)
      → y ≡ changed D W c r l k (E.change r (W r l v 1).value k) (W r l v k) → y.value ≢ 0
      → (W (refers_of D r) l y.value 1 ≡ W (refers_of D r) c y.value 1) × Keyed (W (refers_of D r) c y.value) y.value
  unfolding settle
  source r l v k f h y p some = go (changes D W c r l k (E.change r (W r l v 1).value k) (W r l v k)) p
    where
      Source : Type 0
      Source = (W (refers_of D r) l y.value 1 ≡ W (refers_of D r) c y.value 1) × Keyed (W (refers_of D r) c y.value) y.value

      old : y ≡ W r l v k → Source
      old q = (sym (cc (name.one, q, h.0)), (cc (name.one, name.there, q, h.0), some))
        where
          name : Named D W r l v k
          name = F.refs r l v k f (λ z. some (cc (q, z)))

      by : (x : Change) → E.change r (W r l v 1).value k ≡ x → (Lost D W c r l k x → ⊥) → y ≡ settle c x (W r l v k) → Source
      by keep _ _ q = old q
      by (only n) _ _ q = if-cases (λ (z : Cell). y ≡ z → Source) (same-r (W r l v k) n) (λ _ z. old z) (λ _ z. absurd (some (value_of z))) q
      by (take x) e nl q = named (decide (same-r (W (refers_of D r) l x 1) (W (refers_of D r) c x 1)))
        where
          wx : y.value ≡ x
          wx = value_of q

          x-some : x ≢ 0
          x-some z = some (wx ∙ z)

          named : (W (refers_of D r) l x 1 ≡ W (refers_of D r) c x 1) ⊎ (W (refers_of D r) l x 1 ≢ W (refers_of D r) c x 1) → Source
          named (inl a) = (cc (a, wx), (cc ((A.taken r (W r l v 1).value k x e f x-some).0, wx), some))
          named (inr o) = absurd (nl (record { v = x; is = refl; foreign = f; some = x-some; other = o }))

      go : {z : Cell} → Changed D W c r l k (E.change r (W r l v 1).value k) (W r l v k) z → y ≡ z → Source
      go (lost _ e) q = absurd (some (value_of (q ∙ e) ∙ null-value D r k l))
      go (settled nl e) q = by _ refl nl (q ∙ e)

  -- ---- the tables afterwards

  W' : Tables
  W' = carry D W c N E W

  is-own : (r v : ℕ) → W' r c v ≡ N r v
  unfolding W'
  is-own r v = carry_own D W c N E W r v

  is-above : (r l v : ℕ) → l ≢ c → over D l c ≡ true → W' r l v ≡ reach D W c E r l (W r l v)
  unfolding W'
  is-above r l v ne d = carry-above D W c N E W r l v ne d

  is-aside : (r l v : ℕ) → l ≢ c → (over D l c ≡ true → ⊥) → W' r l v ≡ W r l v
  unfolding W'
  is-aside r l v ne nd = carry-aside D W c N E W r l v ne nd

  -- what an aside level dominates is aside, and so is what c dominates strictly
  off-under : (l d : ℕ) → over D l d ≡ true → (over D l c ≡ true → ⊥) → (d ≢ c) × (over D d c ≡ true → ⊥)
  off-under l d h n = (λ e. n (rw e at h), λ g. n (L.transitive l d c h g))

  off-below : (d : ℕ) → over D c d ≡ true → d ≢ c → over D d c ≡ true → ⊥
  off-below d h n g = n (L.antisymmetric d c g h)

  -- ---- what a level d above c lends afterwards

  module _ (r d v : ℕ) (ne : d ≢ c) (dm : over D d c ≡ true) where
    d-level : d < D.levels
    d-level = (L.within d c dm).0

    key-stays : (Gone D L W c E r d (W r d v) → ⊥) → W' r d v 1 ≡ W r d v 1
    key-stays ng = rw (is-above r d v ne dm) (stayed r d v ne dm ng)

    stays-there : (k : ℕ) → (Gone D L W c E r d (W r d v) → ⊥) → (W r d v k).class ≢ c → (Cut D L W c E r d (W r d v) k → ⊥) → W' r d v k ≡ W r d v k
    stays-there k ng nh nt = rw (is-above r d v ne dm) (go (reached D L W c E r d (W r d v) k))
      where
        go : {y : Cell} → Reached D L W c E r d (W r d v) k y → y ≡ W r d v k
        go (emptied g _) = absurd (ng g)
        go (hit _ h _) = absurd (nh h.0)
        go (cut _ _ t _) = absurd (nt t)
        go (kept _ _ _ e) = e

    is_cut : (k : ℕ) → (Gone D L W c E r d (W r d v) → ⊥) → (W r d v k).class ≢ c → Cut D L W c E r d (W r d v) k → W' r d v k ≡ cell 0 (W r d v k).class
    is_cut k ng nh t = rw (is-above r d v ne dm) (go (reached D L W c E r d (W r d v) k))
      where
        go : {y : Cell} → Reached D L W c E r d (W r d v) k y → y ≡ cell 0 (W r d v k).class
        go (emptied g _) = absurd (ng g)
        go (hit _ h _) = absurd (nh h.0)
        go (cut _ _ _ e) = e
        go (kept _ _ nt _) = absurd (nt t)

    silent : (e : Cell) (k : ℕ) → (W r d v 1 ≡ e → (W r d v k).class ≡ d → ⊥) → lends (W' r d v) e k d ≡ cell 0 d
    silent e k n = go (decide (and_r (same-r (W' r d v 1) e) (eqb-r (W' r d v k).class d)))
      where
        not_255 : {x : ℕ} → x ≡ 255 → x ≡ d → ⊥
        not_255 p q = no-level L (sym q ∙ p) d-level

        not-gone : (W' r d v k).class ≡ d → Gone D L W c E r d (W r d v) → ⊥
        not-gone q g = not_255 (nocell-class {x = W' r d v k} (rw (is-above r d v ne dm) (gone-empties D L W c E r d (W r d v) g k))) q

        nulled : {y : Cell} → (own_null D r k d ≡ nocell) ⊎ ((in_range D r k d ≡ true) × (own_null D r k d ≡ cell 0 d)) → y ≡ own_null D r k d → y.class ≡ d → y ≡ cell 0 d
        nulled (inl z) p q = absurd (not_255 (nocell-class (p ∙ z)) q)
        nulled (inr z) p q = p ∙ z.1

        by-change : {y z : Cell} → Changed D W c r d k (E.change r (W r d v 1).value k) (W r d v k) z → y ≡ z → (W r d v k).class ≡ c → y.class ≡ d → y ≡ cell 0 d
        by-change (settled _ f) p h q = absurd (ne (cc (settle-class c (E.change r (W r d v 1).value k) (W r d v k) h)))
        by-change (lost _ f) p h q = nulled (own-null D r k d) (p ∙ f) q

        by-reach : {y : Cell} → Reached D L W c E r d (W r d v) k y → W r d v 1 ≡ e → y.class ≡ d → y ≡ cell 0 d
        by-reach (emptied _ p) _ q = absurd (not_255 (nocell-class p) q)
        by-reach (hit _ h p) _ q = by-change (changes D W c r d k (E.change r (W r d v 1).value k) (W r d v k)) p h.0 q
        by-reach (cut _ _ _ p) f q = absurd (n f (cc))
        by-reach (kept _ _ _ p) f q = absurd (n f (cc))

        go : ((W' r d v 1 ≡ e) × ((W' r d v k).class ≡ d)) ⊎ ((W' r d v 1 ≡ e) × ((W' r d v k).class ≡ d) → ⊥) → lends (W' r d v) e k d ≡ cell 0 d
        go (inr m) = lends-no (W' r d v) e k d (λ p q. m (p, q))
        go (inl h) =
            lends-yes (W' r d v) e k d h.0 h.1
            ∙ rw (is-above r d v ne dm) (by-reach (reached D L W c E r d (W r d v) k) (sym (key-stays (not-gone h.1)) ∙ h.0) (rw (is-above r d v ne dm) at h.1))

  -- ---- a row above c that stays

  module _ (r l v : ℕ) (ne : l ≢ c) (dm : over D l c ≡ true) (K : Keyed (W r l v) v) (ng : Gone D L W c E r l (W r l v) → ⊥) where
    same_key : W' r l v 1 ≡ W r l v 1
    same_key = key-stays r l v ne dm ng

    held_at : (k : ℕ) → (W r l v k).class ≢ 255 → Held D W r l v k
    held_at k n = go (F.cells r l v k)
      where
        go : (W r l v k ≡ nocell) ⊎ Held D W r l v k → Held D W r l v k
        go (inl z) = absurd (n (nocell-class z))
        go (inr h) = h

    key-held : Held D W r l v 1
    key-held = go (F.cells r l v 1)
      where
        go : (W r l v 1 ≡ nocell) ⊎ Held D W r l v 1 → Held D W r l v 1
        go (inl z) = absurd (K.1 (sym K.0 ∙ nocell-value z))
        go (inr h) = h

    make : {k : ℕ} (x : Cell) (d : ℕ) → W' r l v k ≡ x → x.class ≡ d → in_range D r k d ≡ true → over D l d ≡ true → over D d (W r l v 1).class ≡ true
        → x ≡ lends (W' r d v) (W r l v 1) k d → Held D W' r l v k
    make {k} x d p q a b o f =
        record { range = rw (p, q) a; below = rw (p, q) b; over-key = rw (same_key, p, q) o; owned = cc (same_key, p, q, f) }

    -- the row's entity at another level is not deleted either
    spared : (d : ℕ) → W r d v 1 ≡ W r l v 1 → Gone D L W c E r d (W r d v) → ⊥
    spared d e g = ng (gone_at_lem (sym K.0) (gone_same r d l v e K (gone_at_lem (cc (e, K.0)) g)))

    held-hx : (k : ℕ) → Hit D L W c E r l (W r l v) k → Held D W r l v k
    held-hx k h = held_at k (λ q. no-level L (sym h.0 ∙ q) A.level)

    here : (k : ℕ) → Hit D L W c E r l (W r l v) k → W r l v 1 ≡ W r c v 1
    here k h = cc (h.1, K.0)

    -- a cell that c lends comes to what the new row at c lends
    settles : (k : ℕ) → Hit D L W c E r l (W r l v) k → {y : Cell} → y ≡ settle c (E.change r (W r l v 1).value k) (W r l v k) → y ≡ lends (N r v) (W r c v 1) k c
    settles k h {y} f = cc ((held-hx k h).owned, h.0, here k h, K.0, to-c)
      where
        to-c : settle c (E.change r v k) (lends (W r c v) (W r c v 1) k c) ≡ lends (N r v) (W r c v 1) k c
        to-c = A.settled r v k (λ z. K.1 (cc (z, here k h, K.0))) (λ g q. ng (gone_at_lem (sym K.0) (root g (cc (here k h, q)))))

    held-hit : (k : ℕ) → Hit D L W c E r l (W r l v) k → W' r l v k ≡ changed D W c r l k (E.change r (W r l v 1).value k) (W r l v k)
        → (W' r l v k ≡ nocell) ⊎ Held D W' r l v k
    held-hit k h p = go (changes D W c r l k (E.change r (W r l v 1).value k) (W r l v k)) p
      where
        hx : Held D W r l v k
        hx = held-hx k h

        nulled : (own_null D r k l ≡ nocell) ⊎ ((in_range D r k l ≡ true) × (own_null D r k l ≡ cell 0 l)) → W' r l v k ≡ own_null D r k l → (W' r l v k ≡ nocell) ⊎ Held D W' r l v k
        nulled (inl z) q = inl (q ∙ z)
        nulled (inr z) q =
            inr (make (cell 0 l) l (q ∙ z.1) refl z.0 (L.reflexive l (L.within l c dm).0) key-held.below
            (sym (lends-yes (W' r l v) (W r l v 1) k l same_key (ap (λ (y : Cell). y.class) (q ∙ z.1)) ∙ (q ∙ z.1))))

        go : {y : Cell} → Changed D W c r l k (E.change r (W r l v 1).value k) (W r l v k) y → W' r l v k ≡ y → (W' r l v k ≡ nocell) ⊎ Held D W' r l v k
        go (lost t f) q = nulled (own-null D r k l) (q ∙ f)
        go (settled _ f) q =
            inr (make (lends (N r v) (W r c v 1) k c) c (q ∙ settles k h f) (lends-class (N r v) (W r c v 1) k c)
            (cc (hx.range, h.0)) dm (cc (hx.over-key, h.0)) (rw (is-own r v) (cc (here k h))))

    lent? : (d k : ℕ) → ((W r d v 1 ≡ W r l v 1) × ((W r d v k).class ≡ d)) ⊎ ((W r d v 1 ≡ W r l v 1) × ((W r d v k).class ≡ d) → ⊥)
    lent? d k = decide (and_r (same-r (W r d v 1) (W r l v 1)) (eqb-r (W r d v k).class d))

    -- a cell that is not null has its owner
    lent-some : (k : ℕ) → Held D W r l v k → (W r l v k).value ≢ 0 → (W r (W r l v k).class v 1 ≡ W r l v 1) × (W r (W r l v k).class v k ≡ W r l v k)
    lent-some k h n = go (lent? (W r l v k).class k)
      where
        d : ℕ
        d = (W r l v k).class

        go : ((W r d v 1 ≡ W r l v 1) × ((W r d v k).class ≡ d)) ⊎ ((W r d v 1 ≡ W r l v 1) × ((W r d v k).class ≡ d) → ⊥) → (W r d v 1 ≡ W r l v 1) × (W r d v k ≡ W r l v k)
        go (inl q) = (q.0, cc (h.owned, lends-yes (W r d v) (W r l v 1) k d q.0 q.1))
        go (inr m) = absurd (n (value_of (h.owned ∙ lends-no (W r d v) (W r l v 1) k d (λ a b. m (a, b)))))

    held-some : (k : ℕ) → (W r l v k).value ≢ 0 → Held D W r l v k
    held-some k n = held_at k (λ q. go (F.cells r l v k) q)
      where
        go : (W r l v k ≡ nocell) ⊎ Held D W r l v k → (W r l v k).class ≡ 255 → ⊥
        go (inl z) q = n (nocell-value z)
        go (inr h) q = no-level L q (L.within _ _ h.below).1

    held_cut : (k : ℕ) → (Hit D L W c E r l (W r l v) k → ⊥) → Cut D L W c E r l (W r l v) k → W' r l v k ≡ cell 0 (W r l v k).class → Held D W' r l v k
    held_cut k nh t p = go (side D c d)
      where
        d : ℕ
        d = (W r l v k).class

        some : (W r l v k).value ≢ 0
        some = some-gone t.1

        hx : Held D W r l v k
        hx = held-some k some

        name : Named D W r l v k
        name = F.refs r l v k t.0 some

        lender : (W r d v 1 ≡ W r l v 1) × (W r d v k ≡ W r l v k)
        lender = lent-some k hx some

        gone-d : GoneAt D W c E d (W r l v k).value (refers_of D r)
        gone-d = gone_same (refers_of D r) l d (W r l v k).value (sym name.one) (cc (name.one, name.there), some) t.1

        go : Side D c d → Held D W' r l v k
        go (at_c e) = absurd (nh (e, cc (lender.0, e, K.0)))
        go (over-c n m) =
            make (cell 0 d) d p refl hx.range hx.below hx.over-key
            (sym (lends-yes (W' r d v) (W r l v 1) k d (key-stays r d v n m (spared d lender.0) ∙ lender.0) (ap (λ (y : Cell). y.class) at-d) ∙ at-d))
          where
            at-d : W' r d v k ≡ cell 0 d
            at-d = is_cut r d v n m k (spared d lender.0) (λ q. n (cc (q, lender.1))) (t.0, subst (λ (x : Cell). GoneAt D W c E d x.value (refers_of D r)) (sym lender.1) gone-d) ∙ cc lender.1
        go (off-c n m) = absurd (m (gone-over gone-d))

    held_kept : (k : ℕ) → (Hit D L W c E r l (W r l v) k → ⊥) → (Cut D L W c E r l (W r l v) k → ⊥) → W' r l v k ≡ W r l v k → Held D W r l v k → Held D W' r l v k
    held_kept k nh nt p hx = make (W r l v k) d p refl hx.range hx.below hx.over-key (go (side D c d) (lent? d k))
      where
        d : ℕ
        d = (W r l v k).class

        no_cut : W r d v k ≡ W r l v k → Cut D L W c E r d (W r d v) k → ⊥
        no_cut e t = nt (t.0, gone_same (refers_of D r) d l (W r l v k).value name.one (name.there, some) (subst (λ (x : Cell). GoneAt D W c E d x.value (refers_of D r)) e t.1))
          where
            some : (W r l v k).value ≢ 0
            some z = some-gone t.1 (cc (e, z))

            name : Named D W r l v k
            name = F.refs r l v k t.0 some

        -- the entity has no row at c
        off : (W r c v 1 ≡ W r l v 1 → ⊥) → lends (N r v) (W r l v 1) k c ≡ cell 0 c
        off nc = new (decide (same-r (N r v 1) (W r l v 1))) (F.keyed r c v)
          where
            new : (N r v 1 ≡ W r l v 1) ⊎ (N r v 1 ≢ W r l v 1) → Absent (W r c v) ⊎ Keyed (W r c v) v → lends (N r v) (W r l v 1) k c ≡ cell 0 c
            new (inr q) _ = lends-no (N r v) (W r l v 1) k c (λ a b. q a)
            new (inl q) (inr kc) = absurd (nc (sym (A.stable r v (cc (q, K.0), K.1) kc) ∙ q))
            new (inl q) (inl a) = cc (q, A.fresh r v k a (λ o. K.1 (sym K.0 ∙ value_of {x = W r l v 1} {y = cell 0 c} (cc (key-held.owned, q, o, lends-no (W r c v) (W r l v 1) 1 c (λ x y. nc x))))))

        go : Side D c d → ((W r d v 1 ≡ W r l v 1) × ((W r d v k).class ≡ d)) ⊎ ((W r d v 1 ≡ W r l v 1) × ((W r d v k).class ≡ d) → ⊥) → W r l v k ≡ lends (W' r d v) (W r l v 1) k d
        go (off-c n m) _ = rw (is-aside r d v n m) hx.owned
        go (over-c n m) (inr s) = hx.owned ∙ lends-no (W r d v) (W r l v 1) k d (λ a b. s (a, b)) ∙ sym (silent r d v n m (W r l v 1) k (λ a b. s (a, b)))
        go (over-c n m) (inl s) =
            sym (lends-yes (W' r d v) (W r l v 1) k d (key-stays r d v n m (spared d s.0) ∙ s.0) (class_of at-d) ∙ at-d)
          where
            lent-d : W r d v k ≡ W r l v k
            lent-d = sym (hx.owned ∙ lends-yes (W r d v) (W r l v 1) k d s.0 s.1)

            at-d : W' r d v k ≡ W r l v k
            at-d = stays-there r d v n m k (spared d s.0) (λ q. n (sym s.1 ∙ q)) (no_cut lent-d) ∙ lent-d
        go (at_c e) _ = cc (e, hx.owned, lends-no (W r c v) (W r l v 1) k c (λ a b. nc a), off nc, is-own r v)
          where
            nc : W r c v 1 ≡ W r l v 1 → ⊥
            nc q = nh (e, cc (q, K.0))

    -- ---- references of a row above c that stays

    name-it : {k : ℕ} (w d : ℕ) → (W' r l v k).value ≡ w → (W' r l v k).class ≡ d
        → (W (refers_of D r) l w 1).value ≡ w → (GoneAt D W c E l w (refers_of D r) → ⊥)
        → W' (refers_of D r) d w 1 ≡ W (refers_of D r) l w 1 → Named D W' r l v k
    name-it w d p q t n o = record { there = cc (p, stay, t); one = cc (p, q, stay, o) }
      where
        stay : W' (refers_of D r) l w 1 ≡ W (refers_of D r) l w 1
        stay = key-stays (refers_of D r) l w ne dm (λ g. n (gone_at_lem t g))

    refs-kept : (k : ℕ) → k ≡ foreign_of D r → (Hit D L W c E r l (W r l v) k → ⊥) → (Cut D L W c E r l (W r l v) k → ⊥) → W' r l v k ≡ W r l v k → (W r l v k).value ≢ 0 → Named D W' r l v k
    refs-kept k f nh nt p some =
        name-it (W r l v k).value d (value_of p) (class_of p) name.there (λ g. nt (f, g)) (go (side D c d))
      where
        d : ℕ
        d = (W r l v k).class

        name : Named D W r l v k
        name = F.refs r l v k f some

        lender : (W r d v 1 ≡ W r l v 1) × (W r d v k ≡ W r l v k)
        lender = lent-some k (held-some k some) some

        go : Side D c d → W' (refers_of D r) d (W r l v k).value 1 ≡ W (refers_of D r) l (W r l v k).value 1
        go (at_c e) = absurd (nh (e, cc (lender.0, e, K.0)))
        go (over-c n m) = key-stays (refers_of D r) d (W r l v k).value n m (λ g. nt (f, gone_same (refers_of D r) d l (W r l v k).value name.one (name.there, some) (gone_at_lem (cc (name.one, name.there)) g))) ∙ name.one
        go (off-c n m) = rw (is-aside (refers_of D r) d (W r l v k).value n m) name.one

    refs-hit : (k : ℕ) → k ≡ foreign_of D r → Hit D L W c E r l (W r l v) k
        → W' r l v k ≡ changed D W c r l k (E.change r (W r l v 1).value k) (W r l v k) → (W' r l v k).value ≢ 0 → Named D W' r l v k
    refs-hit k f h p some = go (changes D W c r l k (E.change r (W r l v 1).value k) (W r l v k)) p
      where
        w : ℕ
        w = (W' r l v k).value

        src : (W (refers_of D r) l w 1 ≡ W (refers_of D r) c w 1) × Keyed (W (refers_of D r) c w) w
        src = source r l v k f h (W' r l v k) p some

        go : {y : Cell} → Changed D W c r l k (E.change r (W r l v 1).value k) (W r l v k) y → W' r l v k ≡ y → Named D W' r l v k
        go (lost _ e) q = absurd (some (value_of (q ∙ e) ∙ null-value D r k l))
        go (settled nl e) q = own-ref (decide (and_r (same-r (N r v 1) (W r c v 1)) (eqb-r (N r v k).class c)))
          where
            z : W' r l v k ≡ lends (N r v) (W r c v 1) k c
            z = settles k h (q ∙ e)

            own-ref : ((N r v 1 ≡ W r c v 1) × ((N r v k).class ≡ c)) ⊎ ((N r v 1 ≡ W r c v 1) × ((N r v k).class ≡ c) → ⊥) → Named D W' r l v k
            own-ref (inr n) = absurd (some (value_of (z ∙ lends-no (N r v) (W r c v 1) k c (λ a b. n (a, b)))))
            own-ref (inl o) =
                name-it w c refl (class_of z ∙ lends-class (N r v) (W r c v 1) k c) (cc (src.0, src.1.0))
                (λ g. gone-own (gone_same (refers_of D r) l c w src.0 src.1 g) there)
                (ap (λ (R : Row). R 1) (is-own (refers_of D r) w) ∙ A.stable (refers_of D r) w (there, some) src.1 ∙ sym src.0)
              where
                own_is : N r v k ≡ W' r l v k
                own_is = sym (z ∙ lends-yes (N r v) (W r c v 1) k c o.0 o.1)

                there : (N (refers_of D r) w 1).value ≡ w
                there = cc ((A.refs r v k f (λ y. some (cc (own_is, y)))).there, own_is)

  -- ---- the whole

  Out : (r l v : ℕ) → Type 0
  Out r l v = (Absent (W' r l v) ⊎ Keyed (W' r l v) v)
      × ((k : ℕ) → (W' r l v k ≡ nocell) ⊎ Held D W' r l v k)
      × ((k : ℕ) → k ≡ foreign_of D r → (W' r l v k).value ≢ 0 → Named D W' r l v k)

  out-empty : (r l v : ℕ) → Absent (W' r l v) → Out r l v
  unfolding Out
  out-empty r l v a = (inl a, λ k. inl (a k), λ k _ n. absurd (n (nocell-value (a k))))

  out-above : (r l v : ℕ) → l ≢ c → over D l c ≡ true → Absent (W r l v) ⊎ Keyed (W r l v) v → Out r l v
  unfolding Out
  out-above r l v ne dm (inl a) = out-empty r l v (rw (is-above r l v ne dm) (reach-empty D L W c E r l (W r l v) A.level (λ r v g. (A.gone r v g).0) a))
  out-above r l v ne dm (inr K) = go (decide (gone-r D W c E l (W r l v 1).value L r))
    where
      go : Gone D L W c E r l (W r l v) ⊎ (Gone D L W c E r l (W r l v) → ⊥) → Out r l v
      go (inl g) = out-empty r l v (rw (is-above r l v ne dm) (gone-empties D L W c E r l (W r l v) g))
      go (inr ng) = (inr (cc (same_key r l v ne dm K ng, K.0), K.1), λ k. cells k, λ k. refs k)
        where
          is-reach : (k : ℕ) → W' r l v k ≡ reach D W c E r l (W r l v) k
          is-reach k = ap (λ (R : Row). R k) (is-above r l v ne dm)

          cells : (k : ℕ) → (W' r l v k ≡ nocell) ⊎ Held D W' r l v k
          cells k = by (reached D L W c E r l (W r l v) k) (is-reach k) (F.cells r l v k)
            where
              by : {y : Cell} → Reached D L W c E r l (W r l v) k y → W' r l v k ≡ y → (W r l v k ≡ nocell) ⊎ Held D W r l v k → (W' r l v k ≡ nocell) ⊎ Held D W' r l v k
              by (emptied g _) _ _ = absurd (ng g)
              by (hit _ h e) p _ = held-hit r l v ne dm K ng k h (p ∙ e)
              by (cut _ nh t e) p _ = inr (held_cut r l v ne dm K ng k nh t (p ∙ e))
              by (kept _ nh nt e) p (inl z) = inl (p ∙ e ∙ z)
              by (kept _ nh nt e) p (inr hx) = inr (held_kept r l v ne dm K ng k nh nt (p ∙ e) hx)

          refs : (k : ℕ) → k ≡ foreign_of D r → (W' r l v k).value ≢ 0 → Named D W' r l v k
          refs k f some = by (reached D L W c E r l (W r l v) k) (is-reach k)
            where
              by : {y : Cell} → Reached D L W c E r l (W r l v) k y → W' r l v k ≡ y → Named D W' r l v k
              by (emptied g _) _ = absurd (ng g)
              by (hit _ h e) p = refs-hit r l v ne dm K ng k f h (p ∙ e) some
              by (cut _ _ _ e) p = absurd (some (value_of (p ∙ e)))
              by (kept _ nh nt e) p = refs-kept r l v ne dm K ng k f nh nt (p ∙ e) (λ z. some (cc (p, e, z)))

  out-own : (r v : ℕ) → Out r c v
  unfolding Out
  out-own r v = (rw (is-own r v) (A.keyed r v), λ k. cells k (A.cells r v k), λ k. refs k)
    where
      own-k : (k : ℕ) → W' r c v k ≡ N r v k
      own-k k = ap (λ (R : Row). R k) (is-own r v)

      off : {d : ℕ} → over D c d ≡ true → d ≢ c → (r v : ℕ) → W' r d v ≡ W r d v
      off {d} h n r v = is-aside r d v n (off-below d h n)

      cells : (k : ℕ) → (N r v k ≡ nocell) ⊎ Owns D W c N r v k → (W' r c v k ≡ nocell) ⊎ Held D W' r c v k
      cells k (inl z) = inl (own-k k ∙ z)
      cells k (inr o) =
          inr (record { range = cc (own-k k, o.range); below = cc (own-k k, o.below); over-key = cc (own-k k, own-k 1, o.over-key); owned = go (decide (eqb-r (N r v k).class c)) })
        where
          go : ((N r v k).class ≡ c) ⊎ ((N r v k).class ≢ c) → W' r c v k ≡ lends (W' r (W' r c v k).class v) (W' r c v 1) k (W' r c v k).class
          go (inl e) = cc (own-k k, e, lends-yes (W' r c v) (W' r c v 1) k c refl (cc (own-k k, e)))
          go (inr n) = cc (own-k k, own-k 1, o.owned n, off o.below n r v)

      refs : (k : ℕ) → k ≡ foreign_of D r → (W' r c v k).value ≢ 0 → Named D W' r c v k
      refs k f some = go (A.cells r v k)
        where
          name : Names D W c N r v k
          name = A.refs r v k f (λ z. some (cc (own-k k, z)))

          go : (N r v k ≡ nocell) ⊎ Owns D W c N r v k → Named D W' r c v k
          go (inl z) = absurd (some (value_of (own-k k ∙ z)))
          go (inr o) = record { there = cc (own-k k, name.there, is-own (refers_of D r) (N r v k).value); one = two (decide (eqb-r (N r v k).class c)) }
            where
              two : ((N r v k).class ≡ c) ⊎ ((N r v k).class ≢ c) → W' (refers_of D r) (W' r c v k).class (W' r c v k).value 1 ≡ W' (refers_of D r) c (W' r c v k).value 1
              two (inl e) = cc (own-k k, e)
              two (inr n) = cc (own-k k, name.one n, off o.below n (refers_of D r) (N r v k).value, is-own (refers_of D r) (N r v k).value)

  out-aside : (r l v : ℕ) → l ≢ c → (over D l c ≡ true → ⊥) → Out r l v
  unfolding Out
  out-aside r l v ne nd = (rw (is-aside r l v ne nd) (F.keyed r l v), λ k. cells k (F.cells r l v k), λ k f some. refs k f some (F.cells r l v k))
    where
      same-k : (k : ℕ) → W' r l v k ≡ W r l v k
      same-k k = ap (λ (R : Row). R k) (is-aside r l v ne nd)

      off : {d : ℕ} → over D l d ≡ true → (r v : ℕ) → W' r d v ≡ W r d v
      off {d} h r v = is-aside r d v (off-under l d h nd).0 (off-under l d h nd).1

      cells : (k : ℕ) → (W r l v k ≡ nocell) ⊎ Held D W r l v k → (W' r l v k ≡ nocell) ⊎ Held D W' r l v k
      cells k (inl z) = inl (same-k k ∙ z)
      cells k (inr h) =
          inr (record { range = cc (same-k k, h.range); below = cc (same-k k, h.below); over-key = cc (same-k k, same-k 1, h.over-key); owned = cc (same-k k, same-k 1, h.owned, off h.below r v) })

      refs : (k : ℕ) → k ≡ foreign_of D r → (W' r l v k).value ≢ 0 → (W r l v k ≡ nocell) ⊎ Held D W r l v k → Named D W' r l v k
      refs k f some (inl z) = absurd (some (value_of (same-k k ∙ z)))
      refs k f some (inr h) =
          record { there = cc (same-k k, name.there, same-l); one = cc (same-k k, name.one, same-l, off h.below (refers_of D r) (W r l v k).value) }
        where
          name : Named D W r l v k
          name = F.refs r l v k f (λ z. some (cc (same-k k, z)))

          same-l : W' (refers_of D r) l (W r l v k).value ≡ W (refers_of D r) l (W r l v k).value
          same-l = is-aside (refers_of D r) l (W r l v k).value ne nd

  out : (r l v : ℕ) → Out r l v
  out r l v = go (side D c l)
    where
      go : Side D c l → Out r l v
      go (at_c e) = rw e (out-own r v)
      go (over-c n m) = out-above r l v n m (F.keyed r l v)
      go (off-c n m) = out-aside r l v n m

  pub stays-fine : Fine D (carry D W c N E W)
  unfolding W' Out
  stays-fine = record { keyed = λ r l v. (out r l v).0; cells = λ r l v k. (out r l v).1 k; refs = λ r l v k f n. (out r l v).2 k f n }
