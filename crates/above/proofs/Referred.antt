-- The relations that refer to a relation, one after the other.
-- Assumes nothing.
use Rattle.std.specs.Prelude.{if◌then◌else◌}
use Prim.Native.Nat.{ℕ, suc, ◌+◌, ◌<◌}
use mathlib.Core.Path.{◌≡◌, refl, sym, ap, ap₂, ◌∙◌, fun_ext}
use mathlib.Core.Bool.{Bool, true, false, ◌&&◌}
use mathlib.Core.Logic.{◌≢◌}
use native.Mathlib.Omega.{arith}
use lib.Dec.{eqb, ltb}
use borrow.Author.Tests.{eq-eqb, ne_eqb, lt-ltb, le-ltb, eqb-true, ltb-true}
use Rattle.bounded.proofs.Cases.{cases, order, and-false-right}
use Rattle.bounded.proofs.Reflection.{of-true, of-false, eqb-r}
use Rattle.model.specs.declared.Description.{Description}
use Rattle.model.specs.Description.{between, sound, is_relation, of_relation, row_count, column_count, refers_of}
use Rattle.model.specs.Tables.{Cell, Row, Level, State}
use Rattle.model.proofs.Sound.{relation-r, some_of, Reference, sound-r, relation-of}
use Rattle.cells.specs.Layout.{InLevel}
use Rattle.cells.specs.Changed.{change_level}
use Rattle.cells.proofs.Counts.{relation-few}
use Rattle.cells.proofs.Changes.{level-path, change-as, change-same, change-here, change-other, change-on}
use Rattle.above.specs.declared.plan.Plan.{Plan}
use Rattle.above.specs.Facts.{Apart, Referring, gone_by, row_unnamed, with_rows, with_referrer, with_referrers}
use Rattle.above.proofs.Unnamed.{unnamed-keeps, Alike, unnamed-same}

-- ---- relations that refer to it

-- a relation with a column is one
keyed-relation : (d : Description) (r : ℕ) → 0 < column_count d r → is_relation d r ≡ true
unfolding column_count
keyed-relation d r h = some_of d d.columns r (λ e. omega arith)

-- what refers to a relation has a column for that, and comes after it
reference-of : (d : Description) → sound d ≡ true → (r s : ℕ) → 0 < column_count d r → is_relation d s ≡ true → refers_of d s ≡ r → Reference d s
reference-of d z r s k h e =
    let R = relation-of d (of-true (sound-r d) z) s h in
    R.referring (λ n. omega (arith, R.unreferring n, e, (of-true (relation-r d r) (keyed-relation d r k)).0))

pub referring : (d : Description) (r s c l : ℕ) → sound d ≡ true → Apart c l → InLevel d r l → InLevel d r c → is_relation d s ≡ true → refers_of d s ≡ r → Referring d r s c l
referring d r s c l z a h g q e =
    let R = relation-of d (of-true (sound-r d) z) s q in
    let F = reference-of d z r s h.keyed q e in
    let b : s < suc d.relations = omega (arith, (of-true (relation-r d s) q).1) in
    record {
      apart = a;
      foreign = omega (arith, F.after-key);
      column = F.column;
      refers = e;
      named = q;
      few = relation-few d z s q;
      lower = omega (arith, F.lower, e);
      at = h;
      own = g;
      level = record { relation = b; level = h.level; keyed = R.keyed };
      subject = record { relation = b; level = g.level; keyed = R.keyed };
    }

module _ (d : Description) (r : ℕ) (P : Plan) (c : ℕ) (S : State) (l s : ℕ) where
  pub referrer-none : refers_of d s ≢ r → S ≡ change_level l (with_referrer d r P c S l s) S
  unfolding with_referrer
  referrer-none n = change-same l (with_referrer d r P c S l s) S (rw (ne_eqb (refers_of d s) r n))

  pub referrer-done : refers_of d s ≡ r → {S' : State} → S' ≡ change_level l (with_rows (row_count d s) (column_count d s) s (λ i. row_unnamed d r P c S l s ((S l).rows s i))) S → S' ≡ change_level l (with_referrer d r P c S l s) S
  unfolding with_referrer
  referrer-done e p =
      p ∙ change-as l (with_rows (row_count d s) (column_count d s) s (λ i. row_unnamed d r P c S l s ((S l).rows s i))) (with_referrer d r P c S l s) S (rw (eq-eqb (refers_of d s) r e))

-- ---- relation after relation

no_rows : (d : Description) → row_count d 0 ≡ 0
unfolding row_count of_relation is_relation between
no_rows d = refl

before-next : (s n : ℕ) → n ≢ s → ltb s n ≡ ltb s (n + 1)
before-next s n h =
    order s n
    (λ g. lt-ltb s n g ∙ sym (lt-ltb s (n + 1) (omega arith)))
    (λ e. absurd (h (sym e)))
    (λ g. le-ltb s n (omega arith) ∙ sym (le-ltb s (n + 1) (omega arith)))

if-same : (b : Bool) {x y : Cell} → x ≡ y → (if b then x else y) ≡ y
if-same true e = e
if-same false e = refl

-- a relation doesn't refer to itself
pub unlike : (d : Description) → sound d ≡ true → (r : ℕ) → 0 < column_count d r → refers_of d r ≢ r
unlike d z r k e = omega (arith, (reference-of d z r r k (keyed-relation d r k) e).lower)

module _ (d : Description) (r : ℕ) (P : Plan) (c : ℕ) (S₀ : State) (l : ℕ) where
  -- the relations before n done
  abbrev done : ℕ → Level → Level
  done n = with_referrers n d r P c S₀ l

  pub referrers-start : S₀ ≡ change_level l (with_referrers 1 d r P c S₀ l) S₀
  unfolding with_referrers
  referrers-start =
      change-same l (done 1) S₀
      (level-path (λ s i k.
      cases (ltb s 1)
      (λ t. let e : s ≡ 0 = omega (arith, ltb-true s 1 t) in
      rw (t, e, no_rows, le-ltb i 0 (omega arith), and-false-right (eqb (refers_of d 0) r) false refl))
      (λ t. rw t)))

  nothing : P.gone ≡ false → (v : ℕ) → gone_by d r P c S₀ l v ≡ false
  unfolding gone_by
  nothing g v = rw g

  -- nothing is emptied
  pub referrers-none : (n : ℕ) → P.gone ≡ false → S₀ ≡ change_level l (with_referrers n d r P c S₀ l) S₀
  unfolding with_referrers
  referrers-none n g = change-same l (done n) S₀ (level-path (λ s i k. if-same (ltb s n && (eqb (refers_of d s) r && (ltb i (row_count d s) && between 1 (column_count d s) k))) (unnamed-keeps d r P c S₀ l s ((S₀ l).rows s i) k (nothing g ((S₀ l).rows s i k).value))))

  done-own : (n : ℕ) (B : Level) → (done n B).rows n ≡ B.rows n
  unfolding with_referrers
  done-own n B = fun_ext (λ i. fun_ext (λ k. rw (le-ltb n n (omega arith))))

  done-other : (n s i k : ℕ) (B : Level) → n ≢ s → (done n B).rows s i k ≡ (done (n + 1) B).rows s i k
  unfolding with_referrers
  done-other n s i k B h = rw (before-next s n h)

  -- the relation itself stays
  pub done-named : (n : ℕ) (B : Level) → refers_of d r ≢ r → (with_referrers n d r P c S₀ l B).rows r ≡ B.rows r
  unfolding with_referrers
  done-named n B h = fun_ext (λ i. fun_ext (λ k. rw (ne_eqb (refers_of d r) r h, and-false-right (ltb r n) false refl)))

  module _ (n : ℕ) (B : Level) {S : State} (h : Alike r c l S S₀) where
    -- the cells of relation n that may change
    abbrev among : ℕ → ℕ → Bool
    among i k = eqb (refers_of d n) r && (ltb i (row_count d n) && between 1 (column_count d n) k)

    next-own : (i k : ℕ) → (with_referrer d r P c S l n (done n B)).rows n i k ≡ (if among i k then row_unnamed d r P c S l n ((done n B).rows n i) k else (done n B).rows n i k)
    unfolding with_referrer with_rows
    next-own i k = cases (eqb (refers_of d n) r) (λ t. rw (t, eq-eqb n n refl)) (λ t. rw t)

    last-own : (i k : ℕ) → (done (n + 1) B).rows n i k ≡ (if among i k then row_unnamed d r P c S₀ l n (B.rows n i) k else B.rows n i k)
    unfolding with_referrers
    last-own i k = rw (lt-ltb n (n + 1) (omega arith))

    next-other : (s i k : ℕ) → n ≢ s → (with_referrer d r P c S l n (done n B)).rows s i k ≡ (done n B).rows s i k
    unfolding with_referrer with_rows
    next-other s i k q = cases (eqb (refers_of d n) r) (λ t. rw (t, ne_eqb n s q)) (λ t. rw t)

    here : (i k : ℕ) → (with_referrer d r P c S l n (done n B)).rows n i k ≡ (done (n + 1) B).rows n i k
    here i k =
        next-own i k
        ∙ (ap₂ (λ (x y : Cell). if among i k then x else y)
        (ap (λ (R : Row). R k) (unnamed-same d r P c S S₀ l n h ((done n B).rows n i) (B.rows n i) (ap (λ (rows : ℕ → Row). rows i) (done-own n B))))
        (ap (λ (rows : ℕ → Row). rows i k) (done-own n B))
        ∙ sym (last-own i k))

    referrers-turn : with_referrer d r P c S l n (done n B) ≡ done (n + 1) B
    referrers-turn =
        level-path (λ s i k.
        cases (eqb n s)
        (λ t. rw (← (eqb-true n s t)) (here i k))
        (λ t. let q = of-false (eqb-r n s) t in next-other s i k q ∙ done-other n s i k B q))

  pub referrers-more : (n : ℕ) → sound d ≡ true → l ≢ c → 0 < column_count d r → {S S' : State} → S ≡ change_level l (with_referrers n d r P c S₀ l) S₀
      → S' ≡ change_level l (with_referrer d r P c S l n) S → S' ≡ change_level l (with_referrers (n + 1) d r P c S₀ l) S₀
  referrers-more n z apart k {S} p q =
      change-on l (with_referrer d r P c S l n) (done n) (done (n + 1)) S₀ p q
      (referrers-turn n (S₀ l) (record { own = rw p (change-other l c (done n) S₀ apart); named = rw (p, change-here) (done-named n (S₀ l) (unlike d z r k)) }))

  pub referrers-end : (n i : ℕ) {S : State} → S ≡ change_level l (with_referrers i d r P c S₀ l) S₀ → i ≡ n → S ≡ change_level l (with_referrers n d r P c S₀ l) S₀
  referrers-end n i {S} p e = rw e at p
