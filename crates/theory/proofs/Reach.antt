-- How a row above the subject's level comes out of a statement, by cases.
-- Assumes nothing.
use Rattle.std.specs.Prelude.{if◌then◌else◌}
use Prim.Native.Nat.{ℕ, ◌<◌}
use mathlib.Core.Bool.{true}
use mathlib.Core.Logic.{◌≢◌, ◌⊎◌, inl, inr}
use mathlib.Core.Path.{◌≡◌, refl, sym, ◌∙◌}
use native.Mathlib.Omega.{arith}
use Rattle.bounded.specs.Tests.{Reflects}
use Rattle.bounded.proofs.Reflection.{if-cases, decide, bool-r, not-r, and_r, reflects-as, eqb-r}
use Rattle.model.specs.Description.{over, foreign_of, refers_of, in_range}
use Rattle.model.specs.Effect.{Change, keep, take, only, Above, agrees, changed, gone_at, reach, carry}
use Rattle.model.specs.Tables.{Cell, cell, nocell, same, Row, Tables, own_null}
use Rattle.model.specs.declared.Description.{Description}
use Rattle.theory.specs.Laws.{Laws}
use Rattle.theory.proofs.Fine.{same-r, Absent, nocell-value, nocell-class, no-level}

-- a row is emptied: its entity is deleted
module _ (D : Description) (W : Tables) (c : ℕ) (E : Above) (l v : ℕ) where
  pub data GoneAt : ℕ → Type 0 where
    root : {r : ℕ} → E.gone r v ≡ true → (W r l v 1).class ≡ c → GoneAt r

  pub gone-some : ((r v : ℕ) → E.gone r v ≡ true → v ≢ 0) → {r : ℕ} → GoneAt r → v ≢ 0
  gone-some f {r} (root g _) = f r v g

  pub gone-r : Laws D → (r : ℕ) → Reflects (GoneAt r) (gone_at D W c E l v r)
  unfolding gone_at
  gone-r L r = reflects-as (λ p. root p.0 p.1) back (and_r (bool-r (E.gone r v)) (eqb-r (W r l v 1).class c))
    where
      back : GoneAt r → (E.gone r v ≡ true) × ((W r l v 1).class ≡ c)
      back (root g e) = (g, e)

module _ (D : Description) (L : Laws D) (W : Tables) (c : ℕ) (E : Above) (r l : ℕ) (R : Row) where
  -- the row is emptied
  abbrev pub Gone : Type 0
  Gone = GoneAt D W c E l (R 1).value r

  -- the cell is c's, in a row of an entity that c has
  abbrev pub Hit : ℕ → Type 0
  Hit k = ((R k).class ≡ c) × (R 1 ≡ W r c (R 1).value 1)

  -- the cell is a reference to a row that is emptied
  abbrev pub Cut : ℕ → Type 0
  Cut k = (k ≡ foreign_of D r) × GoneAt D W c E l (R k).value (refers_of D r)

  pub data Reached (k : ℕ) (y : Cell) : Type 0 where
    emptied : Gone → y ≡ nocell → Reached k y
    hit : (Gone → ⊥) → Hit k → y ≡ changed D W c r l k (E.change r (R 1).value k) (R k) → Reached k y
    cut : (Gone → ⊥) → (Hit k → ⊥) → Cut k → y ≡ cell 0 (R k).class → Reached k y
    kept : (Gone → ⊥) → (Hit k → ⊥) → (Cut k → ⊥) → y ≡ R k → Reached k y

  pub reached : (k : ℕ) → Reached k (reach D W c E r l R k)
  unfolding reach
  reached k =
      if-cases (Reached k) (gone-r D W c E l (R 1).value L r) (λ g. emptied g refl)
      (λ ng. if-cases (Reached k) (and_r (eqb-r (R k).class c) (same-r (R 1) (W r c (R 1).value 1))) (λ h. hit ng h refl)
      (λ nh. if-cases (Reached k) (and_r (eqb-r k (foreign_of D r)) (gone-r D W c E l (R k).value L (refers_of D r)))
      (λ t. cut ng nh t refl)
      (λ nt. kept ng nh nt refl)))

  pub gone-empties : Gone → (k : ℕ) → reach D W c E r l R k ≡ nocell
  gone-empties g k = go (reached k)
    where
      go : {y : Cell} → Reached k y → y ≡ nocell
      go (emptied _ e) = e
      go (hit n _ _) = absurd (n g)
      go (cut n _ _ _) = absurd (n g)
      go (kept n _ _ _) = absurd (n g)

  -- an empty row stays empty
  pub reach-empty : c < D.levels → ((r v : ℕ) → E.gone r v ≡ true → v ≢ 0) → Absent R → Absent (reach D W c E r l R)
  reach-empty level some a k = go (reached k)
    where
      go : {y : Cell} → Reached k y → y ≡ nocell
      go (emptied _ e) = e
      go (hit _ h _) = absurd (no-level L (sym h.0 ∙ nocell-class (a k)) level)
      go (cut _ _ t _) = absurd (gone-some D W c E l (R k).value some t.1 (nocell-value (a k)))
      go (kept _ _ _ e) = e ∙ a k

-- ---- what a change leaves

unfoldable pub settle : ℕ → Change → Cell → Cell
settle c keep x = x
settle c (take v) x = cell v c
settle c (only n) x = if same x n then x else cell 0 x.class

pub settle-class : (c : ℕ) (h : Change) (x : Cell) → x.class ≡ c → (settle c h x).class ≡ c
unfolding settle
settle-class c keep x e = e
settle-class c (take v) x e = refl
settle-class c (only n) x e = if-cases (λ (y : Cell). y.class ≡ c) (same-r x n) (λ _. e) (λ _. e)

-- a reference that is handed up and names another entity there is lost
pub record Lost (D : Description) (W : Tables) (c r l k : ℕ) (h : Change) : Type 0 where
  pub v : ℕ
  pub is : h ≡ take v
  pub foreign : k ≡ foreign_of D r
  pub some : v ≢ 0
  pub other : W (refers_of D r) l v 1 ≢ W (refers_of D r) c v 1

pub data Changed (D : Description) (W : Tables) (c r l k : ℕ) (h : Change) (x y : Cell) : Type 0 where
  settled : (Lost D W c r l k h → ⊥) → y ≡ settle c h x → Changed D W c r l k h x y
  lost : Lost D W c r l k h → y ≡ own_null D r k l → Changed D W c r l k h x y

take-inj : {v w : ℕ} → take v ≡ take w → v ≡ w
take-inj e = cc

pub changes : (D : Description) (W : Tables) (c r l k : ℕ) (h : Change) (x : Cell) → Changed D W c r l k h x (changed D W c r l k h x)
unfolding changed settle agrees
changes D W c r l k keep x = settled (λ t. go t.is) refl
  where
    go : {v : ℕ} → keep ≡ take v → ⊥
    go e = let z : ◌≡◌ {A = ℕ} 0 1 = cc in omega arith
changes D W c r l k (only n) x = settled (λ t. go t.is) refl
  where
    go : {v : ℕ} → only n ≡ take v → ⊥
    go e = let z : ◌≡◌ {A = ℕ} 0 1 = cc in omega arith
changes D W c r l k (take v) x =
    if-cases (Changed D W c r l k (take v) x)
    (and_r (eqb-r k (foreign_of D r)) (and_r (not-r (eqb-r v 0)) (not-r (same-r (W (refers_of D r) l v 1) (W (refers_of D r) c v 1)))))
    (λ h. lost (record { v = v; is = refl; foreign = h.0; some = h.1.0; other = h.1.1 }) refl)
    (λ n. settled (λ t. n (t.foreign, (rw (take-inj t.is) t.some, rw (take-inj t.is) t.other))) refl)

pub own-null : (D : Description) (r k l : ℕ) → (own_null D r k l ≡ nocell) ⊎ ((in_range D r k l ≡ true) × (own_null D r k l ≡ cell 0 l))
unfolding own_null
own-null D r k l =
    if-cases (λ (y : Cell). (y ≡ nocell) ⊎ ((in_range D r k l ≡ true) × (y ≡ cell 0 l))) (bool-r (in_range D r k l)) (λ h. inr (h, refl)) (λ _. inl refl)

pub null-value : (D : Description) (r k l : ℕ) → (own_null D r k l).value ≡ 0
unfolding own_null
null-value D r k l = if-cases (λ (y : Cell). y.value ≡ 0) (bool-r (in_range D r k l)) (λ _. refl) (λ _. refl)

-- ---- where a row stands

module _ (D : Description) (W : Tables) (c : ℕ) (N : ℕ → ℕ → Row) (E : Above) (T : Tables) (r l i : ℕ) where
  data Carried (R : Row) : Type 0 where
    own : l ≡ c → R ≡ N r i → Carried R
    above : l ≢ c → over D l c ≡ true → R ≡ reach D W c E r l (T r l i) → Carried R
    aside : l ≢ c → (over D l c ≡ true → ⊥) → R ≡ T r l i → Carried R

  carried : Carried (carry D W c N E T r l i)
  unfolding carry
  carried =
      if-cases Carried (eqb-r l c) (λ e. own e refl)
      (λ n. if-cases Carried (bool-r (over D l c)) (λ d. above n d refl) (λ m. aside n m refl))

module _ (D : Description) (W : Tables) (c : ℕ) (N : ℕ → ℕ → Row) (E : Above) (T : Tables) where
  pub carry_own : (r i : ℕ) → carry D W c N E T r c i ≡ N r i
  carry_own r i = go (carried D W c N E T r c i)
    where
      go : {R : Row} → Carried D W c N E T r c i R → R ≡ N r i
      go (own _ e) = e
      go (above n _ _) = absurd (n refl)
      go (aside n _ _) = absurd (n refl)

  pub carry-above : (r l i : ℕ) → l ≢ c → over D l c ≡ true → carry D W c N E T r l i ≡ reach D W c E r l (T r l i)
  carry-above r l i ne d = go (carried D W c N E T r l i)
    where
      go : {R : Row} → Carried D W c N E T r l i R → R ≡ reach D W c E r l (T r l i)
      go (own e _) = absurd (ne e)
      go (above _ _ e) = e
      go (aside _ n _) = absurd (n d)

  pub carry-aside : (r l i : ℕ) → l ≢ c → (over D l c ≡ true → ⊥) → carry D W c N E T r l i ≡ T r l i
  carry-aside r l i ne nd = go (carried D W c N E T r l i)
    where
      go : {R : Row} → Carried D W c N E T r l i R → R ≡ T r l i
      go (own e _) = absurd (ne e)
      go (above _ d _) = absurd (nd d)
      go (aside _ _ e) = e

-- ---- where a level stands to c

pub data Side (D : Description) (c l : ℕ) : Type 0 where
  at_c : l ≡ c → Side D c l
  over-c : l ≢ c → over D l c ≡ true → Side D c l
  off-c : l ≢ c → (over D l c ≡ true → ⊥) → Side D c l

pub side : (D : Description) (c l : ℕ) → Side D c l
side D c l = go (decide (eqb-r l c)) (decide (bool-r (over D l c)))
  where
    go : (l ≡ c) ⊎ (l ≢ c) → (over D l c ≡ true) ⊎ (over D l c ≡ true → ⊥) → Side D c l
    go (inl e) _ = at_c e
    go (inr n) (inl d) = over-c n d
    go (inr n) (inr m) = off-c n m
