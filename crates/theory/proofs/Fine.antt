-- Legal tables by key: W finds the row of a relation and level with a key. Each cell of a class d is what the entity's row at d lends, and a
-- reference names one entity at its row's level and at its own class.
-- Assumes nothing.
use Prim.Native.Nat.{ℕ, ◌<◌}
use mathlib.Core.Bool.{true}
use mathlib.Core.Logic.{◌≢◌, ◌⊎◌, inl, inr}
use mathlib.Core.Path.{◌≡◌, refl, ap}
use native.Mathlib.Omega.{arith}
use Rattle.bounded.specs.Tests.{Reflects}
use Rattle.bounded.proofs.Reflection.{if-cases, is_true, is_false, and_r, reflects-as, eqb-r}
use Rattle.model.specs.Description.{over, foreign_of, refers_of, in_range}
use Rattle.model.specs.Tables.{Cell, cell, nocell, same, Row, Tables, lends}
use Rattle.model.specs.declared.Description.{Description}
use Rattle.theory.specs.Laws.{Laws}

pub cell-path : {x y : Cell} → x.value ≡ y.value → x.class ≡ y.class → x ≡ y
cell-path p q = λ i. record { value = p i; class = q i }

pub same-r : (x y : Cell) → Reflects (x ≡ y) (same x y)
unfolding same
same-r x y = reflects-as (λ h. cell-path h.0 h.1) (λ e. (ap (λ (z : Cell). z.value) e, ap (λ (z : Cell). z.class) e)) (and_r (eqb-r x.value y.value) (eqb-r x.class y.class))

pub record Held (D : Description) (W : Tables) (r l v k : ℕ) : Type 0 where
  pub range : in_range D r k (W r l v k).class ≡ true
  pub below : over D l (W r l v k).class ≡ true
  pub over-key : over D (W r l v k).class (W r l v 1).class ≡ true
  pub owned : W r l v k ≡ lends (W r (W r l v k).class v) (W r l v 1) k (W r l v k).class

-- column k, a reference
pub record Named (D : Description) (W : Tables) (r l v k : ℕ) : Type 0 where
  pub there : (W (refers_of D r) l (W r l v k).value 1).value ≡ (W r l v k).value
  pub one : W (refers_of D r) (W r l v k).class (W r l v k).value 1 ≡ W (refers_of D r) l (W r l v k).value 1

abbrev pub Absent : Row → Type 0
Absent R = (k : ℕ) → R k ≡ nocell

abbrev pub Keyed : Row → ℕ → Type 0
Keyed R v = ((R 1).value ≡ v) × (v ≢ 0)

pub record Fine (D : Description) (W : Tables) : Type 0 where
  pub keyed : (r l v : ℕ) → Absent (W r l v) ⊎ Keyed (W r l v) v
  pub cells : (r l v k : ℕ) → (W r l v k ≡ nocell) ⊎ Held D W r l v k
  pub refs : (r l v k : ℕ) → k ≡ foreign_of D r → (W r l v k).value ≢ 0 → Named D W r l v k

pub lends-yes : (R : Row) (e : Cell) (k d : ℕ) → R 1 ≡ e → (R k).class ≡ d → lends R e k d ≡ R k
unfolding lends
lends-yes R e k d p q = rw (is_true (and_r (same-r (R 1) e) (eqb-r (R k).class d)) (p, q))

pub lends-no : (R : Row) (e : Cell) (k d : ℕ) → (R 1 ≡ e → (R k).class ≡ d → ⊥) → lends R e k d ≡ cell 0 d
unfolding lends
lends-no R e k d n = rw (is_false (and_r (same-r (R 1) e) (eqb-r (R k).class d)) (λ h. n h.0 h.1))

-- a row lends by its key and that cell
pub lends-cong : (R S : Row) (e : Cell) (k d : ℕ) → R 1 ≡ S 1 → R k ≡ S k → lends R e k d ≡ lends S e k d
unfolding lends
lends-cong R S e k d p q = rw (p, q)

pub value_of : {x y : Cell} → x ≡ y → x.value ≡ y.value
value_of e = ap (λ (z : Cell). z.value) e

pub class_of : {x y : Cell} → x ≡ y → x.class ≡ y.class
class_of e = ap (λ (z : Cell). z.class) e

pub nocell-value : {x : Cell} → x ≡ nocell → x.value ≡ 0
nocell-value e = value_of e

pub nocell-class : {x : Cell} → x ≡ nocell → x.class ≡ 255
nocell-class e = class_of e

pub no-level : {D : Description} → Laws D → {x : ℕ} → x ≡ 255 → x < D.levels → ⊥
no-level L e h = let f = L.few in omega arith

pub key_below : {D : Description} {W : Tables} → Fine D W → (r l v : ℕ) → (W r l v 1).value ≢ 0 → over D l (W r l v 1).class ≡ true
key_below {D} {W} F r l v n = go (F.cells r l v 1)
  where
    go : (W r l v 1 ≡ nocell) ⊎ Held D W r l v 1 → over D l (W r l v 1).class ≡ true
    go (inl z) = absurd (n (nocell-value z))
    go (inr h) = h.below

-- a row whose key is not null has the key that it is found by
pub key-is : {D : Description} {W : Tables} → Fine D W → (r l v : ℕ) → (W r l v 1).value ≢ 0 → Keyed (W r l v) v
key-is {D} {W} F r l v n = go (F.keyed r l v)
  where
    go : Absent (W r l v) ⊎ Keyed (W r l v) v → Keyed (W r l v) v
    go (inl a) = absurd (n (nocell-value (a 1)))
    go (inr k) = k

pub lends-class : (R : Row) (e : Cell) (k d : ℕ) → (lends R e k d).class ≡ d
unfolding lends
lends-class R e k d = if-cases (λ (y : Cell). y.class ≡ d) (and_r (same-r (R 1) e) (eqb-r (R k).class d)) (λ h. h.1) (λ _. refl)
