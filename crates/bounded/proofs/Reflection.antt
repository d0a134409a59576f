-- What a test that computes says. The laws mirror a test's syntax, so that its meaning is read off; a conditional is taken apart by its test.
-- Assumes nothing.
use Rattle.std.specs.Prelude.{if◌then◌else◌}
use mathlib.Core.Path.{◌≡◌, refl, sym, ◌∙◌, subst}
use mathlib.Core.Bool.{Bool, true, false, not, ◌&&◌, ◌||◌, false≢true, true≢false}
use mathlib.Core.Logic.{◌⊎◌, inl, inr, ⊎_elim}
use Prim.Native.Nat.{ℕ, ◌≤◌, ◌<◌}
use lib.Dec.{T, eqb, ltb, leb, eqb→eq, eqb_refl, ltb→lt, nltb→le, leb→le, nleb→lt}
use native.Mathlib.Nat.{not-le_of_lt}
use Rattle.bounded.specs.Tests.{Reflects, holds, fails}
use Rattle.bounded.specs.Bounded.{all_below, any_below}
use Rattle.bounded.proofs.All.{all-at, all_of}
use Rattle.bounded.proofs.Any.{Any, some-does, none-does, any-cases}

pub if-cases : {A : Type 0} {P : Type 0} {b : Bool} (C : A → Type 0) {x y : A} → Reflects P b → (P → C x) → ((P → ⊥) → C y) → C (if b then x else y)
if-cases C (holds p) f g = f p
if-cases C (fails n) f g = g n

pub is_true : {P : Type 0} {b : Bool} → Reflects P b → P → b ≡ true
is_true (holds p) q = refl
is_true (fails n) q = absurd (n q)

pub is_false : {P : Type 0} {b : Bool} → Reflects P b → (P → ⊥) → b ≡ false
is_false (holds p) n = absurd (n p)
is_false (fails n) q = refl

pub of-true : {P : Type 0} {b : Bool} → Reflects P b → b ≡ true → P
of-true (holds p) e = p
of-true (fails n) e = absurd (false≢true e)

pub of-false : {P : Type 0} {b : Bool} → Reflects P b → b ≡ false → P → ⊥
of-false (holds p) e = λ q. true≢false e
of-false (fails n) e = n

-- a fact that a test reflects holds or fails
pub decide : {P : Type 0} {b : Bool} → Reflects P b → P ⊎ (P → ⊥)
decide (holds p) = inl p
decide (fails n) = inr n

pub bool-r : (b : Bool) → Reflects (b ≡ true) b
bool-r true = holds refl
bool-r false = fails false≢true

pub not-r : {P : Type 0} {b : Bool} → Reflects P b → Reflects (P → ⊥) (not b)
not-r (holds p) = fails (λ n. n p)
not-r (fails n) = holds n

pub and_r : {P Q : Type 0} {a b : Bool} → Reflects P a → Reflects Q b → Reflects (P × Q) (a && b)
and_r (holds p) (holds q) = holds (p, q)
and_r (holds p) (fails n) = fails (λ h. n h.1)
and_r (fails n) (holds q) = fails (λ h. n h.0)
and_r (fails n) (fails m) = fails (λ h. n h.0)

pub or_r : {P Q : Type 0} {a b : Bool} → Reflects P a → Reflects Q b → Reflects (P ⊎ Q) (a || b)
or_r (holds p) (holds q) = holds (inl p)
or_r (holds p) (fails n) = holds (inl p)
or_r (fails n) (holds q) = holds (inr q)
or_r (fails n) (fails m) = fails (λ h. ⊎_elim n m h)

pub if-r : {P X Y : Type 0} {b x y : Bool} → Reflects P b → Reflects X x → Reflects Y y → Reflects ((P → X) × ((P → ⊥) → Y)) (if b then x else y)
if-r (holds p) (holds x) _ = holds (λ _. x, λ n. absurd (n p))
if-r (holds p) (fails n) _ = fails (λ h. n (h.0 p))
if-r (fails m) _ (holds y) = holds (λ p. absurd (m p), λ _. y)
if-r (fails m) _ (fails n) = fails (λ h. n (h.1 m))

pub all-r : (n : ℕ) {P : ℕ → Type 0} {p : ℕ → Bool} → ((i : ℕ) → Reflects (P i) (p i)) → Reflects ((i : ℕ) → i < n → P i) (all_below n p)
all-r n {P} {p} r = go (all_below n p) refl
  where
    go : (b : Bool) → all_below n p ≡ b → Reflects ((i : ℕ) → i < n → P i) b
    go true e = holds (λ i h. of-true (r i) (all-at n p e i h))
    go false e = fails (λ f. false≢true (sym e ∙ all_of n p (λ i h. is_true (r i) (f i h))))

pub any-r : (n : ℕ) {P : ℕ → Type 0} {p : ℕ → Bool} → ((i : ℕ) → Reflects (P i) (p i)) → Reflects ((i : ℕ) × (i < n) × P i) (any_below n p)
any-r n {P} {p} r = go (any-cases n p)
  where
    go : {b : Bool} → Any n p b → Reflects ((i : ℕ) × (i < n) × P i) b
    go (some-does e i h t) = subst (Reflects ((i : ℕ) × (i < n) × P i)) (sym e) (holds (i, h, of-true (r i) t))
    go (none-does e f) = subst (Reflects ((i : ℕ) × (i < n) × P i)) (sym e) (fails (λ x. of-false (r x.0) (f x.0 x.1) x.2))

pub reflects-as : {P Q : Type 0} {b : Bool} → (P → Q) → (Q → P) → Reflects P b → Reflects Q b
reflects-as f g (holds p) = holds (f p)
reflects-as f g (fails n) = fails (λ q. n (g q))

of-bool : {P : Type 0} (b : Bool) → (T b → P) → (T (not b) → P → ⊥) → Reflects P b
of-bool true f g = holds (f tt)
of-bool false f g = fails (g tt)

pub eqb-r : (m n : ℕ) → Reflects (m ≡ n) (eqb m n)
eqb-r m n = of-bool (eqb m n) (eqb→eq m n) (λ t e. go (eqb m n) t (subst (λ (k : ℕ). T (eqb m k)) e (eqb_refl m)))
  where
    go : (b : Bool) → T (not b) → T b → ⊥
    go true x y = x
    go false x y = y

pub ltb-r : (m n : ℕ) → Reflects (m < n) (ltb m n)
ltb-r m n = of-bool (ltb m n) (ltb→lt m n) (λ t h. not-le_of_lt h (nltb→le m n t))

pub leb-r : (m n : ℕ) → Reflects (m ≤ n) (leb m n)
leb-r m n = of-bool (leb m n) (leb→le m n) (λ t h. not-le_of_lt (nleb→lt m n t) h)
