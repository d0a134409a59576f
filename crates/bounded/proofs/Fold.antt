-- The laws of `fold_below`: a state that a loop changes.
-- Assumes nothing.
use mathlib.Core.Path.{◌≡◌, refl, ap, ◌∙◌}
use Prim.Native.Nat.{ℕ, zero, suc, ◌+◌, ◌≤◌, ◌<◌}
use native.Mathlib.Numerals.{add-one}
use native.Mathlib.Omega.{arith}
use Rattle.bounded.specs.Bounded.{fold_below}
use Rattle.bounded.proofs.Cases.{at-end}

pub fold_start {ℓ} : {A : Type ℓ} (f : ℕ → A → A) (a : A) → a ≡ fold_below 0 f a
unfolding fold_below
fold_start f a = refl

pub fold_more {ℓ} : {A : Type ℓ} (n : ℕ) (f : ℕ → A → A) (a : A) {s s' : A} → s ≡ fold_below n f a → s' ≡ f n s → s' ≡ fold_below (n + 1) f a
unfolding fold_below
fold_more n f a p q = rw add-one (q ∙ ap (f n) p)

pub fold_end {ℓ} : {A : Type ℓ} (n i : ℕ) (f : ℕ → A → A) (a : A) {s : A} → s ≡ fold_below i f a → i ≤ n → n ≤ i → s ≡ fold_below n f a
fold_end n i f a {s} e h k = at-end (λ m. s ≡ fold_below m f a) h k e

pub fold-cong {ℓ} : {A : Type ℓ} (n : ℕ) (f g : ℕ → A → A) (a : A) → ((k : ℕ) → k < n → (s : A) → f k s ≡ g k s) → fold_below n f a ≡ fold_below n g a
unfolding fold_below
fold-cong zero f g a h = refl
fold-cong (suc n) f g a h = ap (f n) (fold-cong n f g a (λ k l. h k (omega arith))) ∙ h n (omega arith) (fold_below n g a)
