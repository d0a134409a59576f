-- Rows found by key, and what a change of rows one by one does to that.
-- Assumes nothing.
use Prim.Native.Nat.{ℕ, ◌<◌}
use mathlib.Core.Logic.{◌≢◌, ◌⊎◌, inl, inr}
use mathlib.Core.Path.{◌≡◌, refl, sym, ap, ◌∙◌, fun_ext}
use native.Mathlib.Omega.{arith}
use lib.Dec.{eqb}
use Rattle.bounded.proofs.First.{First, found, absent, first-cases}
use Rattle.bounded.proofs.Reflection.{if-cases, of-true, of-false, decide, eqb-r, ltb-r}
use Rattle.model.specs.Description.{row_count}
use Rattle.model.specs.Tables.{Cell, Row, norow, Tables, place, seek, at}
use Rattle.model.specs.declared.Description.{Description}
use Rattle.theory.proofs.Fine.{Absent}

module _ (n : ℕ) (B : ℕ → Row) where
  pub data Sought (v : ℕ) (R : Row) : Type 0 where
    there : (i : ℕ) → i < n → (B i 1).value ≡ v → R ≡ B i → Sought v R
    nowhere : ((i : ℕ) → i < n → (B i 1).value ≢ v) → R ≡ norow → Sought v R

  pub sought : (v : ℕ) → Sought v (seek n B v)
  unfolding seek place
  sought v = if-cases (Sought v) (ltb-r (place n B v) n) (λ h. there (place n B v) h (meets (first-cases n (λ i. eqb (B i 1).value v)) h) refl) (λ m. nowhere (misses (first-cases n (λ i. eqb (B i 1).value v)) m) refl)
    where
      meets : {i : ℕ} → First n (λ i. eqb (B i 1).value v) i → i < n → (B i 1).value ≡ v
      meets (found _ t _) h = of-true (eqb-r _ v) t
      meets (absent e _) h = let f = e in omega arith

      misses : {i : ℕ} → First n (λ i. eqb (B i 1).value v) i → (i < n → ⊥) → (j : ℕ) → j < n → (B j 1).value ≢ v
      misses (found h _ _) m j k = absurd (m h)
      misses (absent _ f) m j k = of-false (eqb-r _ v) (f j k)

  pub record Neat : Type 0 where
    pub unique : (i j : ℕ) → i < n → j < n → (B i 1).value ≢ 0 → (B i 1).value ≡ (B j 1).value → i ≡ j
    pub clean : (i : ℕ) → i < n → (B i 1).value ≡ 0 → Absent (B i)

  pub seek_is : Neat → (i v : ℕ) → i < n → (B i 1).value ≡ v → v ≢ 0 → seek n B v ≡ B i
  seek_is u i v h e nz = go (sought v)
    where
      go : {R : Row} → Sought v R → R ≡ B i
      go (there j h' e' q) = q ∙ ap B (u.unique j i h' h (λ z. nz (sym e' ∙ z)) (e' ∙ sym e))
      go (nowhere f _) = absurd (f i h e)

  pub place_is : Neat → (i v : ℕ) → i < n → (B i 1).value ≡ v → v ≢ 0 → place n B v ≡ i
  unfolding place
  place_is u i v h e nz = go (first-cases n (λ i. eqb (B i 1).value v))
    where
      go : {j : ℕ} → First n (λ i. eqb (B i 1).value v) j → j ≡ i
      go {j} (found h' t _) = u.unique j i h' h (λ z. nz (sym (of-true (eqb-r _ v) t) ∙ z)) (of-true (eqb-r _ v) t ∙ sym e)
      go (absent _ f) = absurd (of-false (eqb-r _ v) (f i h) e)

-- each row of B' is G of the row of B: it keeps its key, or is empty
module _ (n : ℕ) (B B' : ℕ → Row) (G : Row → Row) (u : Neat n B) (is : (i : ℕ) → i < n → B' i ≡ G (B i)) (keeps : (i : ℕ) → i < n → ((B' i 1).value ≡ (B i 1).value) ⊎ Absent (B' i)) (empty : (R : Row) → Absent R → Absent (G R)) where
  key-kept : (i : ℕ) → i < n → (B' i 1).value ≢ 0 → (B' i 1).value ≡ (B i 1).value
  key-kept i h n = go (keeps i h)
    where
      go : ((B' i 1).value ≡ (B i 1).value) ⊎ Absent (B' i) → (B' i 1).value ≡ (B i 1).value
      go (inl e) = e
      go (inr a) = absurd (n (ap (λ (x : Cell). x.value) (a 1)))

  pub neat-map : Neat n B'
  neat-map = record { unique = λ i j h h' nz e. u.unique i j h h' (λ z. nz (key-kept i h nz ∙ z)) (sym (key-kept i h nz) ∙ e ∙ key-kept j h' (λ z. nz (e ∙ z))); clean = clean }
    where
      clean : (i : ℕ) → i < n → (B' i 1).value ≡ 0 → Absent (B' i)
      clean i h z = go (keeps i h)
        where
          go : ((B' i 1).value ≡ (B i 1).value) ⊎ Absent (B' i) → Absent (B' i)
          go (inl e) = rw (is i h) (empty (B i) (u.clean i h (sym e ∙ z)))
          go (inr a) = a

  pub seek-map : (v : ℕ) → seek n B' v ≡ G (seek n B v)
  seek-map v = fun_ext (go (sought n B v) (sought n B' v) (decide (eqb-r v 0)))
    where
      none : Absent norow
      none k = refl

      nil : {R R' : Row} → Absent R' → Absent (G R) → (k : ℕ) → R' k ≡ G R k
      nil a b k = a k ∙ sym (b k)

      go : {R R' : Row} → Sought n B v R → Sought n B' v R' → (v ≡ 0) ⊎ (v ≢ 0) → (k : ℕ) → R' k ≡ G R k
      go (there i h e q) (there j h' e' q') (inl z) =
          nil (rw q' (neat-map.clean j h' (e' ∙ z))) (rw q (empty (B i) (u.clean i h (e ∙ z))))
      go (there i h e q) (there j h' e' q') (inr nz) =
          rw (q, q', u.unique i j h h' (λ z. nz (sym e ∙ z)) (e ∙ sym e' ∙ key-kept j h' (λ z. nz (sym e' ∙ z)))) (λ k. ap (λ (R : Row). R k) (is j h'))
      go {R} {R'} (there i h e q) (nowhere f q') _ = dropped (keeps i h)
        where
          dropped : ((B' i 1).value ≡ (B i 1).value) ⊎ Absent (B' i) → (k : ℕ) → R' k ≡ G R k
          dropped (inl p) = absurd (f i h (p ∙ e))
          dropped (inr a) = nil (rw q' none) (rw (q, ← (is i h)) a)
      go {R} {R'} (nowhere f q) (there j h' e' q') _ = dropped (keeps j h')
        where
          dropped : ((B' j 1).value ≡ (B j 1).value) ⊎ Absent (B' j) → (k : ℕ) → R' k ≡ G R k
          dropped (inl p) = absurd (f j h' (sym p ∙ e'))
          dropped (inr a) = nil (rw q' a) (rw q (empty norow none))
      go (nowhere f q) (nowhere f' q') _ = rw (q, q') (nil none (empty norow none))

pub at-seek : (D : Description) (T : Tables) (r l v : ℕ) → at D T r l v ≡ seek (row_count D r) (T r l) v
unfolding at
at-seek D T r l v = refl
