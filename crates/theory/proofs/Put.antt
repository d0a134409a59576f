-- A row put in place i₀, which was empty or held the row of the same key.
-- Assumes nothing.
use Rattle.std.specs.Prelude.{if◌then◌else◌}
use Prim.Native.Nat.{ℕ, ◌<◌}
use mathlib.Core.Logic.{◌≢◌, ◌⊎◌, inl, inr}
use mathlib.Core.Path.{◌≡◌, refl, sym, ◌∙◌, fun_ext}
use lib.Dec.{eqb}
use Rattle.bounded.proofs.Reflection.{is_true, is_false, decide, eqb-r}
use Rattle.model.specs.Tables.{Row, norow, seek}
use Rattle.theory.proofs.Fine.{Absent}
use Rattle.theory.proofs.Seek.{Sought, there, nowhere, sought, Neat, seek_is}

module _ (n : ℕ) (B : ℕ → Row) (u : Neat n B) (i₀ v₀ : ℕ) (New : Row) (h₀ : i₀ < n) (key : (New 1).value ≡ v₀) (some : v₀ ≢ 0)
    (alone : (i : ℕ) → i < n → (B i 1).value ≡ v₀ → i ≡ i₀) (slot : ((B i₀ 1).value ≡ 0) ⊎ ((B i₀ 1).value ≡ v₀)) where
  put : ℕ → Row
  put i = if eqb i i₀ then New else B i

  put-there : put i₀ ≡ New
  unfolding put
  put-there = rw (is_true (eqb-r i₀ i₀) refl)

  put_other : (i : ℕ) → i ≢ i₀ → put i ≡ B i
  unfolding put
  put_other i ne = rw (is_false (eqb-r i i₀) ne)

  data Place (i : ℕ) : Type 0 where
    new : i ≡ i₀ → put i ≡ New → Place i
    old : i ≢ i₀ → put i ≡ B i → Place i

  place? : (i : ℕ) → Place i
  place? i = go (decide (eqb-r i i₀))
    where
      go : (i ≡ i₀) ⊎ (i ≢ i₀) → Place i
      go (inl e) = new e (rw e put-there)
      go (inr ne) = old ne (put_other i ne)

  neat : Neat n put
  neat = record { unique = λ i j h h' nz e. unique i j h h' nz e (place? i) (place? j); clean = λ i h z. clean i h z (place? i) }
    where
      unique : (i j : ℕ) → i < n → j < n → (put i 1).value ≢ 0 → (put i 1).value ≡ (put j 1).value → Place i → Place j → i ≡ j
      unique i j h h' nz e (new p _) (new q _) = p ∙ sym q
      unique i j h h' nz e (new p x) (old m y) = absurd (m (alone j h' (cc (e, x, y, key))))
      unique i j h h' nz e (old m x) (new q y) = absurd (m (alone i h (cc (e, x, y, key))))
      unique i j h h' nz e (old _ x) (old _ y) = u.unique i j h h' (λ z. nz (cc (x, z))) (cc (e, x, y))

      clean : (i : ℕ) → i < n → (put i 1).value ≡ 0 → Place i → Absent (put i)
      clean i h z (new _ x) = absurd (some (cc (z, x, key)))
      clean i h z (old _ x) = rw x (u.clean i h (cc (z, x)))

  pub put-neat : Neat n (λ i. if eqb i i₀ then New else B i)
  unfolding put
  put-neat = neat

  -- the row found by a key
  pub seek-put : (v : ℕ) → seek n (λ i. if eqb i i₀ then New else B i) v ≡ (if eqb v v₀ then New else seek n B v)
  unfolding put
  seek-put v = go (decide (eqb-r v v₀)) (decide (eqb-r v 0))
    where
      go : (v ≡ v₀) ⊎ (v ≢ v₀) → (v ≡ 0) ⊎ (v ≢ 0) → seek n put v ≡ (if eqb v v₀ then New else seek n B v)
      go (inl e) _ = rw (is_true (eqb-r v v₀) e) (seek_is n put neat i₀ v h₀ (cc (put-there, key, e)) (λ z. some (sym e ∙ z)) ∙ put-there)
      go (inr ne) (inl z) = rw (is_false (eqb-r v v₀) ne) (fun_ext (λ k. empty-put (sought n put v) k ∙ sym (empty-old (sought n B v) k)))
        where
          empty-put : {R : Row} → Sought n put v R → Absent R
          empty-put (there i h e q) = rw q (neat.clean i h (e ∙ z))
          empty-put (nowhere _ q) = rw q (λ k. refl)

          empty-old : {R : Row} → Sought n B v R → Absent R
          empty-old (there i h e q) = rw q (u.clean i h (e ∙ z))
          empty-old (nowhere _ q) = rw q (λ k. refl)
      go (inr ne) (inr nz) = rw (is_false (eqb-r v v₀) ne) (by (sought n B v))
        where
          not-slot : (i : ℕ) → (B i 1).value ≡ v → i ≢ i₀
          not-slot i e q = off slot
            where
              off : ((B i₀ 1).value ≡ 0) ⊎ ((B i₀ 1).value ≡ v₀) → ⊥
              off (inl z) = nz (cc (e, q, z))
              off (inr w) = ne (cc (e, q, w))

          by : {R : Row} → Sought n B v R → seek n put v ≡ R
          by (there i h e q) = seek_is n put neat i v h (cc (put_other i (not-slot i e), e)) nz ∙ put_other i (not-slot i e) ∙ sym q
          by (nowhere f q) = none (sought n put v) ∙ sym q
            where
              none : {R : Row} → Sought n put v R → R ≡ norow
              none (nowhere _ x) = x
              none (there j h e x) = absurd (here (place? j))
                where
                  here : Place j → ⊥
                  here (new _ y) = ne (cc (e, y, key))
                  here (old _ y) = f j h (cc (e, y))
