-- Tables stay legal: rows by place, and by key.
-- Assumes nothing.
use Prim.Native.Nat.{ℕ, ◌<◌, ◌≤◌}
use mathlib.Core.Bool.{true}
use mathlib.Core.Logic.{◌≢◌, ◌⊎◌, inl, inr}
use mathlib.Core.Path.{◌≡◌, refl, sym, ap, ◌∙◌, subst, fun_ext}
use Rattle.bounded.proofs.Reflection.{decide, eqb-r}
use Rattle.model.specs.Description.{over, row_count}
use Rattle.model.specs.Effect.{Rows, Effect, reach, carry, applied}
use Rattle.model.specs.Tables.{Row, Tables, seek, at}
use Rattle.model.specs.declared.Description.{Description}
use Rattle.theory.specs.Laws.{Laws}
use Rattle.theory.proofs.Fine.{Absent, Fine, value_of}
use Rattle.theory.proofs.Seek.{Neat, seek_is, neat-map, seek-map, at-seek}
use Rattle.theory.proofs.Reach.{gone-r, Gone, gone-empties, reach-empty, carry_own, carry-above, carry-aside, Side, at_c, over-c, off-c, side}
use Rattle.theory.proofs.Apt.{Apt}
use Rattle.theory.proofs.Above.{stayed, stays-fine}

pub record Tidy (D : Description) (T : Tables) : Type 0 where
  pub neat : (r l : ℕ) → Neat (row_count D r) (T r l)
  pub outside : (r l i : ℕ) → row_count D r ≤ i → Absent (T r l i)
  pub fine : Fine D (at D T)

-- an effect at c that keeps these tables legal
pub record Fits (D : Description) (T : Tables) (c : ℕ) (E : Effect) : Type 0 where
  pub neat : (r : ℕ) → Neat (row_count D r) (E.own r)
  pub outside : (r i : ℕ) → row_count D r ≤ i → Absent (E.own r i)
  pub apt : Apt D (at D T) c (λ r v. seek (row_count D r) (E.own r) v) E.above

module _ (D : Description) (L : Laws D) (T : Tables) (c : ℕ) (E : Effect) (t : Tidy D T) (f : Fits D T c E) where
  A : Apt D (at D T) c (λ r v. seek (row_count D r) (E.own r) v) E.above
  A = f.apt

  abbrev W : Tables
  W = at D T

  abbrev N : Rows
  N r v = seek (row_count D r) (E.own r) v

  module _ (r l : ℕ) (ne : l ≢ c) (dm : over D l c ≡ true) where
    keeps : (i : ℕ) → i < row_count D r → ((reach D W c E.above r l (T r l i) 1).value ≡ (T r l i 1).value) ⊎ Absent (reach D W c E.above r l (T r l i))
    keeps i h = go (decide (eqb-r (T r l i 1).value 0))
      where
        v : ℕ
        v = (T r l i 1).value

        go : (v ≡ 0) ⊎ (v ≢ 0) → ((reach D W c E.above r l (T r l i) 1).value ≡ v) ⊎ Absent (reach D W c E.above r l (T r l i))
        go (inl z) = inr (reach-empty D L W c E.above r l (T r l i) A.level (λ r v g. (A.gone r v g).0) ((t.neat r l).clean i h z))
        go (inr nz) =
            subst (λ (R : Row). ((reach D W c E.above r l R 1).value ≡ (R 1).value) ⊎ Absent (reach D W c E.above r l R)) e (by (decide (gone-r D W c E.above l (W r l v 1).value L r)))
          where
            e : W r l v ≡ T r l i
            e = at-seek D T r l v ∙ seek_is (row_count D r) (T r l) (t.neat r l) i v h refl nz

            by : Gone D L W c E.above r l (W r l v) ⊎ (Gone D L W c E.above r l (W r l v) → ⊥)
                → ((reach D W c E.above r l (W r l v) 1).value ≡ (W r l v 1).value) ⊎ Absent (reach D W c E.above r l (W r l v))
            by (inl g) = inr (gone-empties D L W c E.above r l (W r l v) g)
            by (inr ng) = inl (value_of (stayed D L W c N E.above t.fine A r l v ne dm ng))

  out : (r l : ℕ) → Neat (row_count D r) (applied D c E T r l) × ((v : ℕ) → seek (row_count D r) (applied D c E T r l) v ≡ carry D W c N E.above W r l v)
  unfolding applied
  out r l = go (side D c l)
    where
      go : Side D c l → Neat (row_count D r) (applied D c E T r l) × ((v : ℕ) → seek (row_count D r) (applied D c E T r l) v ≡ carry D W c N E.above W r l v)
      go (at_c e) = rw (e, fun_ext (carry_own D W c E.own E.above T r)) (f.neat r, λ v. sym (carry_own D W c N E.above W r v))
      go (off-c n m) =
          rw (fun_ext (λ i. carry-aside D W c E.own E.above T r l i n m)) (t.neat r l, λ v. sym (carry-aside D W c N E.above W r l v n m ∙ at-seek D T r l v))
      go (over-c n m) =
          rw (fun_ext (λ i. carry-above D W c E.own E.above T r l i n m)) (
            neat-map (row_count D r) (T r l) (λ i. G (T r l i)) G (t.neat r l) (λ i _. refl) (keeps r l n m) empties,
            λ v. seek-map (row_count D r) (T r l) (λ i. G (T r l i)) G (t.neat r l) (λ i _. refl) (keeps r l n m) empties v
                ∙ sym (carry-above D W c N E.above W r l v n m ∙ ap G (at-seek D T r l v)),
          )
        where
          G : Row → Row
          G = reach D W c E.above r l

          empties : (R : Row) → Absent R → Absent (G R)
          empties R a = reach-empty D L W c E.above r l R A.level (λ r v g. (A.gone r v g).0) a

  pub at-applied : at D (applied D c E T) ≡ carry D W c N E.above W
  at-applied = fun_ext (λ r. fun_ext (λ l. fun_ext (λ v. at-seek D (applied D c E T) r l v ∙ (out r l).1 v)))

  pub stays-tidy : Tidy D (applied D c E T)
  unfolding applied
  stays-tidy = record { neat = λ r l. (out r l).0; outside = λ r l i h. empty r l i h (side D c l); fine = subst (Fine D) (sym at-applied) (stays-fine D L W c N E.above t.fine A) }
    where
      empty : (r l i : ℕ) → row_count D r ≤ i → Side D c l → Absent (applied D c E T r l i)
      empty r l i h (at_c e) = rw (e, carry_own D W c E.own E.above T r i) (f.outside r i h)
      empty r l i h (over-c n m) = rw (carry-above D W c E.own E.above T r l i n m) (reach-empty D L W c E.above r l (T r l i) A.level (λ r v g. (A.gone r v g).0) (t.outside r l i h))
      empty r l i h (off-c n m) = rw (carry-aside D W c E.own E.above T r l i n m) (t.outside r l i h)
