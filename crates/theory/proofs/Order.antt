-- Two apt effects from levels that do not dominate each other leave the same tables in either order.
-- Assumes nothing.
use Prim.Native.Nat.{ℕ, ◌<◌}
use mathlib.Core.Bool.{true}
use mathlib.Core.Logic.{◌≢◌, ◌⊎◌, inl, inr}
use mathlib.Core.Path.{◌≡◌, refl, sym, ap, ◌∙◌, fun_ext}
use native.Mathlib.Omega.{arith}
use Rattle.bounded.proofs.Reflection.{decide, eqb-r, ltb-r}
use Rattle.model.specs.Description.{over, row_count, refers_of}
use Rattle.model.specs.Effect.{Rows, Change, keep, take, only, Above, Effect, agrees, changed, gone_at, reach, carry, applied}
use Rattle.model.specs.Tables.{Cell, Row, Tables, seek, at}
use Rattle.model.specs.declared.Description.{Description}
use Rattle.theory.specs.Laws.{Laws}
use Rattle.theory.proofs.Fine.{Absent}
use Rattle.theory.proofs.Seek.{seek_is, at-seek}
use Rattle.theory.proofs.Reach.{reach-empty, carry_own, carry-above, carry-aside, Side, at_c, over-c, off-c, side}
use Rattle.theory.proofs.Lift.{Tidy, Fits, at-applied}
use Rattle.theory.proofs.Commute.{commute-above}

-- what reaches a row at l depends on the rows found at c and at l
module _ (D : Description) (U W : Tables) (c l : ℕ) (at-c' : (r v : ℕ) → U r c v ≡ W r c v) (at-l' : (r v : ℕ) → U r l v ≡ W r l v) where
  changed-local : (r k : ℕ) (h : Change) (x : Cell) → changed D U c r l k h x ≡ changed D W c r l k h x
  unfolding changed agrees
  changed-local r k keep x = refl
  changed-local r k (take v) x = rw (at-c' (refers_of D r) v, at-l' (refers_of D r) v)
  changed-local r k (only n) x = refl

  gone-local : (E : Above) (v r : ℕ) → gone_at D U c E l v r ≡ gone_at D W c E l v r
  unfolding gone_at
  gone-local E v r = rw (at-l' r v)

  pub reach-local : (E : Above) (r : ℕ) (R : Row) (k : ℕ) → reach D U c E r l R k ≡ reach D W c E r l R k
  unfolding reach
  reach-local E r R k = rw (at-c' r (R 1).value, gone-local E (R 1).value r, gone-local E (R k).value (refers_of D r), changed-local r k (E.change r (R 1).value k) (R k))

module _ (D : Description) (L : Laws D) (T : Tables) (t : Tidy D T) (a b : ℕ) (Ea Eb : Effect) (fa : Fits D T a Ea) (fb : Fits D T b Eb)
    (nab : over D a b ≡ true → ⊥) (nba : over D b a ≡ true → ⊥) where
  abbrev Ta : Tables
  Ta = applied D a Ea T

  abbrev Tb : Tables
  Tb = applied D b Eb T

  a≢b : a ≢ b
  a≢b e = nab (rw e (L.reflexive b fb.apt.level))

  -- levels that b does not reach
  at_off : (l : ℕ) → l ≢ b → (over D l b ≡ true → ⊥) → (r v : ℕ) → at D Tb r l v ≡ at D T r l v
  unfolding applied
  at_off l n m r v = at-seek D Tb r l v ∙ ap (λ (B : ℕ → Row). seek (row_count D r) B v) (fun_ext (λ i. carry-aside D (at D T) b Eb.own Eb.above T r l i n m)) ∙ sym (at-seek D T r l v)

  -- the rows of level a
  own_row : (r i : ℕ) → applied D b Eb Ta r a i ≡ applied D a Ea Tb r a i
  unfolding applied
  own_row r i =
      carry-aside D (at D Ta) b Eb.own Eb.above Ta r a i a≢b nab ∙ carry_own D (at D T) a Ea.own Ea.above T r i
      ∙ sym (carry_own D (at D Tb) a Ea.own Ea.above Tb r i)

  -- a level that only a reaches
  one-row : (r l i : ℕ) → l ≢ a → over D l a ≡ true → l ≢ b → (over D l b ≡ true → ⊥) → applied D b Eb Ta r l i ≡ applied D a Ea Tb r l i
  unfolding applied
  one-row r l i na da nb db =
      carry-aside D (at D Ta) b Eb.own Eb.above Ta r l i nb db ∙ carry-above D (at D T) a Ea.own Ea.above T r l i na da
      ∙ sym (carry-above D (at D Tb) a Ea.own Ea.above Tb r l i na da
      ∙ ap (reach D (at D Tb) a Ea.above r l) (carry-aside D (at D T) b Eb.own Eb.above T r l i nb db)
      ∙ fun_ext (reach-local D (at D Tb) (at D T) a l (at_off a a≢b nab) (at_off l nb db) Ea.above r (T r l i)))

  -- a level that neither reaches
  no_row : (r l i : ℕ) → l ≢ a → (over D l a ≡ true → ⊥) → l ≢ b → (over D l b ≡ true → ⊥) → applied D b Eb Ta r l i ≡ applied D a Ea Tb r l i
  unfolding applied
  no_row r l i na da nb db =
      carry-aside D (at D Ta) b Eb.own Eb.above Ta r l i nb db ∙ carry-aside D (at D T) a Ea.own Ea.above T r l i na da
      ∙ sym (carry-aside D (at D Tb) a Ea.own Ea.above Tb r l i na da ∙ carry-aside D (at D T) b Eb.own Eb.above T r l i nb db)

  abbrev Na : Rows
  Na r v = seek (row_count D r) (Ea.own r) v

  -- a level that both reach, a row in use
  used-row : (r l i v : ℕ) → over D l a ≡ true → over D l b ≡ true → at D T r l v ≡ T r l i
      → applied D b Eb Ta r l i ≡ reach D (carry D (at D T) a Na Ea.above (at D T)) b Eb.above r l (carry D (at D T) a Na Ea.above (at D T) r l v)
  unfolding applied
  used-row r l i v la lb e =
      carry-above D (at D Ta) b Eb.own Eb.above Ta r l i (λ q. nba (rw q at la)) lb
      ∙ ap (reach D (at D Ta) b Eb.above r l) row
      ∙ ap (λ (W : Tables). reach D W b Eb.above r l (carry D (at D T) a Na Ea.above (at D T) r l v)) (at-applied D L T a Ea t fa)
    where
      na : l ≢ a
      na q = nab (rw q at lb)

      row : Ta r l i ≡ carry D (at D T) a Na Ea.above (at D T) r l v
      row =
          carry-above D (at D T) a Ea.own Ea.above T r l i na la ∙ ap (reach D (at D T) a Ea.above r l) (sym e)
          ∙ sym (carry-above D (at D T) a Na Ea.above (at D T) r l v na la)

  -- an empty row
  empty-row : (r l i : ℕ) → over D l a ≡ true → over D l b ≡ true → Absent (T r l i) → Absent (applied D b Eb Ta r l i)
  unfolding applied
  empty-row r l i la lb e =
      rw (carry-above D (at D Ta) b Eb.own Eb.above Ta r l i (λ q. nba (rw q at la)) lb, carry-above D (at D T) a Ea.own Ea.above T r l i (λ q. nab (rw q at lb)) la)
      (reach-empty D L (at D Ta) b Eb.above r l (reach D (at D T) a Ea.above r l (T r l i)) fb.apt.level (λ r v g. (fb.apt.gone r v g).0)
      (reach-empty D L (at D T) a Ea.above r l (T r l i) fa.apt.level (λ r v g. (fa.apt.gone r v g).0) e))

module _ (D : Description) (L : Laws D) (T : Tables) (t : Tidy D T) (a b : ℕ) (Ea Eb : Effect) (fa : Fits D T a Ea) (fb : Fits D T b Eb)
    (nab : over D a b ≡ true → ⊥) (nba : over D b a ≡ true → ⊥) where
  both-row : (r l i : ℕ) → over D l a ≡ true → over D l b ≡ true → applied D b Eb (applied D a Ea T) r l i ≡ applied D a Ea (applied D b Eb T) r l i
  both-row r l i la lb = go (decide (ltb-r i (row_count D r))) (decide (eqb-r (T r l i 1).value 0))
    where
      empty : Absent (T r l i) → applied D b Eb (applied D a Ea T) r l i ≡ applied D a Ea (applied D b Eb T) r l i
      empty e = fun_ext (λ k. empty-row D L T t a b Ea Eb fa fb nab nba r l i la lb e k ∙ sym (empty-row D L T t b a Eb Ea fb fa nba nab r l i lb la e k))

      go : (i < row_count D r) ⊎ (i < row_count D r → ⊥) → ((T r l i 1).value ≡ 0) ⊎ ((T r l i 1).value ≢ 0) → applied D b Eb (applied D a Ea T) r l i ≡ applied D a Ea (applied D b Eb T) r l i
      go (inr n) _ = empty (t.outside r l i (omega arith))
      go (inl h) (inl z) = empty ((t.neat r l).clean i h z)
      go (inl h) (inr nz) =
          used-row D L T t a b Ea Eb fa fb nab nba r l i v la lb e
          ∙ fun_ext (commute-above D L (at D T) t.fine a b _ _ Ea.above Eb.above fa.apt fb.apt nab nba l la lb r v)
          ∙ sym (used-row D L T t b a Eb Ea fb fa nba nab r l i v lb la e)
        where
          v : ℕ
          v = (T r l i 1).value

          e : at D T r l v ≡ T r l i
          e = at-seek D T r l v ∙ seek_is (row_count D r) (T r l) (t.neat r l) i v h refl nz

  row : (r l i : ℕ) → applied D b Eb (applied D a Ea T) r l i ≡ applied D a Ea (applied D b Eb T) r l i
  row r l i = go (side D a l) (side D b l)
    where
      go : Side D a l → Side D b l → applied D b Eb (applied D a Ea T) r l i ≡ applied D a Ea (applied D b Eb T) r l i
      go (at_c e) _ = rw e (own_row D L T t a b Ea Eb fa fb nab nba r i)
      go (over-c _ _) (at_c e) = rw e (sym (own_row D L T t b a Eb Ea fb fa nba nab r i))
      go (off-c _ _) (at_c e) = rw e (sym (own_row D L T t b a Eb Ea fb fa nba nab r i))
      go (over-c n m) (over-c n' m') = both-row r l i m m'
      go (over-c n m) (off-c n' m') = one-row D L T t a b Ea Eb fa fb nab nba r l i n m n' m'
      go (off-c n m) (over-c n' m') = sym (one-row D L T t b a Eb Ea fb fa nba nab r l i n' m' n m)
      go (off-c n m) (off-c n' m') = no_row D L T t a b Ea Eb fa fb nab nba r l i n m n' m'

  -- cell for cell
  pub effects-commute : applied D b Eb (applied D a Ea T) ≡ applied D a Ea (applied D b Eb T)
  effects-commute = fun_ext (λ r. fun_ext (λ l. fun_ext (λ i. row r l i)))

-- what c sees after a statement at b, where c does not dominate b
module _ (D : Description) (L : Laws D) (T : Tables) (b c : ℕ) (E : Effect) (n : over D c b ≡ true → ⊥) where
  pub unseen-row : (r l i : ℕ) → over D c l ≡ true → applied D b E T r l i ≡ T r l i
  unfolding applied
  unseen-row r l i h = carry-aside D (at D T) b E.own E.above T r l i (λ e. n (rw e at h)) (λ m. n (L.transitive c l b h m))
