-- Two apt effects from levels that do not dominate each other: above both, either order leaves the same rows.
-- Assumes nothing.
use Prim.Native.Nat.{ℕ}
use mathlib.Core.Bool.{true}
use mathlib.Core.Logic.{◌≢◌, ◌⊎◌, inl, inr}
use mathlib.Core.Path.{◌≡◌, refl, sym, ap, ◌∙◌, subst}
use Rattle.bounded.proofs.Reflection.{decide, and_r, eqb-r}
use Rattle.model.specs.Description.{over, foreign_of, refers_of, in_range}
use Rattle.model.specs.Effect.{Rows, Change, take, Above, changed, reach, carry}
use Rattle.model.specs.Tables.{Cell, cell, nocell, Tables, at, own_null}
use Rattle.model.specs.declared.Description.{Description}
use Rattle.theory.specs.Laws.{Laws}
use Rattle.theory.proofs.Fine.{same-r, Named, Absent, Keyed, Fine, value_of, class_of, nocell-value, nocell-class, no-level}
use Rattle.theory.proofs.Reach.{GoneAt, root, gone-r, Gone, Hit, Cut, Reached, emptied, hit, cut, kept, reached, gone-empties, reach-empty, settle-class, Lost, Changed, settled, lost, changes, own-null, carry-above, carry-aside}
use Rattle.theory.proofs.Apt.{Apt}
use Rattle.theory.proofs.Above.{some-gone, gone-over, gone_same, gone_at_lem, stayed, source}

module _ (D : Description) (L : Laws D) (W : Tables) (F : Fine D W) (a b : ℕ) (Na Nb : Rows) (Ea Eb : Above)
    (Aa : Apt D W a Na Ea) (Ab : Apt D W b Nb Eb) (nab : over D a b ≡ true → ⊥) (nba : over D b a ≡ true → ⊥)
    (l : ℕ) (la : over D l a ≡ true) (lb : over D l b ≡ true) where
  abbrev Wa : Tables
  Wa = carry D W a Na Ea W

  not_a : l ≢ a
  not_a e = nab (rw e at lb)

  a≢b : a ≢ b
  a≢b e = nab (rw e (L.reflexive b Ab.level))

  -- rows at l after a's statement
  wa : (r w : ℕ) → Wa r l w ≡ reach D W a Ea r l (W r l w)
  wa r w = carry-above D W a Na Ea W r l w not_a la

  -- rows at b are as they were
  wa-b : (r w : ℕ) → Wa r b w ≡ W r b w
  wa-b r w = carry-aside D W a Na Ea W r b w (λ e. a≢b (sym e)) nba

  wa-key : (r w : ℕ) → (Gone D L W a Ea r l (W r l w) × (Wa r l w 1 ≡ nocell)) ⊎ (Wa r l w 1 ≡ W r l w 1)
  wa-key r w = rw (wa r w) (go (decide (gone-r D W a Ea l (W r l w 1).value L r)))
    where
      go : Gone D L W a Ea r l (W r l w) ⊎ (Gone D L W a Ea r l (W r l w) → ⊥)
          → (Gone D L W a Ea r l (W r l w) × (reach D W a Ea r l (W r l w) 1 ≡ nocell)) ⊎ (reach D W a Ea r l (W r l w) 1 ≡ W r l w 1)
      go (inl g) = inl (g, gone-empties D L W a Ea r l (W r l w) g 1)
      go (inr n) = inr (stayed D L W a Na Ea F Aa r l w not_a la n)

  -- a class of b's in a key at l was there before a's statement
  key-b : (r w : ℕ) → (Wa r l w 1).class ≡ b → W r l w 1 ≡ Wa r l w 1
  key-b r w e = go (wa-key r w)
    where
      go : (Gone D L W a Ea r l (W r l w) × (Wa r l w 1 ≡ nocell)) ⊎ (Wa r l w 1 ≡ W r l w 1) → W r l w 1 ≡ Wa r l w 1
      go (inl g) = absurd (no-level L (sym e ∙ nocell-class g.1) Ab.level)
      go (inr q) = sym q

  key-kept : (r v : ℕ) → (Gone D L W a Ea r l (W r l v) → ⊥) → Wa r l v 1 ≡ W r l v 1
  key-kept r v nga = rw (wa r v) (stayed D L W a Na Ea F Aa r l v not_a la nga)

  -- a deletes the row's entity, before b and after b
  gone-first : (r v k : ℕ) → Gone D L W a Ea r l (W r l v) → reach D Wa b Eb r l (Wa r l v) k ≡ nocell
  gone-first r v k g = reach-empty D L Wa b Eb r l (Wa r l v) Ab.level (λ r v g. (Ab.gone r v g).0) (rw (wa r v) (gone-empties D L W a Ea r l (W r l v) g)) k

  -- what b empties after a's statement it empties before, and the other way unless a empties it
  gone-back : {w r : ℕ} → GoneAt D Wa b Eb l w r → GoneAt D W b Eb l w r
  gone-back {w} {r} (root g e) = root g (cc (key-b r w e, e))

  gone-forth : (r w : ℕ) → (GoneAt D W a Ea l w r → ⊥) → GoneAt D W b Eb l w r → GoneAt D Wa b Eb l w r
  gone-forth r w n (root g e) = root g (cc (key-kept r w (λ h. n (gone_at_lem D L W a Na Ea F Aa (key (F.keyed r l w)) h)), e))
    where
      key : Absent (W r l w) ⊎ Keyed (W r l w) w → (W r l w 1).value ≡ w
      key (inl z) = absurd (no-level L (sym e ∙ nocell-class (z 1)) Ab.level)
      key (inr k) = k.0

  gone-second : (r v k : ℕ) → Gone D L W b Eb r l (W r l v) → reach D Wa b Eb r l (Wa r l v) k ≡ nocell
  gone-second r v k g = go (decide (gone-r D W a Ea l (W r l v 1).value L r))
    where
      go : Gone D L W a Ea r l (W r l v) ⊎ (Gone D L W a Ea r l (W r l v) → ⊥) → reach D Wa b Eb r l (Wa r l v) k ≡ nocell
      go (inl h) = gone-first r v k h
      go (inr n) = gone-empties D L Wa b Eb r l (Wa r l v) (subst (λ (x : Cell). GoneAt D Wa b Eb l x.value r) (sym (key-kept r v n)) (gone-forth r (W r l v 1).value n g)) k

  module _ (r v : ℕ) (nga : Gone D L W a Ea r l (W r l v) → ⊥) (ngb : Gone D L W b Eb r l (W r l v) → ⊥) where
    ka : Wa r l v 1 ≡ W r l v 1
    ka = key-kept r v nga

    not-gone : Gone D L Wa b Eb r l (Wa r l v) → ⊥
    not-gone g = ngb (gone_at_lem D L W b Nb Eb F Ab (value_of ka) (gone-back g))

    not-hit : (k : ℕ) → (Hit D L W b Eb r l (W r l v) k → ⊥) → (Wa r l v k).class ≡ (W r l v k).class → Hit D L Wa b Eb r l (Wa r l v) k → ⊥
    not-hit k nh e h = nh (cc (h.0, e), cc (h.1, ka, wa-b r (W r l v 1).value))

    alone : (k : ℕ) → (Hit D L Wa b Eb r l (Wa r l v) k → ⊥) → (Cut D L Wa b Eb r l (Wa r l v) k → ⊥) → reach D Wa b Eb r l (Wa r l v) k ≡ Wa r l v k
    alone k nh nt = go (reached D L Wa b Eb r l (Wa r l v) k)
      where
        go : {y : Cell} → Reached D L Wa b Eb r l (Wa r l v) k y → y ≡ Wa r l v k
        go (emptied g _) = absurd (not-gone g)
        go (hit _ h _) = absurd (nh h)
        go (cut _ _ t _) = absurd (nt t)
        go (kept _ _ _ e) = e

    -- a changes its cell, and b leaves that alone
    hit-value : (k : ℕ) → Hit D L W a Ea r l (W r l v) k → Wa r l v k ≡ changed D W a r l k (Ea.change r (W r l v 1).value k) (W r l v k)
    hit-value k h = rw (wa r v) (go (reached D L W a Ea r l (W r l v) k))
      where
        go : {x : Cell} → Reached D L W a Ea r l (W r l v) k x → x ≡ changed D W a r l k (Ea.change r (W r l v 1).value k) (W r l v k)
        go (emptied g _) = absurd (nga g)
        go (hit _ _ e) = e
        go (cut _ n _ _) = absurd (n h)
        go (kept _ n _ _) = absurd (n h)

    hit-alone : (k : ℕ) → Hit D L W a Ea r l (W r l v) k → reach D Wa b Eb r l (Wa r l v) k ≡ Wa r l v k
    hit-alone k h = alone k (λ g. no_hit (changes D W a r l k ch (W r l v k)) y g.0) no_cut
      where
        ch : Change
        ch = Ea.change r (W r l v 1).value k

        y : Wa r l v k ≡ changed D W a r l k ch (W r l v k)
        y = hit-value k h

        no_hit : {x z : Cell} → Changed D W a r l k ch (W r l v k) z → x ≡ z → x.class ≡ b → ⊥
        no_hit (settled _ e) p q = a≢b (cc (settle-class a ch (W r l v k) h.0))
        no_hit (lost _ e) p q = nulled (own-null D r k l) (p ∙ e) q
          where
            nulled : {x : Cell} → (own_null D r k l ≡ nocell) ⊎ ((in_range D r k l ≡ true) × (own_null D r k l ≡ cell 0 l)) → x ≡ own_null D r k l → x.class ≡ b → ⊥
            nulled (inl z) p q = no-level L (sym q ∙ nocell-class (p ∙ z)) Ab.level
            nulled (inr z) p q = nba (subst (λ (i : ℕ). over D i a ≡ true) (sym (class_of (p ∙ z.1)) ∙ q) la)

        no_cut : Cut D L Wa b Eb r l (Wa r l v) k → ⊥
        no_cut t = nab (gone-over D L W b Nb Eb F Ab (gone_same D L W b Nb Eb F Ab (refers_of D r) l a w src.0 src.1 (gone-back t.1)))
          where
            w : ℕ
            w = (Wa r l v k).value

            src : (W (refers_of D r) l w 1 ≡ W (refers_of D r) a w 1) × Keyed (W (refers_of D r) a w) w
            src = source D L W a Na Ea F Aa r l v k t.0 h (Wa r l v k) y (some-gone D L W b Nb Eb F Ab (gone-back t.1))

    left-hit : (k : ℕ) → Hit D L W a Ea r l (W r l v) k → reach D Wa b Eb r l (Wa r l v) k ≡ changed D W a r l k (Ea.change r (W r l v 1).value k) (W r l v k)
    left-hit k h = hit-alone k h ∙ hit-value k h

    -- a leaves the cell alone
    same-cell : (k : ℕ) → (Hit D L W a Ea r l (W r l v) k → ⊥) → (Cut D L W a Ea r l (W r l v) k → ⊥) → Wa r l v k ≡ W r l v k
    same-cell k nh nt = rw (wa r v) (go (reached D L W a Ea r l (W r l v) k))
      where
        go : {x : Cell} → Reached D L W a Ea r l (W r l v) k x → x ≡ W r l v k
        go (emptied g _) = absurd (nga g)
        go (hit _ h _) = absurd (nh h)
        go (cut _ _ t _) = absurd (nt t)
        go (kept _ _ _ e) = e

    neither : (k : ℕ) → (Hit D L W a Ea r l (W r l v) k → ⊥) → (Cut D L W a Ea r l (W r l v) k → ⊥) → (Hit D L W b Eb r l (W r l v) k → ⊥) → (Cut D L W b Eb r l (W r l v) k → ⊥)
        → reach D Wa b Eb r l (Wa r l v) k ≡ W r l v k
    neither k ha ta hb tb = alone k (not-hit k hb (class_of x)) (λ t. tb (t.0, gone_at_lem D L W b Nb Eb F Ab (value_of x) (gone-back t.1))) ∙ x
      where
        x : Wa r l v k ≡ W r l v k
        x = same-cell k ha ta

    cut-value : (k : ℕ) → (Hit D L W a Ea r l (W r l v) k → ⊥) → Cut D L W a Ea r l (W r l v) k → Wa r l v k ≡ cell 0 (W r l v k).class
    cut-value k ha ta = rw (wa r v) (go (reached D L W a Ea r l (W r l v) k))
      where
        go : {x : Cell} → Reached D L W a Ea r l (W r l v) k x → x ≡ cell 0 (W r l v k).class
        go (emptied g _) = absurd (nga g)
        go (hit _ h _) = absurd (ha h)
        go (cut _ _ _ e) = e
        go (kept _ _ n _) = absurd (n ta)

    cut-alone : (k : ℕ) → (Hit D L W a Ea r l (W r l v) k → ⊥) → Cut D L W a Ea r l (W r l v) k → (Hit D L W b Eb r l (W r l v) k → ⊥) → reach D Wa b Eb r l (Wa r l v) k ≡ Wa r l v k
    cut-alone k ha ta hb = alone k (not-hit k hb (class_of (cut-value k ha ta))) (λ t. some-gone D L W b Nb Eb F Ab (gone-back t.1) (value_of (cut-value k ha ta)))

    first-cut : (k : ℕ) → (Hit D L W a Ea r l (W r l v) k → ⊥) → Cut D L W a Ea r l (W r l v) k → (Hit D L W b Eb r l (W r l v) k → ⊥)
        → reach D Wa b Eb r l (Wa r l v) k ≡ cell 0 (W r l v k).class
    first-cut k ha ta hb = cut-alone k ha ta hb ∙ cut-value k ha ta

    second-cut : (k : ℕ) → (Hit D L W a Ea r l (W r l v) k → ⊥) → (Hit D L W b Eb r l (W r l v) k → ⊥) → Cut D L W b Eb r l (W r l v) k
        → reach D Wa b Eb r l (Wa r l v) k ≡ cell 0 (W r l v k).class
    second-cut k ha hb tb = by (decide (and_r (eqb-r k (foreign_of D r)) (gone-r D W a Ea l (W r l v k).value L (refers_of D r))))
      where
        by : Cut D L W a Ea r l (W r l v) k ⊎ (Cut D L W a Ea r l (W r l v) k → ⊥) → reach D Wa b Eb r l (Wa r l v) k ≡ cell 0 (W r l v k).class
        by (inl ta) = first-cut k ha ta hb
        by (inr nta) = go (reached D L Wa b Eb r l (Wa r l v) k)
          where
            x : Wa r l v k ≡ W r l v k
            x = same-cell k ha nta

            go : {y : Cell} → Reached D L Wa b Eb r l (Wa r l v) k y → y ≡ cell 0 (W r l v k).class
            go (emptied g _) = absurd (not-gone g)
            go (hit _ h _) = absurd (not-hit k hb (class_of x) h)
            go (cut _ _ _ e) = e ∙ ap (λ (z : Cell). cell 0 z.class) x
            go (kept _ _ n _) = absurd (n (tb.0, subst (λ (z : Cell). GoneAt D Wa b Eb l z.value (refers_of D r)) (sym x) (gone-forth (refers_of D r) (W r l v k).value (λ h. nta (tb.0, h)) tb.1)))

    -- a's statement does not change whether b's reference is lost
    lost-same : (k : ℕ) (h : Change) → Eb.change r (W r l v 1).value k ≡ h → (Lost D Wa b r l k h → Lost D W b r l k h) × (Lost D W b r l k h → Lost D Wa b r l k h)
    lost-same k h e = (
      λ t. record { v = t.v; is = t.is; foreign = t.foreign; some = t.some; other = back t (wa-key (refers_of D r) t.v) },
      λ t. record { v = t.v; is = t.is; foreign = t.foreign; some = t.some; other = forth t (wa-key (refers_of D r) t.v) },
    )
      where
        keyed : {w : ℕ} → h ≡ take w → k ≡ foreign_of D r → w ≢ 0 → Keyed (W (refers_of D r) b w) w
        keyed {w} i f n = Ab.taken r (W r l v 1).value k w (e ∙ i) f n

        back : (t : Lost D Wa b r l k h) → (Gone D L W a Ea (refers_of D r) l (W (refers_of D r) l t.v) × (Wa (refers_of D r) l t.v 1 ≡ nocell)) ⊎ (Wa (refers_of D r) l t.v 1 ≡ W (refers_of D r) l t.v 1)
            → W (refers_of D r) l t.v 1 ≢ W (refers_of D r) b t.v 1
        back t (inl g) q = nba (gone-over D L W a Na Ea F Aa (gone_same D L W a Na Ea F Aa (refers_of D r) l b t.v q kb (gone_at_lem D L W a Na Ea F Aa (cc (q, kb.0)) g.0)))
          where
            kb : Keyed (W (refers_of D r) b t.v) t.v
            kb = keyed t.is t.foreign t.some
        back t (inr p) q = t.other (cc (p, q, wa-b (refers_of D r) t.v))

        forth : (t : Lost D W b r l k h) → (Gone D L W a Ea (refers_of D r) l (W (refers_of D r) l t.v) × (Wa (refers_of D r) l t.v 1 ≡ nocell)) ⊎ (Wa (refers_of D r) l t.v 1 ≡ W (refers_of D r) l t.v 1)
            → Wa (refers_of D r) l t.v 1 ≢ Wa (refers_of D r) b t.v 1
        forth t (inl g) q = t.some (sym (keyed t.is t.foreign t.some).0 ∙ nocell-value {x = W (refers_of D r) b t.v 1} (cc (g.1, q, wa-b (refers_of D r) t.v)))
        forth t (inr p) q = t.other (cc (p, q, wa-b (refers_of D r) t.v))

    changed-same : (k : ℕ) (x : Cell) → changed D Wa b r l k (Eb.change r (W r l v 1).value k) x ≡ changed D W b r l k (Eb.change r (W r l v 1).value k) x
    changed-same k x = go (changes D Wa b r l k ch x) (changes D W b r l k ch x)
      where
        ch : Change
        ch = Eb.change r (W r l v 1).value k

        go : {y z : Cell} → Changed D Wa b r l k ch x y → Changed D W b r l k ch x z → y ≡ z
        go (settled _ e) (settled _ f) = e ∙ sym f
        go (lost _ e) (lost _ f) = e ∙ sym f
        go (settled n _) (lost t _) = absurd (n ((lost-same k ch refl).1 t))
        go (lost t _) (settled n _) = absurd (n ((lost-same k ch refl).0 t))

    hit-uncut : (k : ℕ) → Hit D L W b Eb r l (W r l v) k → Cut D L W a Ea r l (W r l v) k → ⊥
    hit-uncut k h t = nba (gone-over D L W a Na Ea F Aa (gone_same D L W a Na Ea F Aa (refers_of D r) l b (W r l v k).value (cc (name.one, h.0)) (cc (name.one, name.there, h.0), some) t.1))
      where
        some : (W r l v k).value ≢ 0
        some = some-gone D L W a Na Ea F Aa t.1

        name : Named D W r l v k
        name = F.refs r l v k t.0 some

    second-hit : (k : ℕ) → Hit D L W b Eb r l (W r l v) k → reach D Wa b Eb r l (Wa r l v) k ≡ changed D W b r l k (Eb.change r (W r l v 1).value k) (W r l v k)
    second-hit k h = go (reached D L Wa b Eb r l (Wa r l v) k)
      where
        x : Wa r l v k ≡ W r l v k
        x = same-cell k (λ g. a≢b (sym g.0 ∙ h.0)) (hit-uncut k h)

        still : Hit D L Wa b Eb r l (Wa r l v) k
        still = (cc (x, h.0), cc (ka, h.1, wa-b r (W r l v 1).value))

        go : {y : Cell} → Reached D L Wa b Eb r l (Wa r l v) k y → y ≡ changed D W b r l k (Eb.change r (W r l v 1).value k) (W r l v k)
        go (emptied g _) = absurd (not-gone g)
        go (hit _ _ e) = cc (e, x, ka, changed-same k (W r l v k))
        go (cut _ n _ _) = absurd (n still)
        go (kept _ n _ _) = absurd (n still)

module _ (D : Description) (L : Laws D) (W : Tables) (F : Fine D W) (a b : ℕ) (Na Nb : Rows) (Ea Eb : Above)
    (Aa : Apt D W a Na Ea) (Ab : Apt D W b Nb Eb) (nab : over D a b ≡ true → ⊥) (nba : over D b a ≡ true → ⊥)
    (l : ℕ) (la : over D l a ≡ true) (lb : over D l b ≡ true) where
  pub commute-above : (r v k : ℕ)
      → reach D (carry D W a Na Ea W) b Eb r l (carry D W a Na Ea W r l v) k ≡ reach D (carry D W b Nb Eb W) a Ea r l (carry D W b Nb Eb W r l v) k
  commute-above r v k = go (gone? a Ea) (gone? b Eb)
    where
      gone? : (c : ℕ) (E : Above) → Gone D L W c E r l (W r l v) ⊎ (Gone D L W c E r l (W r l v) → ⊥)
      gone? c E = decide (gone-r D W c E l (W r l v 1).value L r)

      hit? : (c : ℕ) (E : Above) → Hit D L W c E r l (W r l v) k ⊎ (Hit D L W c E r l (W r l v) k → ⊥)
      hit? c E = decide (and_r (eqb-r (W r l v k).class c) (same-r (W r l v 1) (W r c (W r l v 1).value 1)))

      cut? : (c : ℕ) (E : Above) → Cut D L W c E r l (W r l v) k ⊎ (Cut D L W c E r l (W r l v) k → ⊥)
      cut? c E = decide (and_r (eqb-r k (foreign_of D r)) (gone-r D W c E l (W r l v k).value L (refers_of D r)))

      Same : Type 0
      Same = reach D (carry D W a Na Ea W) b Eb r l (carry D W a Na Ea W r l v) k ≡ reach D (carry D W b Nb Eb W) a Ea r l (carry D W b Nb Eb W r l v) k

      go : Gone D L W a Ea r l (W r l v) ⊎ (Gone D L W a Ea r l (W r l v) → ⊥) → Gone D L W b Eb r l (W r l v) ⊎ (Gone D L W b Eb r l (W r l v) → ⊥) → Same
      go (inl g) _ = gone-first D L W F a b Na Nb Ea Eb Aa Ab nab nba l la lb r v k g ∙ sym (gone-second D L W F b a Nb Na Eb Ea Ab Aa nba nab l lb la r v k g)
      go (inr _) (inl g) = gone-second D L W F a b Na Nb Ea Eb Aa Ab nab nba l la lb r v k g ∙ sym (gone-first D L W F b a Nb Na Eb Ea Ab Aa nba nab l lb la r v k g)
      go (inr ga) (inr gb) = by (hit? a Ea) (hit? b Eb) (cut? a Ea) (cut? b Eb)
        where
          by : Hit D L W a Ea r l (W r l v) k ⊎ (Hit D L W a Ea r l (W r l v) k → ⊥) → Hit D L W b Eb r l (W r l v) k ⊎ (Hit D L W b Eb r l (W r l v) k → ⊥)
              → Cut D L W a Ea r l (W r l v) k ⊎ (Cut D L W a Ea r l (W r l v) k → ⊥) → Cut D L W b Eb r l (W r l v) k ⊎ (Cut D L W b Eb r l (W r l v) k → ⊥) → Same
          by (inl h) _ _ _ = left-hit D L W F a b Na Nb Ea Eb Aa Ab nab nba l la lb r v ga gb k h ∙ sym (second-hit D L W F b a Nb Na Eb Ea Ab Aa nba nab l lb la r v gb ga k h)
          by (inr _) (inl h) _ _ = second-hit D L W F a b Na Nb Ea Eb Aa Ab nab nba l la lb r v ga gb k h ∙ sym (left-hit D L W F b a Nb Na Eb Ea Ab Aa nba nab l lb la r v gb ga k h)
          by (inr na) (inr nb) (inl t) _ = first-cut D L W F a b Na Nb Ea Eb Aa Ab nab nba l la lb r v ga gb k na t nb ∙ sym (second-cut D L W F b a Nb Na Eb Ea Ab Aa nba nab l lb la r v gb ga k nb na t)
          by (inr na) (inr nb) (inr _) (inl t) = second-cut D L W F a b Na Nb Ea Eb Aa Ab nab nba l la lb r v ga gb k na nb t ∙ sym (first-cut D L W F b a Nb Na Eb Ea Ab Aa nba nab l lb la r v gb ga k nb t na)
          by (inr na) (inr nb) (inr ta) (inr tb) = neither D L W F a b Na Nb Ea Eb Aa Ab nab nba l la lb r v ga gb k na ta nb tb ∙ sym (neither D L W F b a Nb Na Eb Ea Ab Aa nba nab l lb la r v gb ga k nb tb na ta)
