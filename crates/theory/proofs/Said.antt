-- A DELETE that is done leaves what 01's sentences say, cell for cell. That `reach` asks for c's change before the emptied reference makes no
-- difference: c's own reference never names a row that is emptied, or the statement would be refused.
-- Assumes nothing.
use Prim.Native.Nat.{ℕ, ◌<◌}
use mathlib.Core.Bool.{true}
use mathlib.Core.Logic.{◌≢◌, ◌⊎◌, inl, inr}
use mathlib.Core.Option.{none, some}
use mathlib.Core.Path.{◌≡◌, refl, sym, ap, ◌∙◌, subst}
use native.Mathlib.Omega.{arith}
use Rattle.bounded.specs.Tests.{Reflects}
use Rattle.bounded.proofs.Reflection.{if-cases, is_true, is_false, of-true, decide, bool-r, and_r, eqb-r}
use Rattle.model.specs.Ledger.{Ledger, Pages, cells_of, pages_of}
use Rattle.model.specs.Conditions.{met}
use Rattle.model.specs.Delete.{deleted}
use Rattle.model.specs.Description.{row_count, foreign_of, refers_of}
use Rattle.model.specs.Effect.{keep, only, Effect, changed, reach, carry, applied}
use Rattle.model.specs.Legal.{LegalPages}
use Rattle.model.specs.Run.{Request, subject, relation, further, effect_as, left, after}
use Rattle.model.specs.Tables.{Cell, cell, nocell, Row, State, Tables, rows_of, seen, at, lends}
use Rattle.model.specs.declared.Description.{Description}
use Rattle.model.specs.declared.What.TheVariants as Whats
use Rattle.model.proofs.Sound.{column-r}
use Rattle.theory.specs.Laws.{Laws}
use Rattle.theory.specs.Theorems.{Yes, tables, leaves, IsAbove, Deleted, OfDeleted, Emptied, NamesEmptied, Lent, DeleteSaid, DeleteAsSaid}
use Rattle.theory.proofs.Described.{sound-laws, range-r}
use Rattle.theory.proofs.Fine.{cell-path, same-r, Held, Fine, key_below, key-is, lends-yes, lends-no, value_of, class_of, nocell-value, nocell-class, no-level}
use Rattle.theory.proofs.Seek.{Sought, there, nowhere, sought, at-seek}
use Rattle.theory.proofs.Reach.{GoneAt, root, Hit, Cut, Reached, emptied, hit, cut, kept, reached, gone-empties, carry_own, carry-above, carry-aside, Side, at_c, over-c, off-c, side}
use Rattle.theory.proofs.Update.{met-used}
use Rattle.theory.proofs.Legality.{find, legal-tidy}
use Rattle.theory.proofs.Seen.{seen-own}
use Rattle.theory.proofs.Accepted.{delete-unnamed}
use Rattle.theory.proofs.State.{fault}
use Rattle.theory.proofs.Steps.{next, after-cells, further-passes, all-passed}
use Rattle.theory.proofs.Calls.{Judged, yes-says, done-says, step-done, leaves-pages}

module _ (d : Description) (L : Laws d) (b : Ledger) (q : Request) (y : Yes d b) (g : LegalPages d (pages_of d b)) (passes : fault d q (pages_of d b) ≡ none)
    (what : q.statement.what ≡ Whats.Delete) where
  abbrev c : ℕ
  c = subject q

  abbrev T : Tables
  T = rows_of (cells_of (pages_of d b))

  abbrev W : Tables
  W = at d T

  abbrev E : Effect
  E = deleted d c (relation q) q.conditions (cells_of (pages_of d b) c).rows

  abbrev Meets : Row → Type 0
  Meets R = met d q.conditions R ≡ true

  effect : effect_as d q q.statement.what (seen d c (cells_of (pages_of d b))) ≡ some (deleted d c (relation q) q.conditions (seen d c (cells_of (pages_of d b)) c).rows)
  unfolding effect_as
  effect = rw (what, effect_as)

  level : c < d.levels
  level = ((all-passed d L q (pages_of d b) (legal-tidy d L T g) passes).fits _ effect).apt.level

  unnamed : (s v k : ℕ) → refers_of d s ≡ relation q → k ≡ foreign_of d s → (W s c v k).value ≢ 0 → Meets (W (relation q) c (W s c v k).value) → ⊥
  unfolding further
  unnamed = delete-unnamed d L (cells_of (pages_of d b)) (legal-tidy d L T g) c (relation q) q.conditions
      level (rw (what, further) at (further-passes d q (pages_of d b) passes))

  -- ---- what DELETE says of the rows above

  gone-r : (s v : ℕ) → Reflects ((s ≡ relation q) × (Meets (W s c v) × ((W s c v 1).class ≡ c))) (E.above.gone s v)
  unfolding deleted at
  gone-r s v = and_r (eqb-r s (relation q)) (and_r (bool-r (met d q.conditions (W s c v))) (eqb-r (W s c v 1).class c))

  -- a cell of class c is changed where its entity's row at c meets the conditions
  data Change? (s v k : ℕ) : Type 0 where
    nulled : s ≡ relation q → Meets (W s c v) → E.above.change s v k ≡ only nocell → Change? s v k
    spared : ((s ≡ relation q) × Meets (W s c v) → ⊥) → E.above.change s v k ≡ keep → Change? s v k

  change? : (s v k : ℕ) → Change? s v k
  unfolding deleted at
  change? s v k = go (decide (and_r (eqb-r s (relation q)) (bool-r (met d q.conditions (W s c v)))))
    where
      go : ((s ≡ relation q) × Meets (W s c v)) ⊎ ((s ≡ relation q) × Meets (W s c v) → ⊥) → Change? s v k
      go (inl h) = nulled h.0 h.1 (rw (is_true (and_r (eqb-r s (relation q)) (bool-r (met d q.conditions (W s c v)))) h))
      go (inr n) = spared n (rw (is_false (and_r (eqb-r s (relation q)) (bool-r (met d q.conditions (W s c v)))) n))

  -- a cell of class c that is changed becomes null, class kept
  null-changed : (r l k : ℕ) (x : Cell) → x.class ≡ c → changed d W c r l k (only nocell) x ≡ cell 0 x.class
  unfolding changed
  null-changed r l k x e =
      if-cases (λ (y : Cell). y ≡ cell 0 x.class) (same-r x nocell) (λ z. absurd (no-level L (sym e ∙ nocell-class z) level)) (λ _. refl)

  same-changed : (r l k : ℕ) (x : Cell) → changed d W c r l k keep x ≡ x
  unfolding changed
  same-changed r l k x = refl

  -- ---- rows by place and by key

  F : Fine d W
  F = (legal-tidy d L T g).fine

  -- the row that a key finds
  the_row : (r l v : ℕ) → W r l v 1 ≢ nocell → (j : ℕ) × ((T r l j 1).value ≡ v) × (W r l v ≡ T r l j)
  the_row r l v n = go (sought (row_count d r) (T r l) v) (at-seek d T r l v)
    where
      go : {R : Row} → Sought (row_count d r) (T r l) v R → W r l v ≡ R → (j : ℕ) × ((T r l j 1).value ≡ v) × (W r l v ≡ T r l j)
      go (there j _ e x) p = (j, e, p ∙ x)
      go (nowhere _ x) p = absurd (n (ap (λ (R : Row). R 1) (p ∙ x)))

  -- a row that meets the conditions has the key that it is found by
  met-key : (r v : ℕ) → Meets (W r c v) → ((W r c v 1).value ≡ v) × (v ≢ 0)
  met-key r v m = key-is F r c v (met-used d q.conditions (W r c v) m)

  abbrev key_of : ℕ → ℕ → ℕ → ℕ
  key_of r l i = (T r l i 1).value

  -- a row above c of the entity of a row that meets the conditions
  record Of (r l i : ℕ) : Type 0 where
    within : r ≡ relation q
    some : key_of r l i ≢ 0
    meets : Meets (W r c (key_of r l i))
    entity : T r l i 1 ≡ W r c (key_of r l i) 1

  of : (r l i : ℕ) → OfDeleted d b q r l i → Of r l i
  of r l i o = record { within = o.deleted.within; some = key; meets = rw found o.deleted.meets; entity = rw found o.entity }
    where
      key : key_of r l i ≢ 0
      key z = met-used d q.conditions (T r c o.row) o.deleted.meets (value_of (sym o.entity) ∙ z)

      found : W r c (key_of r l i) ≡ T r c o.row
      found = find d L T g r c o.row (key_of r l i) (value_of (sym o.entity)) key

  to : (r l i : ℕ) → IsAbove d l c → r ≡ relation q → Meets (W r c (key_of r l i)) → T r l i 1 ≡ W r c (key_of r l i) 1 → OfDeleted d b q r l i
  to r l i above w m e = record { above = above; row = j.0; deleted = record { within = w; level = refl; meets = rw (← j.2) m }; entity = e ∙ ap (λ (R : Row). R 1) j.2 }
    where
      j : (j : ℕ) × ((T r c j 1).value ≡ key_of r l i) × (W r c (key_of r l i) ≡ T r c j)
      j = the_row r c (key_of r l i) (λ z. met-used d q.conditions (W r c (key_of r l i)) m (nocell-value z))

  -- the key class of a row, which its key finds
  key-class : (r l i : ℕ) → key_of r l i ≢ 0 → (W r l (key_of r l i) 1).class ≡ (T r l i 1).class
  key-class r l i n = class_of (ap (λ (R : Row). R 1) (find d L T g r l i (key_of r l i) refl n))

  -- ---- a row that is emptied

  gone_of : (r l i : ℕ) → Emptied d b q r l i → GoneAt d W c E.above l (key_of r l i) r
  gone_of r l i e =
      let o : Of r l i = of r l i e.of in
      root (is_true (gone-r r (key_of r l i)) (o.within, (o.meets, class_of (sym o.entity) ∙ e.key))) (key-class r l i o.some ∙ e.key)

  emptied-of : (r l i : ℕ) → IsAbove d l c → GoneAt d W c E.above l (key_of r l i) r → Emptied d b q r l i
  emptied-of r l i above (root h e) = record { of = to r l i above m.0 m.1.0 (cell-path (sym k.0) (key ∙ sym m.1.1)); key = key }
    where
      m : (r ≡ relation q) × (Meets (W r c (key_of r l i)) × ((W r c (key_of r l i) 1).class ≡ c))
      m = of-true (gone-r r (key_of r l i)) h

      k : ((W r c (key_of r l i) 1).value ≡ key_of r l i) × (key_of r l i ≢ 0)
      k = met-key r (key_of r l i) m.1.0

      key : (T r l i 1).class ≡ c
      key = sym (key-class r l i k.1) ∙ e

  -- ---- the sentences, of a row above c

  module _ (r l i k : ℕ) (above : IsAbove d l c) where
    abbrev R : Row
    R = T r l i

    abbrev new : Cell
    new = reach d W c E.above r l R k

    -- a reference of class c, in a row of an entity that c has, is c's own
    own-reference : (R k).value ≢ 0 → Hit d L W c E.above r l R k → W r c (R 1).value k ≡ R k
    own-reference n h = go (F.cells r l (R 1).value k)
      where
        found : W r l (R 1).value ≡ R
        found = find d L T g r l i (R 1).value refl (g.entity-key r l i k (λ z. n (nocell-value z))).0

        go : (W r l (R 1).value k ≡ nocell) ⊎ Held d W r l (R 1).value k → W r c (R 1).value k ≡ R k
        go (inl z) = absurd (n (nocell-value {x = R k} (cc (found, z))))
        go (inr x) = by (decide (eqb-r (W r c (R 1).value k).class c))
          where
            lent : R k ≡ lends (W r c (R 1).value) (R 1) k c
            lent = cc (x.owned, found, h.0)

            by : ((W r c (R 1).value k).class ≡ c) ⊎ ((W r c (R 1).value k).class ≢ c) → W r c (R 1).value k ≡ R k
            by (inl e) = sym (lent ∙ lends-yes (W r c (R 1).value) (R 1) k c (sym h.1) e)
            by (inr m) = absurd (n (value_of (lent ∙ lends-no (W r c (R 1).value) (R 1) k c (λ _ e. m e))))

    references-null : NamesEmptied d b q r l i k → new ≡ cell 0 (R k).class
    references-null s = go (reached d L W c E.above r l R k)
      where
        o : Of (refers_of d r) l s.row
        o = of (refers_of d r) l s.row s.emptied.of

        gone : GoneAt d W c E.above l (R k).value (refers_of d r)
        gone = subst (λ (v : ℕ). GoneAt d W c E.above l v (refers_of d r)) s.names (gone_of (refers_of d r) l s.row s.emptied)

        some : (R k).value ≢ 0
        some z = o.some (s.names ∙ z)

        -- a relation does not refer to itself
        other : r ≢ relation q
        other e = omega (arith, e, o.within, L.lower r foreign)
          where
            column : 0 < k
            column = (of-true (column-r d r k) (of-true (range-r d r k (R k).class) (g.form-value r l i k some)).0).0

            foreign : foreign_of d r ≢ 0
            foreign z = omega (arith, column, s.reference, z)

        go : {x : Cell} → Reached d L W c E.above r l R k x → x ≡ cell 0 (R k).class
        go (emptied (root h _) _) = absurd (other (of-true (gone-r r (R 1).value) h).0)
        go (hit _ h _) = absurd (unnamed r (R 1).value k o.within s.reference (λ z. some (sym (value_of own) ∙ z)) (cc (o.meets, o.within, s.names, own)))
          where
            own : W r c (R 1).value k ≡ R k
            own = own-reference some h
        go (cut _ _ _ e) = e
        go (kept _ _ n _) = absurd (n (s.reference, gone))

    lent-null : Lent d b q r l i k → new ≡ cell 0 (R k).class
    lent-null s = go (reached d L W c E.above r l R k)
      where
        o : Of r l i
        o = of r l i s.of

        go : {x : Cell} → Reached d L W c E.above r l R k x → x ≡ cell 0 (R k).class
        go (emptied (root _ e) _) = absurd (s.key.other (sym e ∙ key-class r l i o.some))
        go {x} (hit _ _ e) = by (change? r (R 1).value k)
          where
            by : Change? r (R 1).value k → x ≡ cell 0 (R k).class
            by (nulled _ _ z) = e ∙ rw z (null-changed r l k (R k) s.class)
            by (spared n _) = absurd (n (o.within, o.meets))
        go (cut _ _ _ e) = e
        go (kept _ n _ _) = absurd (n (s.class, o.entity))

    stays-above : (Emptied d b q r l i → ⊥) → (NamesEmptied d b q r l i k → ⊥) → (Lent d b q r l i k → ⊥) → new ≡ R k
    stays-above none-emptied none_named none_lent = go (reached d L W c E.above r l R k)
      where
        names : Cut d L W c E.above r l R k → NamesEmptied d b q r l i k
        names (f, root h e) = record { reference = f; row = j.0; names = j.1; emptied = emptied-of (refers_of d r) l j.0 above (rw j.1 (root h e)) }
          where
            j : (j : ℕ) × ((T (refers_of d r) l j 1).value ≡ (R k).value) × (W (refers_of d r) l (R k).value ≡ T (refers_of d r) l j)
            j = the_row (refers_of d r) l (R k).value (λ z. no-level L (sym e ∙ nocell-class z) level)

        go : {x : Cell} → Reached d L W c E.above r l R k x → x ≡ R k
        go (emptied h _) = absurd (none-emptied (emptied-of r l i above h))
        go {x} (hit ng h e) = by (change? r (R 1).value k)
          where
            by : Change? r (R 1).value k → x ≡ R k
            by (spared _ z) = e ∙ rw z (same-changed r l k (R k))
            by (nulled w m _) = absurd (if-own (decide (eqb-r (R 1).class c)))
              where
                if-own : ((R 1).class ≡ c) ⊎ ((R 1).class ≢ c) → ⊥
                if-own (inl p) =
                    ng (root (is_true (gone-r r (R 1).value) (w, (m, class_of (sym h.1) ∙ p))) (key-class r l i (met-key r (R 1).value m).1 ∙ p))
                if-own (inr n) =
                    none_lent (record {
                      of = to r l i above w m h.1;
                      key = record { dominates = rw h.1 (key_below F r c (R 1).value (met-used d q.conditions (W r c (R 1).value) m)); other = λ z. n (sym z) };
                      class = h.0;
                    })
        go (cut _ _ t _) = absurd (none_named (names t))
        go (kept _ _ _ e) = e

  -- ---- the tables after it

  next-is : (r l i : ℕ) → rows_of (next d q (cells_of (pages_of d b)) (cells_of (pages_of d b))) r l i ≡ carry d W c E.own E.above T r l i
  unfolding left applied
  next-is r l i = rw (effect, left, seen-own d (cells_of (pages_of d b)) c (L.reflexive c level))

  after_is : (r l i : ℕ) → tables d (leaves d q b) r l i ≡ carry d W c E.own E.above T r l i
  after_is r l i =
      ap (λ (N : Pages). rows_of (cells_of N) r l i) (leaves-pages d b q y ∙ step-done d q (pages_of d b) passes)
      ∙ ap (λ (N : State). rows_of N r l i) (after-cells d q (pages_of d b))
      ∙ next-is r l i

  after-above : (r l i k : ℕ) → IsAbove d l c → tables d (leaves d q b) r l i k ≡ reach d W c E.above r l (T r l i) k
  after-above r l i k a = ap (λ (R : Row). R k) (after_is r l i ∙ carry-above d W c E.own E.above T r l i a.other a.dominates)

  said : DeleteSaid d b q
  unfolding deleted
  said = record {
    deleted = λ r l i k s. row r l i k s;
    emptied = λ r l i k s. after-above r l i k s.of.above ∙ gone-empties d L W c E.above r l (T r l i) (gone_of r l i s) k;
    references = λ r l i k s. after-above r l i k s.emptied.of.above ∙ references-null r l i k s.emptied.of.above s;
    lent = λ r l i k s. after-above r l i k s.of.above ∙ lent-null r l i k s.of.above s;
    stays = λ r l i k nd ne nn nl. stays r l i k nd ne nn nl (side d c l);
  }
    where
      at_own : (r l i : ℕ) → l ≡ c → tables d (leaves d q b) r l i ≡ E.own r i
      at_own r l i e = after_is r l i ∙ rw e (carry_own d W c E.own E.above T r i)

      row : (r l i k : ℕ) → Deleted d b q r l i → tables d (leaves d q b) r l i k ≡ nocell
      row r l i k s =
          ap (λ (R : Row). R k) (at_own r l i s.level)
          ∙ rw (is_true (and_r (eqb-r r (relation q)) (bool-r (met d q.conditions (T r c i)))) (s.within, rw s.level at s.meets))

      stays : (r l i k : ℕ) → (Deleted d b q r l i → ⊥) → (Emptied d b q r l i → ⊥) → (NamesEmptied d b q r l i k → ⊥) → (Lent d b q r l i k → ⊥)
          → Side d c l → tables d (leaves d q b) r l i k ≡ T r l i k
      stays r l i k nd _ _ _ (at_c e) =
          ap (λ (R : Row). R k) (at_own r l i e)
          ∙ rw (e, is_false (and_r (eqb-r r (relation q)) (bool-r (met d q.conditions (T r c i)))) (λ h. nd (record { within = h.0; level = e; meets = rw e h.1 })))
      stays r l i k _ ne nn nl (over-c n o) =
          let a : IsAbove d l c = record { dominates = o; other = n } in
          after-above r l i k a ∙ stays-above r l i k a ne nn nl
      stays r l i k _ _ _ _ (off-c n o) = ap (λ (R : Row). R k) (after_is r l i ∙ carry-aside d W c E.own E.above T r l i n o)

pub delete-as-said : DeleteAsSaid
delete-as-said d b q count what h =
    let y : Yes d b × (fault d q (pages_of d b) ≡ none) = done-says d b q h in
    let j : Judged d b = yes-says d b y.0 in
    said d (sound-laws d j.sound) b q y.0 j.legal y.1 what
