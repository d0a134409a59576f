-- A statement that is not refused has an effect that fits legal tables.
-- Assumes nothing.
use Prim.Native.Nat.{ℕ, suc, ◌<◌, suc-le-suc}
use mathlib.Core.Bool.{Bool, true, false, not, ◌&&◌, ◌||◌, true≢false}
use mathlib.Core.List.{List}
use mathlib.Core.Logic.{◌≢◌, ◌⊎◌, inl, inr}
use mathlib.Core.Option.{Option, none, some}
use mathlib.Core.Path.{◌≡◌, refl, sym, ap, ◌∙◌, subst, fun_ext}
use native.Mathlib.Omega.{arith}
use lib.Dec.{eqb}
use borrow.Author.Tests.{not-true}
use Rattle.bounded.specs.Bounded.{any_below}
use Rattle.bounded.specs.Tests.{Reflects}
use Rattle.bounded.proofs.Any.{any_none, Any, some-does, none-does, any-cases}
use Rattle.bounded.proofs.Cases.{and_left, and_right}
use Rattle.bounded.proofs.Reflection.{is_true, of-true, bool-r, not-r, and_r, or_r, eqb-r, ltb-r}
use Rattle.model.specs.Conditions.{met}
use Rattle.model.specs.Delete.{referred, delete_tests, deleted}
use Rattle.model.specs.Description.{is_level, over, row_count, foreign_of, refers_of, is_column, in_range}
use Rattle.model.specs.Effect.{Rows, Effect, agrees, lowest_empty, has_room, names_row}
use Rattle.model.specs.Insert.{key_listed, insert_formed, listed_names, insert_tests, inserted}
use Rattle.model.specs.Listed.{whole, each, listed, lists, columns_once}
use Rattle.model.specs.Numbers.{fault_number}
use Rattle.model.specs.Run.{Request, subject, relation, formed_as, further, first_fault, effect_as}
use Rattle.model.specs.Tables.{Cell, cell, Row, used, State, Tables, rows_of, seen, at, lends}
use Rattle.model.specs.Update.{update_formed, any_met, update_tests, updated}
use Rattle.model.specs.Uplevel.{uplevel_formed, based, entity_of, borrowed_names, uplevel_tests, borrowed, raised, uplevelled}
use Rattle.model.specs.declared.Description.{Description}
use Rattle.model.specs.declared.What.{What}
use Rattle.theory.specs.Laws.{Laws}
use Rattle.theory.proofs.Described.{row-relation}
use Rattle.model.proofs.Sound.{relation-r}
use Rattle.theory.proofs.Fine.{same-r, Absent, Keyed, key-is}
use Rattle.theory.proofs.Seek.{Sought, there, nowhere, sought, at-seek}
use Rattle.theory.proofs.Lift.{Tidy, Fits}
use Rattle.theory.proofs.Tests.{test_under, pass}
use Rattle.theory.proofs.Listed.{each-listed, not_listed, key-listed}
use Rattle.theory.proofs.Update.{met-used}
use Rattle.theory.proofs.Fits.{update-fits, delete-fits, insert-fits, uplevel-fits}
use Rattle.theory.proofs.Seen.{seen-row, seen_at, seen-own}
use Rattle.model.specs.declared.What.TheVariants as Whats

-- ---- what a statement's tests say

is-based : (D : Description) (c r v : ℕ) (S : Tables) (a : ℕ) → based D c r v S a ≡ true → (over D c a ≡ true) × (at D S r a v 1 ≡ cell v a)
unfolding based
is-based D c r v S a h = of-true (and_r (bool-r (over D c a)) (same-r (at D S r a v 1) (cell v a))) h

borrowed-names : (D : Description) (c r : ℕ) (e : Cell) (s : List ℕ) (S : Tables) (a : ℕ) → borrowed_names D c r e s S ≡ true → listed s (foreign_of D r) ≡ some a
    → names_row D c r S (lends (at D S r a e.value) e (foreign_of D r) a).value ≡ true
unfolding borrowed_names
borrowed-names D c r e s S a h q = rw (q, borrowed_names) at h

has_room_lem : (D : Description) (B : Rows) (r : ℕ) → Reflects (lowest_empty D B r < row_count D r) (has_room D B r)
unfolding has_room
has_room_lem D B r = ltb-r (lowest_empty D B r) (row_count D r)

-- ---- the key of a statement that is formed

pub update-key : (D : Description) (r : ℕ) (s : List ℕ) → update_formed D r s ≡ true → listed s 1 ≡ none
unfolding update_formed
update-key D r s g = not_listed s 1 (not-true (lists s 1) (and_left (not (lists s 1)) _ (and_right (columns_once s) _ (and_right (each (λ k v. is_column D r k) s) _ (and_right (whole 2 s) _ g)))))

pub uplevel-key : (D : Description) (r v kc : ℕ) (s : List ℕ) → uplevel_formed D r v kc s ≡ true → (v ≢ 0) × (listed s 1 ≡ none)
unfolding uplevel_formed
uplevel-key D r v kc s g = (of-true (not-r (eqb-r v 0)) (and_left (not (eqb v 0)) _ (and_right (not (lists s 1)) _ rest)), not_listed s 1 (not-true (lists s 1) (and_left (not (lists s 1)) _ rest)))
  where
    rest : (not (lists s 1) && (not (eqb v 0) && (eqb kc 255 || is_level D kc))) ≡ true
    rest = and_right (columns_once s) _ (and_right (each (λ k a. is_column D r k && is_level D a) s) _ (and_right (whole 2 s) _ g))

-- ---- a relation's references

module _ (D : Description) (L : Laws D) (G : State) (t : Tidy D (rows_of G)) (c r : ℕ) (level : c < D.levels) where
  abbrev T : Tables
  T = rows_of G

  self : over D c c ≡ true
  self = L.reflexive c level

  keyed : (r v : ℕ) → used (at D (rows_of (seen D c G)) r c v) ≡ true → Keyed (at D T r c v) v
  unfolding used
  keyed r v h = key-is t.fine r c v (λ z. of-true (not-r (eqb-r (at D (rows_of (seen D c G)) r c v 1).value 0)) h (cc (seen_at D G c r c v self, z)))

  unused : (v : ℕ) → (used (at D (rows_of (seen D c G)) r c v) ≡ true → ⊥) → Absent (at D T r c v)
  unfolding used
  unused v n = go (t.fine.keyed r c v)
    where
      go : Absent (at D T r c v) ⊎ Keyed (at D T r c v) v → Absent (at D T r c v)
      go (inl a) = a
      go (inr k) = absurd (n (is_true (not-r (eqb-r (at D (rows_of (seen D c G)) r c v 1).value 0)) (λ z. k.1 (cc (k.0, z, seen_at D G c r c v self)))))

  names-row : (x : ℕ) → names_row D c r (rows_of (seen D c G)) x ≡ true → x ≢ 0 → Keyed (at D T (refers_of D r) c x) x
  unfolding names_row
  names-row x h n = go (of-true (or_r (eqb-r x 0) (bool-r (used (at D (rows_of (seen D c G)) (refers_of D r) c x)))) h)
    where
      go : (x ≡ 0) ⊎ (used (at D (rows_of (seen D c G)) (refers_of D r) c x) ≡ true) → Keyed (at D T (refers_of D r) c x) x
      go (inl z) = absurd (n z)
      go (inr u) = keyed (refers_of D r) x u

  listed-names : (s : List ℕ) (x : ℕ) → listed_names D c r s (rows_of (seen D c G)) ≡ true → listed s (foreign_of D r) ≡ some x → x ≢ 0 → Keyed (at D T (refers_of D r) c x) x
  unfolding listed_names
  listed-names s x h q n = names-row x (rw (q, listed_names) at h) n

  -- a row found by its key that meets the conditions is a row at c
  any_met_lem : (q : List ℕ) (v : ℕ) → met D q (at D T r c v) ≡ true → any_met D c r q (rows_of (seen D c G)) ≡ true
  unfolding any_met
  any_met_lem q v m = go (sought (row_count D r) (T r c) v) (at-seek D T r c v) (any-cases (row_count D r) (λ i. met D q (rows_of (seen D c G) r c i)))
    where
      go : {R : Row} → Sought (row_count D r) (T r c) v R → at D T r c v ≡ R → Any (row_count D r) (λ i. met D q (rows_of (seen D c G) r c i)) (any_below (row_count D r) (λ i. met D q (rows_of (seen D c G) r c i)))
          → any_below (row_count D r) (λ i. met D q (rows_of (seen D c G) r c i)) ≡ true
      go _ _ (some-does e _ _ _) = e
      go (nowhere _ x) p (none-does _ _) = absurd (met-used D q (at D T r c v) m (rw (p ∙ x)))
      go (there i h _ x) p (none-does _ f) = absurd (true≢false (sym m ∙ cc (p, x, f i h, seen-row D G c r c self)))

module _ (D : Description) (L : Laws D) (G : State) (t : Tidy D (rows_of G)) where
  abbrev T₁ : Tables
  T₁ = rows_of G

  update-ok : (c r : ℕ) (s q : List ℕ) → c < D.levels → update_formed D r s ≡ true → first_fault (update_tests D c r s q (seen D c G)) ≡ none
      → Fits D T₁ c (updated D c r s q (seen D c G c).rows)
  unfolding update_tests fault_number
  update-ok c r s q level g e = rw (seen-own D G c (L.reflexive c level)) (update-fits D L T₁ c r s q t level (update-key D r s g) ranged names)
    where
      p : (n : ℕ) → test_under n (update_tests D c r s q (seen D c G)) ≡ true
      p = pass (update_tests D c r s q (seen D c G)) e

      ranged : (k x : ℕ) → listed s k ≡ some x → in_range D r k c ≡ true
      ranged k x h = each-listed (λ k v. in_range D r k c) s k x (p 6) h

      names : (v x : ℕ) → met D q (at D T₁ r c v) ≡ true → listed s (foreign_of D r) ≡ some x → x ≢ 0 → Keyed (at D T₁ (refers_of D r) c x) x
      names v x m h n = go (of-true (or_r (not-r (bool-r (any_met D c r q (rows_of (seen D c G))))) (bool-r (listed_names D c r s (rows_of (seen D c G))))) (p 11))
        where
          go : ((any_met D c r q (rows_of (seen D c G)) ≡ true) → ⊥) ⊎ (listed_names D c r s (rows_of (seen D c G)) ≡ true) → Keyed (at D T₁ (refers_of D r) c x) x
          go (inl z) = absurd (z (any_met_lem D L G t c r level q v m))
          go (inr z) = listed-names D L G t c r level s x z h n

  -- no row at c refers to a row that meets the conditions
  pub delete-unnamed : (c r : ℕ) (q : List ℕ) → c < D.levels → first_fault (delete_tests D c r q (seen D c G)) ≡ none
      → (s v k : ℕ) → refers_of D s ≡ r → k ≡ foreign_of D s → (at D T₁ s c v k).value ≢ 0 → met D q (at D T₁ r c (at D T₁ s c v k).value) ≡ true → ⊥
  unfolding delete_tests fault_number referred
  delete-unnamed c r q level e s v k a f n m = by (sought (row_count D s) (T₁ s c) v) (at-seek D T₁ s c v)
    where
      S : Tables
      S = rows_of (seen D c G)

      refers_to : ℕ → ℕ → Bool
      refers_to s i = eqb (refers_of D s) r && (not (eqb (S s c i (foreign_of D s)).value 0) && met D q (at D S r c (S s c i (foreign_of D s)).value))

      none-refers : (s i : ℕ) → s < suc D.relations → i < row_count D s → refers_to s i ≡ false
      none-refers s i h h' =
          any_none (row_count D s) (refers_to s)
          (any_none (suc D.relations) (λ s. any_below (row_count D s) (refers_to s)) (not-true (referred D c r q S) (pass (delete_tests D c r q (seen D c G)) e 12)) s h) i h'

      by : {R : Row} → Sought (row_count D s) (T₁ s c) v R → at D T₁ s c v ≡ R → ⊥
      by (nowhere _ x) y = n (rw (y ∙ x))
      by (there i b _ x) y = true≢false (sym yes ∙ none-refers s i (suc-le-suc (of-true (relation-r D s) (row-relation D s i b)).1) b)
        where
          w : (S s c i (foreign_of D s)).value ≡ (at D T₁ s c v k).value
          w = cc (seen-row D G c s c (L.reflexive c level), y, x, f)

          yes : refers_to s i ≡ true
          yes =
              is_true (and_r (eqb-r (refers_of D s) r) (and_r (not-r (eqb-r (S s c i (foreign_of D s)).value 0)) (bool-r (met D q (at D S r c (S s c i (foreign_of D s)).value)))))
              (a, ((λ z. n (sym w ∙ z)), cc (m, w, seen_at D G c r c (at D T₁ s c v k).value (L.reflexive c level))))

  delete-ok : (c r : ℕ) (q : List ℕ) → c < D.levels → first_fault (delete_tests D c r q (seen D c G)) ≡ none → Fits D T₁ c (deleted D c r q (seen D c G c).rows)
  delete-ok c r q level e = rw (seen-own D G c (L.reflexive c level)) (delete-fits D L T₁ c r q t level (delete-unnamed c r q level e))

  insert-ok : (c r : ℕ) (s : List ℕ) → c < D.levels → insert_formed D r s ≡ true → first_fault (insert_tests D c r s (seen D c G)) ≡ none
      → Fits D T₁ c (inserted D c r s (seen D c G c).rows)
  unfolding insert_formed insert_tests fault_number
  insert-ok c r s level g e = rw (seen-own D G c self') (insert-fits D L T₁ c r (key_listed s) s t level some_key (key-listed s some_key) ranged free names room)
    where
      self' : over D c c ≡ true
      self' = L.reflexive c level

      p : (n : ℕ) → test_under n (insert_tests D c r s (seen D c G)) ≡ true
      p = pass (insert_tests D c r s (seen D c G)) e

      some_key : key_listed s ≢ 0
      some_key = of-true (not-r (eqb-r (key_listed s) 0)) (and_right (columns_once s) _ (and_right (each (λ k v. is_column D r k) s) _ (and_right (whole 2 s) _ g)))

      ranged : (k x : ℕ) → listed s k ≡ some x → in_range D r k c ≡ true
      ranged k x h = each-listed (λ k v. in_range D r k c) s k x (p 6) h

      free : Absent (at D T₁ r c (key_listed s))
      free = unused D L G t c r level (key_listed s) (of-true (not-r (bool-r (used (at D (rows_of (seen D c G)) r c (key_listed s))))) (p 9))

      names : (x : ℕ) → listed s (foreign_of D r) ≡ some x → x ≢ 0 → Keyed (at D T₁ (refers_of D r) c x) x
      names x h n = listed-names D L G t c r level s x (p 11) h n

      room : lowest_empty D (G c).rows r < row_count D r
      room = of-true (has_room_lem D (G c).rows r) (rw (seen-own D G c self') at (p 13))

  -- what UPLEVEL raises of what it sees is what is there
  raised-seen : (c r : ℕ) (e : Cell) (s : List ℕ) → c < D.levels → ((k a : ℕ) → listed s k ≡ some a → over D c a ≡ true)
      → raised D (at D (rows_of (seen D c G))) c r e s ≡ raised D (at D T₁) c r e s
  unfolding raised borrowed agrees
  raised-seen c r e s level sees = fun_ext (λ k. go k (listed s k) refl)
    where
      go : (k : ℕ) (o : Option ℕ) → listed s k ≡ o → raised D (at D (rows_of (seen D c G))) c r e s k ≡ raised D (at D T₁) c r e s k
      go k none q = rw (q, raised)
      go k (some a) q =
          rw (q, raised, seen_at D G c r a e.value (sees k a q))
          (rw (seen_at D G c (refers_of D r) c x (L.reflexive c level), seen_at D G c (refers_of D r) a x (sees k a q)))
        where
          x : ℕ
          x = (lends (at D T₁ r a e.value) e k a).value

  uplevel-ok : (c r v kc : ℕ) (s : List ℕ) → c < D.levels → uplevel_formed D r v kc s ≡ true → first_fault (uplevel_tests D c r v kc s (seen D c G)) ≡ none
      → Fits D T₁ c (uplevelled D c r (entity_of D c r v kc (rows_of (seen D c G))) s (rows_of (seen D c G)))
  unfolding uplevel_tests fault_number entity_of uplevelled
  uplevel-ok c r v kc s level g h =
      rw (raised-seen c r e s level sees, seen-own D G c self')
      (uplevel-fits D L T₁ c r e s t level (uplevel-key D r v kc s g).0 base bas.0 (uplevel-key D r v kc s g).1 ranged free names room)
    where
      S : Tables
      S = rows_of (seen D c G)

      e : Cell
      e = entity_of D c r v kc S

      p : (n : ℕ) → test_under n (uplevel_tests D c r v kc s (seen D c G)) ≡ true
      p = pass (uplevel_tests D c r v kc s (seen D c G)) h

      self' : over D c c ≡ true
      self' = L.reflexive c level

      bas : (over D c e.class ≡ true) × (at D S r e.class v 1 ≡ e)
      bas = is-based D c r v S e.class (p 7)

      base : at D T₁ r e.class v 1 ≡ e
      base = sym (ap (λ (R : Row). R 1) (seen_at D G c r e.class v bas.0)) ∙ bas.1

      sees : (k a : ℕ) → listed s k ≡ some a → over D c a ≡ true
      sees k a q = each-listed (λ k a. over D c a) s k a (and_right (eqb kc 255 || over D c kc) _ (p 5)) q

      ranged : (k a : ℕ) → listed s k ≡ some a → (in_range D r k a ≡ true) × (over D c a ≡ true) × (over D a e.class ≡ true)
      ranged k a q = (each-listed (λ k a. in_range D r k a) s k a (p 6) q, sees k a q, each-listed (λ k a. over D a e.class) s k a (p 10) q)

      at_c : at D S r c v ≡ at D T₁ r c v
      at_c = seen_at D G c r c v self'

      free : Absent (at D T₁ r c v) ⊎ (at D T₁ r c v 1 ≡ e)
      free = go (of-true (or_r (not-r (bool-r (used (at D S r c v)))) (same-r (at D S r c v 1) e)) (p 9))
        where
          go : (used (at D S r c v) ≡ true → ⊥) ⊎ (at D S r c v 1 ≡ e) → Absent (at D T₁ r c v) ⊎ (at D T₁ r c v 1 ≡ e)
          go (inl n) = inl (unused D L G t c r level v n)
          go (inr q) = inr (sym (ap (λ (R : Row). R 1) at_c) ∙ q)

      names : (a x : ℕ) → listed s (foreign_of D r) ≡ some a → (lends (at D T₁ r a v) e (foreign_of D r) a).value ≡ x → x ≢ 0 → Keyed (at D T₁ (refers_of D r) c x) x
      names a x q f n = names-row D L G t c r level x (go (borrowed-names D c r e s S a (p 11) q)) n
        where
          go : names_row D c r S (lends (at D S r a v) e (foreign_of D r) a).value ≡ true → names_row D c r S x ≡ true
          go y = cc (y, f, seen_at D G c r a v (sees (foreign_of D r) a q))

      room : (at D T₁ r c v 1 ≡ e) ⊎ (lowest_empty D (G c).rows r < row_count D r)
      room = go (of-true (or_r (same-r (at D S r c v 1) e) (has_room_lem D (seen D c G c).rows r)) (p 13))
        where
          go : (at D S r c v 1 ≡ e) ⊎ (lowest_empty D (seen D c G c).rows r < row_count D r) → (at D T₁ r c v 1 ≡ e) ⊎ (lowest_empty D (G c).rows r < row_count D r)
          go (inl q) = inl (sym (ap (λ (R : Row). R 1) at_c) ∙ q)
          go (inr q) = inr (subst (λ (B : Rows). lowest_empty D B r < row_count D r) (seen-own D G c self') q)

  -- every statement that writes and is not refused
  pub accepted : (q : Request) (w : What) (E : Effect) → subject q < D.levels → formed_as D (relation q) w q.list q.conditions ≡ true
      → first_fault (further D q w (seen D (subject q) G)) ≡ none → effect_as D q w (seen D (subject q) G) ≡ some E → Fits D T₁ (subject q) E
  unfolding formed_as further effect_as
  accepted q w E level g e i = go w g e i
    where
      is : {E₁ : Effect} → some E₁ ≡ some E → Fits D T₁ (subject q) E₁ → Fits D T₁ (subject q) E
      is i f = subst (Fits D T₁ (subject q)) (cc) f

      go : (w : What) → formed_as D (relation q) w q.list q.conditions ≡ true → first_fault (further D q w (seen D (subject q) G)) ≡ none
          → effect_as D q w (seen D (subject q) G) ≡ some E → Fits D T₁ (subject q) E
      go Whats.Insert g e i = is i (insert-ok (subject q) (relation q) q.list level (and_left _ _ g) e)
      go Whats.Delete g e i = is i (delete-ok (subject q) (relation q) q.conditions level e)
      go Whats.Update g e i = is i (update-ok (subject q) (relation q) q.list q.conditions level (and_left _ _ g) e)
      go (Whats.Uplevel key class) g e i = is i (uplevel-ok (subject q) (relation q) key class q.list level (and_left _ _ g) e)
      go Whats.Select g e i = let z : ◌≡◌ {A = ℕ} 0 1 = cc in absurd (omega (arith, z))
