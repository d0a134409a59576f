-- The effects of INSERT, DELETE, UPDATE and UPLEVEL fit legal tables.
-- Assumes nothing.
use Rattle.std.specs.Prelude.{if◌then◌else◌}
use Prim.Native.Nat.{ℕ, suc, ◌<◌, ◌≤◌}
use mathlib.Core.Bool.{Bool, true, ◌&&◌}
use mathlib.Core.List.{List}
use mathlib.Core.Logic.{◌≢◌, ◌⊎◌, inl, inr}
use mathlib.Core.Option.{none, some}
use mathlib.Core.Path.{◌≡◌, refl, sym, ap, ◌∙◌, fun_ext}
use native.Mathlib.Nat.{not-le_of_lt}
use lib.Dec.{eqb}
use Rattle.bounded.proofs.All.{all-at}
use Rattle.bounded.proofs.First.{first_holds}
use Rattle.bounded.proofs.Reflection.{if-cases, is_true, is_false, of-true, decide, bool-r, and_r, eqb-r}
use Rattle.model.specs.Conditions.{met}
use Rattle.model.specs.Delete.{deleted}
use Rattle.model.specs.Description.{over, column_count, row_count, foreign_of, refers_of, in_range}
use Rattle.model.specs.Effect.{Rows, Effect, lowest_empty}
use Rattle.model.specs.Insert.{new_row, inserted}
use Rattle.model.specs.Listed.{listed}
use Rattle.model.specs.Tables.{Cell, nocell, same, Row, norow, empty_row, Tables, place, seek, at, lends}
use Rattle.model.specs.Update.{set_in, updated}
use Rattle.model.specs.Uplevel.{raised, placed}
use Rattle.model.specs.declared.Description.{Description}
use Rattle.theory.specs.Laws.{Laws}
use Rattle.theory.proofs.Described.{row-relation}
use Rattle.model.proofs.Sound.{column-r}
use Rattle.theory.proofs.Fine.{same-r, Absent, Keyed, value_of, nocell-value}
use Rattle.theory.proofs.Seek.{Sought, there, nowhere, sought, Neat, seek_is, place_is, neat-map, seek-map, at-seek}
use Rattle.theory.proofs.Lift.{Tidy, Fits}
use Rattle.theory.proofs.Put.{put-neat, seek-put}
use Rattle.theory.proofs.Update as Update
use Rattle.theory.proofs.Insert as Insert
use Rattle.theory.proofs.Uplevel as Uplevel
use Rattle.theory.proofs.Delete as Delete

module _ (D : Description) (L : Laws D) (T : Tables) (c r₀ : ℕ) (s : List ℕ) (q : List ℕ) (t : Tidy D T) (level : c < D.levels)
    (keyless : listed s 1 ≡ none) (ranged : (k x : ℕ) → listed s k ≡ some x → in_range D r₀ k c ≡ true)
    (names : (v x : ℕ) → met D q (at D T r₀ c v) ≡ true → listed s (foreign_of D r₀) ≡ some x → x ≢ 0 → Keyed (at D T (refers_of D r₀) c x) x) where
  E : Effect
  E = updated D c r₀ s q (λ r i. T r c i)

  G : ℕ → Row → Row
  G r R = if eqb r r₀ && met D q R then set_in c s R else R

  is-G : (r i : ℕ) → E.own r i ≡ G r (T r c i)
  unfolding E G updated
  is-G r i = refl

  key-kept : (r : ℕ) (R : Row) → G r R 1 ≡ R 1
  unfolding G set_in
  key-kept r R = if-cases (λ (S : Row). S 1 ≡ R 1) (and_r (eqb-r r r₀) (bool-r (met D q R))) (λ _. rw (keyless, set_in)) (λ _. refl)

  empty : (r : ℕ) (R : Row) → Absent R → Absent (G r R)
  unfolding G
  empty r R a = if-cases Absent (and_r (eqb-r r r₀) (bool-r (met D q R))) (λ h. absurd (Update.met-used D q R h.1 (nocell-value (a 1)))) (λ _. a)

  keeps : (r i : ℕ) → ((E.own r i 1).value ≡ (T r c i 1).value) ⊎ Absent (E.own r i)
  keeps r i = inl (rw (is-G r i) (value_of (key-kept r (T r c i))))

  own_is : (r v : ℕ) → seek (row_count D r) (E.own r) v ≡ (if eqb r r₀ && met D q (at D T r c v) then set_in c s (at D T r c v) else at D T r c v)
  unfolding G
  own_is r v = rw (at-seek D T r c v) (seek-map (row_count D r) (T r c) (E.own r) (G r) (t.neat r c) (λ i _. is-G r i) (λ i _. keeps r i) (empty r) v)

  pub update-fits : Fits D T c (updated D c r₀ s q (λ r i. T r c i))
  unfolding E updated
  update-fits = record {
    neat = λ r. neat-map (row_count D r) (T r c) (E.own r) (G r) (t.neat r c) (λ i _. is-G r i) (λ i _. keeps r i) (empty r);
    outside = λ r i h. rw (is-G r i) (empty r (T r c i) (t.outside r c i h));
    apt = Update.apt D L (at D T) c r₀ s q t.fine level keyless ranged names (λ r v. seek (row_count D r) (E.own r) v) E.above own_is (λ r v. refl) (λ r v k. rw (at-seek D T r c v));
  }

module _ (D : Description) (L : Laws D) (T : Tables) (c r₀ : ℕ) (q : List ℕ) (t : Tidy D T) (level : c < D.levels)
    (unnamed : (r v k : ℕ) → refers_of D r ≡ r₀ → k ≡ foreign_of D r → (at D T r c v k).value ≢ 0 → met D q (at D T r₀ c (at D T r c v k).value) ≡ true → ⊥) where
  E₁ : Effect
  E₁ = deleted D c r₀ q (λ r i. T r c i)

  G₁ : ℕ → Row → Row
  G₁ r R = if eqb r r₀ && met D q R then norow else R

  is-G₁ : (r i : ℕ) → E₁.own r i ≡ G₁ r (T r c i)
  unfolding E₁ G₁ deleted
  is-G₁ r i = refl

  empty₁ : (r : ℕ) (R : Row) → Absent R → Absent (G₁ r R)
  unfolding G₁
  empty₁ r R a = if-cases Absent (and_r (eqb-r r r₀) (bool-r (met D q R))) (λ h k. refl) (λ _. a)

  keeps₁ : (r i : ℕ) → ((E₁.own r i 1).value ≡ (T r c i 1).value) ⊎ Absent (E₁.own r i)
  unfolding G₁
  keeps₁ r i =
      rw (is-G₁ r i) (if-cases (λ (S : Row). ((S 1).value ≡ (T r c i 1).value) ⊎ Absent S) (and_r (eqb-r r r₀) (bool-r (met D q (T r c i)))) (λ _. inr (λ k. refl)) (λ _. inl refl))

  own-is₁ : (r v : ℕ) → seek (row_count D r) (E₁.own r) v ≡ (if eqb r r₀ && met D q (at D T r c v) then norow else at D T r c v)
  unfolding G₁
  own-is₁ r v = rw (at-seek D T r c v) (seek-map (row_count D r) (T r c) (E₁.own r) (G₁ r) (t.neat r c) (λ i _. is-G₁ r i) (λ i _. keeps₁ r i) (empty₁ r) v)

  pub delete-fits : Fits D T c (deleted D c r₀ q (λ r i. T r c i))
  unfolding E₁ deleted
  delete-fits = record {
    neat = λ r. neat-map (row_count D r) (T r c) (E₁.own r) (G₁ r) (t.neat r c) (λ i _. is-G₁ r i) (λ i _. keeps₁ r i) (empty₁ r);
    outside = λ r i h. rw (is-G₁ r i) (empty₁ r (T r c i) (t.outside r c i h));
    apt = Delete.apt D L (at D T) c r₀ q t.fine level unnamed (λ r v. seek (row_count D r) (E₁.own r) v) E₁.above own-is₁ (λ r v. rw (at-seek D T r c v)) (λ r v k. rw (at-seek D T r c v));
  }

-- a row put at level c in relation r₀
module _ (D : Description) (T : Tables) (c r₀ i₀ v₀ : ℕ) (R : Row) (t : Tidy D T) (h₀ : i₀ < row_count D r₀) (key : (R 1).value ≡ v₀) (some_key : v₀ ≢ 0)
    (alone : (i : ℕ) → i < row_count D r₀ → (T r₀ c i 1).value ≡ v₀ → i ≡ i₀) (slot : ((T r₀ c i₀ 1).value ≡ 0) ⊎ ((T r₀ c i₀ 1).value ≡ v₀)) where
  abbrev B : Rows
  B r i = if eqb r r₀ && eqb i i₀ then R else T r c i

  data Rel (r : ℕ) : Type 0 where
    here : r ≡ r₀ → B r ≡ (λ i. if eqb i i₀ then R else T r₀ c i) → Rel r
    other : r ≢ r₀ → B r ≡ T r c → Rel r

  rel : (r : ℕ) → Rel r
  rel r = go (decide (eqb-r r r₀))
    where
      go : (r ≡ r₀) ⊎ (r ≢ r₀) → Rel r
      go (inl e) = here e (fun_ext (λ i. rw (is_true (eqb-r r r₀) e, e)))
      go (inr n) = other n (fun_ext (λ i. rw (is_false (eqb-r r r₀) n)))

  put-neat' : (r : ℕ) → Neat (row_count D r) (B r)
  put-neat' r = go (rel r)
    where
      go : Rel r → Neat (row_count D r) (B r)
      go (here e q) = rw (q, e) (put-neat (row_count D r₀) (T r₀ c) (t.neat r₀ c) i₀ v₀ R h₀ key some_key alone slot)
      go (other n q) = rw q (t.neat r c)

  put-outside : (r i : ℕ) → row_count D r ≤ i → Absent (B r i)
  put-outside r i h = if-cases Absent (and_r (eqb-r r r₀) (eqb-r i i₀)) (λ e. absurd (not-le_of_lt (rw (e.0, e.1) h₀) h)) (λ _. t.outside r c i h)

  put-own : (r v : ℕ) → seek (row_count D r) (B r) v ≡ (if eqb r r₀ && eqb v v₀ then R else at D T r c v)
  put-own r v = go (rel r)
    where
      go : Rel r → seek (row_count D r) (B r) v ≡ (if eqb r r₀ && eqb v v₀ then R else at D T r c v)
      go (here e q) = rw (q, is_true (eqb-r r r₀) e, e) (seek-put (row_count D r₀) (T r₀ c) (t.neat r₀ c) i₀ v₀ R h₀ key some_key alone slot v ∙ rw (at-seek D T r₀ c v))
      go (other n q) = rw (q, is_false (eqb-r r r₀) n) (sym (at-seek D T r c v))

-- the lowest empty row has no key
lowest : (D : Description) → Laws D → (B : Rows) (r : ℕ) → lowest_empty D B r < row_count D r → (B r (lowest_empty D B r) 1).value ≡ 0
unfolding lowest_empty empty_row
lowest D L B r h = nocell-value (of-true (same-r (B r (lowest_empty D B r) 1) nocell) (all-at (column_count D r) (λ k. same (B r (lowest_empty D B r) (suc k)) nocell) (first_holds (row_count D r) (λ i. empty_row D r (B r i)) h) 0 (of-true (column-r D r 1) (L.keyed r (row-relation D r (lowest_empty D B r) h))).1))

module _ (D : Description) (L : Laws D) (T : Tables) (c r₀ v₀ : ℕ) (s : List ℕ) (t : Tidy D T) (level : c < D.levels)
    (some_key : v₀ ≢ 0) (keyed : listed s 1 ≡ some v₀) (ranged : (k x : ℕ) → listed s k ≡ some x → in_range D r₀ k c ≡ true)
    (absent-key : Absent (at D T r₀ c v₀)) (names : (x : ℕ) → listed s (foreign_of D r₀) ≡ some x → x ≢ 0 → Keyed (at D T (refers_of D r₀) c x) x)
    (room : lowest_empty D (λ r i. T r c i) r₀ < row_count D r₀) where
  alone : (i : ℕ) → i < row_count D r₀ → (T r₀ c i 1).value ≡ v₀ → i ≡ lowest_empty D (λ r i. T r c i) r₀
  alone i h e = absurd (some_key (sym e ∙ value_of (sym (ap (λ (R : Row). R 1) (at-seek D T r₀ c v₀ ∙ seek_is (row_count D r₀) (T r₀ c) (t.neat r₀ c) i v₀ h e some_key)) ∙ absent-key 1)))

  new-key : (new_row D c r₀ s 1).value ≡ v₀
  unfolding new_row
  new-key = rw (keyed, new_row)

  pub insert-fits : Fits D T c (inserted D c r₀ s (λ r i. T r c i))
  unfolding inserted
  insert-fits = record {
    neat = put-neat' D T c r₀ i₀ v₀ (new_row D c r₀ s) t room new-key some_key alone slot;
    outside = put-outside D T c r₀ i₀ v₀ (new_row D c r₀ s) t room new-key some_key alone slot;
    apt = Insert.apt D L (at D T) c r₀ v₀ s t.fine level some_key keyed ranged absent-key names _ _
        (put-own D T c r₀ i₀ v₀ (new_row D c r₀ s) t room new-key some_key alone slot) (λ r v. refl) (λ r v k. refl);
  }
    where
      i₀ : ℕ
      i₀ = lowest_empty D (λ r i. T r c i) r₀

      slot : ((T r₀ c i₀ 1).value ≡ 0) ⊎ ((T r₀ c i₀ 1).value ≡ v₀)
      slot = inl (lowest D L (λ r i. T r c i) r₀ room)

module _ (D : Description) (L : Laws D) (T : Tables) (c r₀ : ℕ) (e : Cell) (s : List ℕ) (t : Tidy D T) (level : c < D.levels)
    (some_key : e.value ≢ 0) (based : at D T r₀ e.class e.value 1 ≡ e) (sees : over D c e.class ≡ true) (keyless : listed s 1 ≡ none)
    (ranged : (k d : ℕ) → listed s k ≡ some d → (in_range D r₀ k d ≡ true) × (over D c d ≡ true) × (over D d e.class ≡ true))
    (free : Absent (at D T r₀ c e.value) ⊎ (at D T r₀ c e.value 1 ≡ e))
    (names : (d x : ℕ) → listed s (foreign_of D r₀) ≡ some d → (lends (at D T r₀ d e.value) e (foreign_of D r₀) d).value ≡ x → x ≢ 0 → Keyed (at D T (refers_of D r₀) c x) x)
    (room : (at D T r₀ c e.value 1 ≡ e) ⊎ (lowest_empty D (λ r i. T r c i) r₀ < row_count D r₀)) where
  R : Row
  R = raised D (at D T) c r₀ e s

  R-key : (R 1).value ≡ e.value
  unfolding R raised
  R-key = refl

  there? : Bool
  there? = same (seek (row_count D r₀) (T r₀ c) e.value 1) e

  i₀ : ℕ
  i₀ = if there? then place (row_count D r₀) (T r₀ c) e.value else lowest_empty D (λ r i. T r c i) r₀

  record Spot : Type 0 where
    inside : i₀ < row_count D r₀
    only_one : (i : ℕ) → i < row_count D r₀ → (T r₀ c i 1).value ≡ e.value → i ≡ i₀
    slot : ((T r₀ c i₀ 1).value ≡ 0) ⊎ ((T r₀ c i₀ 1).value ≡ e.value)

  spot : Spot
  unfolding i₀ there?
  spot = go (decide (same-r (seek (row_count D r₀) (T r₀ c) e.value 1) e))
    where
      find : (i : ℕ) → i < row_count D r₀ → (T r₀ c i 1).value ≡ e.value → at D T r₀ c e.value ≡ T r₀ c i
      find i h q = at-seek D T r₀ c e.value ∙ seek_is (row_count D r₀) (T r₀ c) (t.neat r₀ c) i e.value h q some_key

      go : (seek (row_count D r₀) (T r₀ c) e.value 1 ≡ e) ⊎ (seek (row_count D r₀) (T r₀ c) e.value 1 ≢ e) → Spot
      go (inl q) = by (sought (row_count D r₀) (T r₀ c) e.value) q
        where
          by : {S : Row} → Sought (row_count D r₀) (T r₀ c) e.value S → S 1 ≡ e → Spot
          by (nowhere _ p) x = absurd (some_key (value_of (sym x ∙ ap (λ (S : Row). S 1) p)))
          by (there i h k p) x = record { inside = rw is h; only_one = λ j h' k'. u j h' k' ∙ sym is; slot = inr (rw is k) }
            where
              is : i₀ ≡ i
              is = rw (is_true (same-r (seek (row_count D r₀) (T r₀ c) e.value 1) e) q) (place_is (row_count D r₀) (T r₀ c) (t.neat r₀ c) i e.value h k some_key)

              u : (j : ℕ) → j < row_count D r₀ → (T r₀ c j 1).value ≡ e.value → j ≡ i
              u j h' k' = (t.neat r₀ c).unique j i h' h (λ z. some_key (sym k' ∙ z)) (k' ∙ sym k)
      go (inr n) = by room free
        where
          not_at : at D T r₀ c e.value 1 ≢ e
          not_at q = n (sym (ap (λ (S : Row). S 1) (at-seek D T r₀ c e.value)) ∙ q)

          by : (at D T r₀ c e.value 1 ≡ e) ⊎ (lowest_empty D (λ r i. T r c i) r₀ < row_count D r₀) → Absent (at D T r₀ c e.value) ⊎ (at D T r₀ c e.value 1 ≡ e) → Spot
          by (inl q) _ = absurd (not_at q)
          by (inr _) (inr q) = absurd (not_at q)
          by (inr h) (inl a) = record { inside = rw is h; only_one = λ j h' k'. absurd (some_key (sym k' ∙ value_of (sym (ap (λ (S : Row). S 1) (find j h' k')) ∙ a 1))); slot = inl (rw is (lowest D L (λ r i. T r c i) r₀ h)) }
            where
              is : i₀ ≡ lowest_empty D (λ r i. T r c i) r₀
              is = rw (is_false (same-r (seek (row_count D r₀) (T r₀ c) e.value 1) e) n)

  pub uplevel-fits : Fits D T c (placed D r₀ e (raised D (at D T) c r₀ e s) (λ r i. T r c i))
  unfolding placed R i₀ there?
  uplevel-fits = record {
    neat = put-neat' D T c r₀ i₀ e.value R t spot.inside R-key some_key spot.only_one spot.slot;
    outside = put-outside D T c r₀ i₀ e.value R t spot.inside R-key some_key spot.only_one spot.slot;
    apt = Uplevel.apt D L (at D T) c r₀ e s t.fine level some_key based sees keyless ranged free names _ _
        (put-own D T c r₀ i₀ e.value R t spot.inside R-key some_key spot.only_one spot.slot) (λ r v. refl) (λ r v k. rw (at-seek D T r₀ c e.value));
  }
