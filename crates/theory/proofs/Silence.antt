-- An UPLEVEL that lists a column FROM a level which holds nothing of its own there leaves null of that level's class.
-- Assumes nothing.
use Prim.Native.Nat.{ℕ}
use mathlib.Core.Logic.{◌≢◌, ◌⊎◌, inl, inr}
use mathlib.Core.Option.{none, some}
use mathlib.Core.Path.{◌≡◌, refl, sym, ap, ◌∙◌, subst}
use native.Mathlib.Omega.{arith}
use Rattle.bounded.proofs.Cases.{and_left}
use Rattle.bounded.proofs.Reflection.{if-cases, is_true, decide, and_r, eqb-r, ltb-r}
use Rattle.model.specs.Ledger.{Pages, cells_of, pages_of}
use Rattle.model.specs.Description.{row_count}
use Rattle.model.specs.Effect.{applied}
use Rattle.model.specs.Legal.{LegalPages}
use Rattle.model.specs.Listed.{listed}
use Rattle.model.specs.Run.{Request, subject, relation, formed_as, effect_as, left}
use Rattle.model.specs.Tables.{Cell, cell, Row, norow, State, Tables, rows_of, seen, place, seek, at, lends}
use Rattle.model.specs.Uplevel.{entity_of, raised, placed, uplevelled}
use Rattle.model.specs.declared.Description.{Description}
use Rattle.theory.specs.Laws.{Laws}
use Rattle.theory.specs.Theorems.{Yes, SilenceShows}
use Rattle.theory.proofs.Described.{sound-laws}
use Rattle.theory.proofs.Fine.{cell-path, same-r, value_of}
use Rattle.theory.proofs.Seek.{at-seek}
use Rattle.theory.proofs.Reach.{carry_own}
use Rattle.theory.proofs.Uplevel.{place_of, Raised, is_key, is-lent, is-null, raises}
use Rattle.theory.proofs.Legality.{find, legal-tidy}
use Rattle.theory.proofs.Seen.{seen_as}
use Rattle.theory.proofs.Accepted.{uplevel-key}
use Rattle.theory.proofs.State.{fault, step}
use Rattle.theory.proofs.Steps.{next, after-cells, all-passed, step-legal}
use Rattle.theory.proofs.Calls.{Judged, yes-says, done-says, step-done, leaves-pages}
use Rattle.model.specs.declared.What.TheVariants as Whats

seek-none : (n v : ℕ) → seek n (λ i. norow) v ≡ norow
unfolding seek
seek-none n v = if-cases (λ (R : Row). R ≡ norow) (ltb-r (place n (λ i. norow) v) n) (λ _. refl) (λ _. refl)

-- a row that holds no value of class a lends null
lends-null : (R : Row) (e : Cell) (k a : ℕ) → ((v : ℕ) → v ≢ 0 → R 1 ≡ e → R k ≡ cell v a → ⊥) → lends R e k a ≡ cell 0 a
unfolding lends
lends-null R e k a n = if-cases (λ (y : Cell). y ≡ cell 0 a) (and_r (same-r (R 1) e) (eqb-r (R k).class a)) (λ h. go h (decide (eqb-r (R k).value 0))) (λ _. refl)
  where
    go : (R 1 ≡ e) × ((R k).class ≡ a) → ((R k).value ≡ 0) ⊎ ((R k).value ≢ 0) → R k ≡ cell 0 a
    go h (inl z) = cell-path z h.1
    go h (inr m) = absurd (n (R k).value m h.0 (cell-path refl h.1))

module _ (d : Description) (L : Laws d) (q : Request) (P : Pages) (g : LegalPages d P) (entity : Cell) (class k a : ℕ) (passes : fault d q P ≡ none)
    (what : q.statement.what ≡ Whats.Uplevel entity.value class)
    (is : entity_of d (subject q) (relation q) entity.value class (rows_of (seen d (subject q) (cells_of P))) ≡ entity) (column : listed q.list k ≡ some a)
    (silent : (v : ℕ) → v ≢ 0 → at d (rows_of (cells_of P)) (relation q) a entity.value 1 ≡ entity → at d (rows_of (cells_of P)) (relation q) a entity.value k ≡ cell v a → ⊥) where
  abbrev S : State
  S = cells_of P

  abbrev c : ℕ
  c = subject q

  abbrev r : ℕ
  r = relation q

  abbrev W : Tables
  W = at d (rows_of (seen d c S))

  key : (entity.value ≢ 0) × (listed q.list 1 ≡ none)
  unfolding formed_as
  key = uplevel-key d r entity.value class q.list (and_left _ _ (rw (what, formed_as) at (all-passed d L q P (legal-tidy d L (rows_of S) g) passes).well))

  -- what the entity's row at a lends is null
  lent : lends (W r a entity.value) entity k a ≡ cell 0 a
  lent =
      rw (at-seek d (rows_of (seen d c S)) r a entity.value)
      (seen_as d S c a (λ K. lends (seek (row_count d r) (K.rows r) entity.value) entity k a ≡ cell 0 a)
      (λ _. lends-null _ entity k a (rw (← (at-seek d (rows_of S) r a entity.value)) silent))
      (rw (seek-none (row_count d r) entity.value) (lends-null norow entity k a (λ v n _ e. n (value_of (sym e))))))

  abbrev new : Row
  new = raised d W c r entity q.list

  new-null : new k ≡ cell 0 a
  new-null = go (raises d W c r entity q.list k)
    where
      go : {y : Cell} → Raised d W c r entity q.list k y → y ≡ cell 0 a
      go (is_key e _) = absurd (let z : ◌≡◌ {A = ℕ} 0 1 = cc (e, column, key.1) in omega arith)
      go (is-lent b p _ e) = cc (e, p, column, lent)
      go (is-null n _) = absurd (n a column (value_of lent))

  effect_is : effect_as d q q.statement.what (seen d c S) ≡ some (uplevelled d c r entity q.list (rows_of (seen d c S)))
  unfolding effect_as
  effect_is = rw (what, effect_as, is)

  abbrev i : ℕ
  i = place_of d r entity (seen d c S c).rows

  own_row : rows_of (next d q S S) r c i ≡ new
  unfolding left applied uplevelled placed
  own_row = rw (effect_is, left) (carry_own d (at d (rows_of S)) c _ _ (rows_of S) r i ∙ rw (is_true (eqb-r r r) refl, is_true (eqb-r i i) refl))

  row : rows_of (cells_of (step d q P)) r c i ≡ new
  row = ap (λ (K : Pages). rows_of (cells_of K) r c i) (step-done d q P passes) ∙ ap (λ (T : State). rows_of T r c i) (after-cells d q P) ∙ own_row

  found : at d (rows_of (cells_of (step d q P))) r c entity.value ≡ new
  unfolding raised
  found = find d L (rows_of (cells_of (step d q P))) (step-legal d L q P g) r c i entity.value (rw row) key.0 ∙ row

  pub silence : (at d (rows_of (cells_of (step d q P))) r c entity.value 1 ≡ entity) × (at d (rows_of (cells_of (step d q P))) r c entity.value k ≡ cell 0 a)
  unfolding raised
  silence = (ap (λ (R : Row). R 1) found, ap (λ (R : Row). R k) found ∙ new-null)

-- ---- on a ledger

pub silence-shows : SilenceShows
silence-shows d b q entity k a count h u silent =
    let y : Yes d b × (fault d q (pages_of d b) ≡ none) = done-says d b q h in
    let j : Judged d b = yes-says d b y.0 in
    subst (λ (P : Pages). (at d (rows_of (cells_of P)) (relation q) (subject q) entity.value 1 ≡ entity) × (at d (rows_of (cells_of P)) (relation q) (subject q) entity.value k ≡ cell 0 a))
    (sym (leaves-pages d b q y.0))
    (silence d (sound-laws d j.sound) q (pages_of d b) j.legal entity u.class k a y.1 u.what u.is u.column silent)
