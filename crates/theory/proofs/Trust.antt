-- A value of another level's class was of that class in that entity's row before, or the request is an UPLEVEL of the entity that lists it.
-- Assumes nothing.
use Prim.Native.Nat.{ℕ}
use mathlib.Core.Bool.{true}
use mathlib.Core.Logic.{◌≢◌, ◌⊎◌, inl, inr}
use mathlib.Core.Option.{Option, none, some}
use mathlib.Core.Path.{◌≡◌, refl, sym, ap, ◌∙◌, subst}
use native.Mathlib.Omega.{arith}
use Rattle.bounded.proofs.Cases.{and_left}
use Rattle.bounded.proofs.Reflection.{if-cases, bool-r, and_r, eqb-r}
use Rattle.model.specs.Ledger.{Pages, cells_of, pages_of}
use Rattle.model.specs.Conditions.{met}
use Rattle.model.specs.Delete.{deleted}
use Rattle.model.specs.Description.{over}
use Rattle.model.specs.Effect.{Effect, reach, applied, lowest_empty}
use Rattle.model.specs.Insert.{new_row, inserted}
use Rattle.model.specs.Legal.{LegalPages}
use Rattle.model.specs.Listed.{listed}
use Rattle.model.specs.Run.{Request, subject, relation, formed_as, effect_as, left, after, Reply, count_as, done}
use Rattle.model.specs.Tables.{Cell, nocell, Row, State, Tables, rows_of, seen, at}
use Rattle.model.specs.Update.{set_in, updated}
use Rattle.model.specs.Uplevel.{entity_of, raised, placed, uplevelled}
use Rattle.model.specs.declared.Description.{Description}
use Rattle.model.specs.declared.Fault.{Fault}
use Rattle.model.specs.declared.What.{What}
use Rattle.theory.specs.Laws.{Laws}
use Rattle.theory.specs.Theorems.{tables, leaves, hears, Held, Named, TrustIsNamed}
use Rattle.theory.proofs.Described.{sound-laws}
use Rattle.theory.proofs.Fine.{value_of, class_of, nocell-value, nocell-class, no-level, lends-class}
use Rattle.theory.proofs.Reach.{Gone, Reached, emptied, hit, cut, kept, reached, settle-class, Changed, settled, lost, changes, null-value, carry_own, carry-above, carry-aside, Side, at_c, over-c, off-c, side}
use Rattle.theory.proofs.Above.{stayed}
use Rattle.theory.proofs.Lift.{Fits}
use Rattle.theory.proofs.Uplevel.{place_of, Raised, is_key, is-lent, is-null, raises}
use Rattle.theory.proofs.Legality.{find, legal-tidy}
use Rattle.theory.proofs.Seen.{seen-own}
use Rattle.theory.proofs.Accepted.{update-key}
use Rattle.theory.proofs.State.{fault, step}
use Rattle.theory.proofs.Steps.{Passed, all-passed}
use Rattle.theory.proofs.Calls.{Judged, yes-says, reply-done, step-refused, step-done, hears-is, leaves-pages}
use Rattle.model.specs.declared.What.TheVariants as Whats
use Rattle.std.specs.Prelude.{Ok, Err}

module _ (d : Description) (q : Request) (P : Pages) where
  abbrev S : State
  S = cells_of P

  abbrev c : ℕ
  c = subject q

  abbrev T : Tables
  T = rows_of S

  abbrev W : Tables
  W = at d (rows_of (seen d c S))

  -- the entity that q names, if it is an UPLEVEL
  abbrev entity_as : ℕ → ℕ → Cell
  entity_as key class = entity_of d c (relation q) key class (rows_of (seen d c S))

  -- where class a in column k of the entity's row at l comes from
  pub data Whence (r l : ℕ) (entity : Cell) (k a : ℕ) : Type 0 where
    held : Held (rows_of S) r l entity k a → Whence r l entity k a
    named : subject q ≡ l → relation q ≡ r → (class : ℕ) → q.statement.what ≡ Whats.Uplevel entity.value class
        → entity_as entity.value class ≡ entity → listed q.list k ≡ some a → Whence r l entity k a

  abbrev pub From : ℕ → ℕ → ℕ → Row → Type 0
  From r l k R = (R k).value ≢ 0 → (R k).class ≢ l → Whence r l (R 1) k (R k).class

  stood : (r l i k : ℕ) → From r l k (rows_of S r l i)
  stood r l i k _ _ = held (record { row = i; one = refl; class = refl })

  -- ---- the rows at c

  insert-from : (r i k : ℕ) → From r c k ((inserted d c (relation q) q.list (S c).rows).own r i)
  unfolding inserted new_row
  insert-from r i k =
      if-cases (From r c k) (and_r (eqb-r r (relation q)) (eqb-r i (lowest_empty d (S c).rows (relation q)))) (λ _. go (listed q.list k) refl) (λ _. stood r c i k)
    where
      go : (o : Option ℕ) → listed q.list k ≡ o → From r c k (new_row d c (relation q) q.list)
      go none e n _ = absurd (n (rw (e, new_row) (null-value d (relation q) k c)))
      go (some v) e _ m = absurd (m (rw (e, new_row)))

  update-from : listed q.list 1 ≡ none → (r i k : ℕ) → From r c k ((updated d c (relation q) q.list q.conditions (S c).rows).own r i)
  unfolding updated set_in
  update-from keyless r i k =
      if-cases (From r c k) (and_r (eqb-r r (relation q)) (bool-r (met d q.conditions ((S c).rows r i)))) (λ _. go (listed q.list k) refl) (λ _. stood r c i k)
    where
      go : (o : Option ℕ) → listed q.list k ≡ o → From r c k (set_in c q.list ((S c).rows r i))
      go none e _ _ = held (record { row = i; one = rw (keyless, set_in); class = rw (e, set_in) })
      go (some v) e _ m = absurd (m (rw (e, set_in)))

  delete-from : (r i k : ℕ) → From r c k ((deleted d c (relation q) q.conditions (S c).rows).own r i)
  unfolding deleted
  delete-from r i k = if-cases (From r c k) (and_r (eqb-r r (relation q)) (bool-r (met d q.conditions ((S c).rows r i)))) (λ _ n _. absurd (n refl)) (λ _. stood r c i k)

  uplevel-from : (key class : ℕ) → q.statement.what ≡ Whats.Uplevel key class → (r i k : ℕ) → k ≢ 1
      → From r c k ((placed d (relation q) (entity_as key class) (raised d W c (relation q) (entity_as key class) q.list) (S c).rows).own r i)
  unfolding placed raised entity_of
  uplevel-from key class what r i k not_key =
      if-cases (From r c k) (and_r (eqb-r r (relation q)) (eqb-r i (place_of d (relation q) e (S c).rows))) (λ h. go h.0 (raises d W c (relation q) e q.list k)) (λ _. stood r c i k)
    where
      e : Cell
      e = entity_as key class

      R : Row
      R = raised d W c (relation q) e q.list

      go : r ≡ relation q → Raised d W c (relation q) e q.list k (R k) → From r c k R
      go _ (is_key x _) _ _ = absurd (not_key x)
      go _ (is-null _ x) n _ = absurd (n (value_of x ∙ null-value d (relation q) k c))
      go h (is-lent a l _ x) _ _ = named refl (sym h) class what refl (l ∙ ap some (sym (class_of x ∙ lends-class _ e k a)))

  own-from : over d c c ≡ true → (w : What) (E : Effect) → q.statement.what ≡ w → formed_as d (relation q) w q.list q.conditions ≡ true
      → effect_as d q w (seen d c S) ≡ some E → (r i k : ℕ) → k ≢ 1 → From r c k (E.own r i)
  unfolding formed_as effect_as uplevelled
  own-from self w E what g e r i k n = go w what g e
    where
      is : {E₁ : Effect} → some E₁ ≡ some E → From r c k (E₁.own r i) → From r c k (E.own r i)
      is {E₁} e f = let p : E₁ ≡ E = cc in subst (λ (X : Effect). From r c k (X.own r i)) p f

      go : (w : What) → q.statement.what ≡ w → formed_as d (relation q) w q.list q.conditions ≡ true → effect_as d q w (seen d c S) ≡ some E → From r c k (E.own r i)
      go Whats.Insert _ _ e = is e (rw (seen-own d S c self) (insert-from r i k))
      go Whats.Delete _ _ e = is e (rw (seen-own d S c self) (delete-from r i k))
      go Whats.Update _ g e = is e (rw (seen-own d S c self) (update-from (update-key d (relation q) q.list (and_left _ _ g)) r i k))
      go (Whats.Uplevel key class) what _ e = is e (rw (seen-own d S c self) (uplevel-from key class what r i k n))
      go Whats.Select _ _ e = let z : ◌≡◌ {A = ℕ} 0 1 = cc in absurd (omega (arith, z))

  -- ---- the rows above c

  module _ (L : Laws d) (g : LegalPages d P) where
    above_from : (E : Effect) → Fits d T c E → (r l i k : ℕ) → l ≢ c → over d l c ≡ true → From r l k (reach d (at d T) c E.above r l (T r l i))
    above_from E f r l i k ne o n _ = held (record { row = i; one = sym key; class = sym x.2 })
      where
        R : Row
        R = T r l i

        -- the cell was not empty, its row stays, and so does its class
        Stays : Cell → Type 0
        Stays y = (R k ≢ nocell) × (Gone d L (at d T) c E.above r l R → ⊥) × (y.class ≡ (R k).class)

        go : {y : Cell} → Reached d L (at d T) c E.above r l R k y → y.value ≢ 0 → Stays y
        go (emptied _ e) n = absurd (n (nocell-value e))
        go (cut _ _ _ e) n = absurd (n (value_of e))
        go (kept ng _ _ e) n = (λ z. n (value_of (e ∙ z)), ng, class_of e)
        go {y} (hit ng h e) n = (λ z. no-level L (sym h.0 ∙ nocell-class z) f.apt.level, ng, by (changes d (at d T) c r l k (E.above.change r (R 1).value k) (R k)) e)
          where
            by : {z : Cell} → Changed d (at d T) c r l k (E.above.change r (R 1).value k) (R k) z → y ≡ z → y.class ≡ (R k).class
            by (settled _ u) p = class_of (p ∙ u) ∙ settle-class c (E.above.change r (R 1).value k) (R k) h.0 ∙ sym h.0
            by (lost _ u) p = absurd (n (value_of (p ∙ u) ∙ null-value d r k l))

        x : Stays (reach d (at d T) c E.above r l R k)
        x = go (reached d L (at d T) c E.above r l R k) n

        key : reach d (at d T) c E.above r l R 1 ≡ R 1
        key =
            subst (λ (Q : Row). (Gone d L (at d T) c E.above r l Q → ⊥) → reach d (at d T) c E.above r l Q 1 ≡ Q 1)
            (find d L T g r l i (R 1).value refl (g.entity-key r l i k x.0).0)
            (stayed d L (at d T) c _ E.above (legal-tidy d L T g).fine f.apt r l (R 1).value ne o) x.1

    -- ---- everywhere

    pub trust : (r l i k : ℕ) → k ≢ 1 → From r l k (rows_of (cells_of (step d q P)) r l i)
    unfolding after left applied
    trust r l i k n = go (fault d q P) refl
      where
        went : Passed d L q S → (o : Option Effect) → effect_as d q q.statement.what (seen d c S) ≡ o → From r l k (rows_of (left d c o S) r l i)
        went p none _ = stood r l i k
        went p (some E) e = by (side d c l)
          where
            f : Fits d T c E
            f = p.fits E e

            by : Side d c l → From r l k (applied d c E T r l i)
            by (at_c z) = rw (z, carry_own d (at d T) c E.own E.above T r i) (own-from (L.reflexive c f.apt.level) q.statement.what E refl p.well e r i k n)
            by (over-c m o) = rw (carry-above d (at d T) c E.own E.above T r l i m o) (above_from E f r l i k m o)
            by (off-c m o) = rw (carry-aside d (at d T) c E.own E.above T r l i m o) (stood r l i k)

        go : (x : Option Fault) → fault d q P ≡ x → From r l k (rows_of (cells_of (step d q P)) r l i)
        go (some x) e = rw (step-refused d q P e) (stood r l i k)
        go none e = rw (step-done d q P e) (went (all-passed d L q P (legal-tidy d L T g) e) (effect_as d q q.statement.what (seen d c S)) refl)

pub trust-is-named : TrustIsNamed
unfolding done count_as
trust-is-named d b q y r l i k n v m = by (fault d q (pages_of d b)) refl
  where
    j : Judged d b
    j = yes-says d b y

    Said : Cell → ℕ → Type 0
    Said e a = Held (tables d b) r l e k a ⊎ Named d b q r l e k a

    by : (o : Option Fault) → fault d q (pages_of d b) ≡ o → Said (tables d (leaves d q b) r l i 1) (tables d (leaves d q b) r l i k).class
    by (some x) e = inl (record { row = i; one = ap (λ (P : Pages). rows_of (cells_of P) r l i 1) same; class = ap (λ (P : Pages). (rows_of (cells_of P) r l i k).class) same })
      where
        same : pages_of d b ≡ pages_of d (leaves d q b)
        same = sym (leaves-pages d b q y ∙ step-refused d q (pages_of d b) e)
    by none e = go (subst (λ (P : Pages). From d q (pages_of d b) r l k (rows_of (cells_of P) r l i)) (sym (leaves-pages d b q y)) (trust d q (pages_of d b) (sound-laws d j.sound) j.legal r l i k n) v m)
      where
        answer : (hears d q b).answer ≡ Ok (count_as d q q.statement.what (seen d (subject q) (cells_of (pages_of d b))))
        answer = ap (λ (h : Reply). h.answer) (hears-is d b q y ∙ reply-done d q (pages_of d b) e)

        go : {e : Cell} {a : ℕ} → Whence d q (pages_of d b) r l e k a → Said e a
        go (held h) = inl h
        go (named p w class what is column) =
            inr (record { level = p; within = w; lists = record { class = class; what = what; is = is; column = column }; done = answer ∙ rw (what, count_as) })
