-- What a level sees of legal tables is legal: a rule reads a row's own level and levels below it.
-- Assumes nothing.
use Prim.Native.Nat.{ℕ}
use mathlib.Core.Bool.{true}
use mathlib.Core.Logic.{◌≢◌, ◌⊎◌, inr}
use mathlib.Core.Path.{◌≡◌, refl, sym, subst}
use Rattle.model.specs.Ledger.{cells_of, seen_pages, pages_of}
use Rattle.model.specs.Description.{over, refers_of, in_range}
use Rattle.model.specs.Legal.{LegalState}
use Rattle.model.specs.Tables.{nocell, State, Tables, rows_of, seen}
use Rattle.model.specs.declared.Description.{Description}
use Rattle.model.proofs.Pages.{seen-cells}
use Rattle.theory.specs.Laws.{Laws}
use Rattle.theory.specs.Theorems.{VisibleLegal}
use Rattle.theory.proofs.Described.{range-level, sound-laws}
use Rattle.theory.proofs.Fine.{value_of, no-level}
use Rattle.theory.proofs.Seen.{seen_as, seen-row}
use Rattle.theory.proofs.Calls.{Judged, yes-says, ledger-yes}

module _ (d : Description) (L : Laws d) (c : ℕ) (S : State) (g : LegalState d S) where
  abbrev T : Tables
  T = rows_of (seen d c S)

  -- the level of a value's class is seen with its row's
  below : (s r l i k : ℕ) → over d c l ≡ true → (rows_of S r l i k).value ≢ 0 → T s (rows_of S r l i k).class ≡ rows_of S s (rows_of S r l i k).class
  below s r l i k h n = seen-row d S c s a (L.transitive c l a h (g.form-tc r l i k (λ z. no-level L z (range-level d L r k a (g.form-value r l i k n)))))
    where
      a : ℕ
      a = (rows_of S r l i k).class

  pub visible : LegalState d (seen d c S)
  visible = record {
    outside = λ r l i k h. seen_as d S c l (λ K. K.rows r i k ≡ nocell) (λ _. g.outside r l i k h) refl;
    form-value = λ r l i k. seen_as d S c l (λ K. (K.rows r i k).value ≢ 0 → in_range d r k (K.rows r i k).class ≡ true) (λ _. g.form-value r l i k) (λ n. absurd (n refl));
    form-null = λ r l i k. seen_as d S c l (λ K. (K.rows r i k).value ≡ 0 → (in_range d r k (K.rows r i k).class ≡ true) ⊎ ((K.rows r i k).class ≡ 255)) (λ _. g.form-null r l i k) (λ _. inr refl);
    form-tc = λ r l i k. seen_as d S c l (λ K. (K.rows r i k).class ≢ 255 → over d l (K.rows r i k).class ≡ true) (λ _. g.form-tc r l i k) (λ n. absurd (n refl));
    entity-key = λ r l i k. seen_as d S c l (λ K. K.rows r i k ≢ nocell → ((K.rows r i 1).value ≢ 0) × ((K.rows r i 1).class ≢ 255)) (λ _. g.entity-key r l i k) (λ n. absurd (n refl));
    entity-class = λ r l i k. seen_as d S c l (λ K. (K.rows r i k).class ≢ 255 → over d (K.rows r i k).class (K.rows r i 1).class ≡ true) (λ _. g.entity-class r l i k) (λ n. absurd (n refl));
    one-row = λ r l i j. seen_as d S c l (λ K. (K.rows r i 1).value ≢ 0 → (K.rows r i 1).value ≡ (K.rows r j 1).value → i ≡ j) (λ _. g.one-row r l i j) (λ n. absurd (n refl));
    one_value = λ r l m i j k.
        seen_as d S c l (λ K. (K.rows r i 1).value ≢ 0 → K.rows r i 1 ≡ T r m j 1 → (K.rows r i k).class ≡ (T r m j k).class → (K.rows r i k).value ≡ (T r m j k).value)
        (λ _ n. seen_as d S c m (λ K. (S l).rows r i 1 ≡ K.rows r j 1 → ((S l).rows r i k).class ≡ (K.rows r j k).class → ((S l).rows r i k).value ≡ (K.rows r j k).value)
        (λ _. g.one_value r l m i j k n) (λ e. absurd (n (value_of e))))
        (λ n. absurd (n refl));
    borrow = λ r l i k.
        seen_as d S c l (λ K. (K.rows r i k).value ≢ 0 → (K.rows r i k).class ≢ l
        → (j : ℕ) × (T r (K.rows r i k).class j 1 ≡ K.rows r i 1) × (T r (K.rows r i k).class j k ≡ K.rows r i k))
        (λ h n m. rw (below r r l i k h n) (g.borrow r l i k n m)) (λ n. absurd (n refl));
    reference = λ r l i k f.
        seen_as d S c l (λ K. (K.rows r i k).value ≢ 0
        → (j : ℕ) × ((K.rows (refers_of d r) j 1).value ≡ (K.rows r i k).value) × (over d (K.rows r i k).class (K.rows (refers_of d r) j 1).class ≡ true))
        (λ _. g.reference r l i k f) (λ n. absurd (n refl));
    one-entity = λ r l i k j m f.
        seen_as d S c l (λ K. (K.rows r i k).value ≢ 0 → (K.rows r i k).class ≢ l → (K.rows (refers_of d r) j 1).value ≡ (K.rows r i k).value
        → (T (refers_of d r) (K.rows r i k).class m 1).value ≡ (K.rows r i k).value → K.rows (refers_of d r) j 1 ≡ T (refers_of d r) (K.rows r i k).class m 1)
        (λ h n o p. rw (below (refers_of d r) r l i k h n) (g.one-entity r l i k j m f n o p)) (λ n. absurd (n refl));
  }

pub visible-legal : VisibleLegal
visible-legal d b c y =
    let j : Judged d b = yes-says d b y in
    ledger-yes d (seen_pages d c (pages_of d b)) j.sound
    (subst (LegalState d) (sym (seen-cells d c (pages_of d b))) (visible d (sound-laws d j.sound) c (cells_of (pages_of d b)) j.legal))
