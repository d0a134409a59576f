-- Legal tables (01, "Legal tables"): one field for each sentence. T r l i k is the cell of relation r, level l, row i and column k; l is
-- the row's TC.
-- Assumes nothing: these are statements.
use Rattle.std.specs.Prelude.{ℕ, ◌≤◌, ◌≡◌, ◌≢◌, ◌⊎◌, true}
use Rattle.model.specs.declared.Description.{Description}
use Rattle.model.specs.Description.{over, row_count, foreign_of, refers_of, in_range}
use Rattle.model.specs.Tables.{Tables, nocell, State, rows_of}
use Rattle.model.specs.Ledger.{Pages, cells_of}

-- "Tables are legal when every non-empty row and cell satisfies:"
pub record Legal (d : Description) (T : Tables) : Type 0 where
  -- there are no rows past the last
  pub outside : (r l i k : ℕ) → row_count d r ≤ i → T r l i k ≡ nocell
  -- "Form: a non-null value has a class in range;"
  pub form-value : (r l i k : ℕ) → (T r l i k).value ≢ 0 → in_range d r k (T r l i k).class ≡ true
  -- "a null has a class in range or 255;"
  pub form-null : (r l i k : ℕ) → (T r l i k).value ≡ 0 → (in_range d r k (T r l i k).class ≡ true) ⊎ ((T r l i k).class ≡ 255)
  -- "TC dominates every class."
  pub form-tc : (r l i k : ℕ) → (T r l i k).class ≢ 255 → over d l (T r l i k).class ≡ true
  -- "Entity integrity: key and its class non-null;" a row is empty where no cell of it is other than (0, 255)
  pub entity-key : (r l i k : ℕ) → T r l i k ≢ nocell → ((T r l i 1).value ≢ 0) × ((T r l i 1).class ≢ 255)
  -- "every other non-null class dominates the key's class."
  pub entity-class : (r l i k : ℕ) → (T r l i k).class ≢ 255 → over d (T r l i k).class (T r l i 1).class ≡ true
  -- "Polyinstantiation: one row per key at each level of a relation;"
  pub one-row : (r l i j : ℕ) → (T r l i 1).value ≢ 0 → (T r l i 1).value ≡ (T r l j 1).value → i ≡ j
  -- "within one entity and column, equal classes mean equal values. Null and 255 count as values here"
  pub one_value : (r l m i j k : ℕ) → (T r l i 1).value ≢ 0 → T r l i 1 ≡ T r m j 1 → (T r l i k).class ≡ (T r m j k).class → (T r l i k).value ≡ (T r m j k).value
  -- "Data-borrow: a non-null value of class c below TC, the key included, equals the one held with class c in that entity's row at c, which
  -- exists." (Form has c dominated by TC.)
  pub borrow : (r l i k : ℕ) → (T r l i k).value ≢ 0 → (T r l i k).class ≢ l
      → (j : ℕ) × (T r (T r l i k).class j 1 ≡ T r l i 1) × (T r (T r l i k).class j k ≡ T r l i k)
  -- "Foreign key integrity holds by itself with one column": it asks that a foreign key's columns be null together and of one class.
  -- "Referential, part 1: a non-null reference has a row with that key at the SAME level in the referred relation, whose key class is
  -- dominated by the reference's class."
  pub reference : (r l i k : ℕ) → k ≡ foreign_of d r → (T r l i k).value ≢ 0
      → (j : ℕ) × ((T (refers_of d r) l j 1).value ≡ (T r l i k).value) × (over d (T r l i k).class (T (refers_of d r) l j 1).class ≡ true)
  -- "Part 2: where the reference is borrowed from c, the rows it names at TC and at c are one entity."
  pub one-entity : (r l i k j m : ℕ) → k ≡ foreign_of d r → (T r l i k).value ≢ 0 → (T r l i k).class ≢ l
      → (T (refers_of d r) l j 1).value ≡ (T r l i k).value → (T (refers_of d r) (T r l i k).class m 1).value ≡ (T r l i k).value
      → T (refers_of d r) l j 1 ≡ T (refers_of d r) (T r l i k).class m 1

abbrev pub LegalState : Description → State → Type 0
LegalState d S = Legal d (rows_of S)

-- the pages of all levels are legal: their cells are
abbrev pub LegalPages : Description → Pages → Type 0
LegalPages d P = LegalState d (cells_of P)
