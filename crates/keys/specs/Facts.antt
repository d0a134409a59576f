-- What is laid out of a description and its tables before the rows are judged.
-- Assumes nothing: these are definitions and statements.
use Rattle.std.specs.Prelude.{◌≡◌, Bool, true, ◌&&◌, ◌||◌, ◌≢◌, List, ℕ, zero, suc, ◌+◌, ◌*◌, ◌/◌, ◌%◌, ◌^◌, ◌≤◌, ◌<◌, eqb, ltb, length, get_or, if◌then◌else◌, Option, Some, None}
use Rattle.bounded.specs.Bounded.{first_below, all_below}
use Rattle.level.specs.Order.{entry_of}
use Rattle.model.specs.declared.Description.{Description}
use Rattle.model.specs.Description.{over, column_count, row_count, start_of}
use Rattle.keys.specs.declared.areas.Area.{Area}

-- ---- where the relations stand

-- where the cells of each relation start; 0 for no relation
pub record Starting (d : Description) (ss : List ℕ) : Type 0 where
  pub long : length ss ≡ 9
  pub right : (r : ℕ) → r ≤ d.relations → get_or ss r 0 ≡ start_of d r
  pub rest : (r : ℕ) → d.relations < r → get_or ss r 0 ≡ 0

-- column k as code counts it, from 0; 0 is no column
unfoldable pub column_at : ℕ → Option ℕ
column_at zero = None
column_at (suc k) = Some k

abbrev pub area_of : Description → List ℕ → ℕ → Area
area_of d ss r =
    record {
      relation = r;
      start = get_or ss r 0;
      levels = d.levels;
      rows = get_or d.rows r 0;
      cols = get_or d.columns r 0;
      foreign = column_at (get_or d.foreign r 0);
    }

-- ---- keys

-- the key of row i, of the keys that stand from `from` on, is v
unfoldable pub has_key : List ℕ → ℕ → ℕ → ℕ → Bool
has_key ks from v i = eqb (get_or ks (from + i) 0) v

-- v stands at most once among n keys
pub record Once (ks : List ℕ) (from n v : ℕ) : Type 0 where
  pub one : (i j : ℕ) → i < n → j < n → has_key ks from v i ≡ true → has_key ks from v j ≡ true → i ≡ j

-- the key of row i is 0, or no row before has it
unfoldable pub first_of : List ℕ → ℕ → ℕ → Bool
first_of ks from i = eqb (get_or ks (from + i) 0) 0 || eqb (first_below i (has_key ks from (get_or ks (from + i) 0))) i

-- where the row of key v is noted, for the keys that stand from `from` on
unfoldable pub slot_of : ℕ → ℕ → ℕ
slot_of from v = 8192 + (17 * from + v) % 8192

-- the places of the first n keys have notes
pub record Noted (ks : List ℕ) (from n : ℕ) : Type 0 where
  pub noted : (i : ℕ) → i < n → get_or ks (from + i) 0 ≢ 0 → get_or ks (slot_of from (get_or ks (from + i) 0)) 0 ≢ 0

-- the first 8192 numbers, the keys, are the same; notes may differ
pub record Kept (before after : List ℕ) : Type 0 where
  pub long : length after ≡ length before
  pub same : (p : ℕ) → p < 8192 → get_or after p 0 ≡ get_or before p 0

-- n keys of a relation were copied to `start` and on; what stood before stays
pub record Gathered (vs before after : List ℕ) (start n m : ℕ) : Type 0 where
  pub long : length after ≡ length before
  pub put : (j : ℕ) → j < n → get_or after (start + j) 0 ≡ get_or vs (start + j * m) 0
  pub kept : (p : ℕ) → p < start → get_or after p 0 ≡ get_or before p 0

-- the keys of the first n relations, each from where the relation's cells start
pub record Keyed (d : Description) (vs : List ℕ) (n : ℕ) (ks : List ℕ) : Type 0 where
  pub long : length ks ≡ 16384
  pub right : (r j : ℕ) → r < n → j < d.levels * row_count d (suc r)
      → get_or ks (start_of d (suc r) + j) 0 ≡ get_or vs (start_of d (suc r) + j * column_count d (suc r)) 0

-- no key stands twice at a level of any relation
unfoldable pub distinct_keys : Description → List ℕ → Bool
distinct_keys d ks =
    all_below d.relations (λ r. all_below d.levels (λ l. all_below (row_count d (suc r)) (first_of ks (start_of d (suc r) + l * row_count d (suc r)))))

-- ---- sets of levels

-- level c is in the set
unfoldable pub has_bit : ℕ → ℕ → Bool
has_bit w c = eqb (w / 2 ^ c % 2) 1

-- the set r is the set w, with b in it where `on`
pub record With (w b : ℕ) (on : Bool) (r : ℕ) : Type 0 where
  pub right : (c : ℕ) → has_bit r c ≡ (if eqb c b then on || has_bit w c else has_bit w c)

-- the set of the levels below m of which f is true
pub record Word (f : ℕ → Bool) (m w : ℕ) : Type 0 where
  pub right : (c : ℕ) → has_bit w c ≡ (ltb c m && f c)

-- in an order that was laid out, level a dominates level b, or, turned, is dominated by it
unfoldable pub pair_of : List (List Bool) → Bool → ℕ → ℕ → Bool
pair_of order turned a b = if turned then entry_of order b a else entry_of order a b

-- the sets of the levels that each of the first n levels dominates, or, turned, is dominated by
pub record Words (order : List (List Bool)) (turned : Bool) (n : ℕ) (ws : List ℕ) : Type 0 where
  pub long : length ws ≡ 16
  pub right : (a : ℕ) → a < n → Word (pair_of order turned a) 16 (get_or ws a 0)

-- the order of the levels as sets: `below` has the levels that each dominates, `above` those that dominate it
pub record Orders (d : Description) (bs us : List ℕ) : Type 0 where
  pub long : length bs ≡ 16
  pub wide : length us ≡ 16
  pub below : (a b : ℕ) → a < 16 → has_bit (get_or bs a 0) b ≡ over d a b
  pub above : (a b : ℕ) → b < 16 → has_bit (get_or us b 0) a ≡ over d a b

-- the set of the levels from `low` to `high`
pub record Within (d : Description) (low high w : ℕ) : Type 0 where
  pub right : (c : ℕ) → has_bit w c ≡ (over d high c && over d c low)

-- the sets of the classes in range, a word for each place of the description's ranges, at the first n places
pub record Ranges (d : Description) (n : ℕ) (ws : List ℕ) : Type 0 where
  pub long : length ws ≡ 81
  pub right : (p : ℕ) → p < n → Within d (get_or d.low p 0) (get_or d.high p 0) (get_or ws p 0)
