-- The laws of dominance: all that may be relied on outside this crate. proofs/Laws.antt and proofs/Levels.antt prove them.
-- Assumes nothing: these are statements.
use Rattle.std.specs.Prelude.{ℕ, ◌<◌, ◌≤◌, ◌≡◌, ◌≢◌, Bool, true, false, List, [], length, get_or}
use Rattle.level.specs.Label.{dominates, bottom_label, height_of}
use Rattle.level.specs.Order.{level_dominates, order_of, entry_of}

-- Of labels: every natural number is one here.
pub record LabelLaws : Type 0 where
  pub reflexive : (a : ℕ) → dominates a a ≡ true
  pub transitive : (a b c : ℕ) → dominates a b ≡ true → dominates b c ≡ true → dominates a c ≡ true
  pub antisymmetric : (a b : ℕ) → dominates a b ≡ true → dominates b a ≡ true → a ≡ b
  pub bottom : (a : ℕ) → dominates a bottom_label ≡ true
  -- "so strict dominance means greater height"
  pub higher : (a b : ℕ) → dominates a b ≡ true → a ≢ b → height_of b < height_of a
  -- a label "0 to 4095" has a rank of at most 15 and at most 8 compartments
  pub low : (a : ℕ) → a ≤ 4095 → height_of a < 24

-- "Each has a distinct label": no two of the first n labels are one.
pub record Distinct (labels : List ℕ) (n : ℕ) : Type 0 where
  pub one : (a b : ℕ) → a < n → b < n → get_or labels a 0 ≡ get_or labels b 0 → a ≡ b

-- Of the n levels that distinct labels give.
pub record LevelLaws (labels : List ℕ) (n : ℕ) : Type 0 where
  pub within : (a b : ℕ) → level_dominates labels n a b ≡ true → (a < n) × (b < n)
  pub reflexive : (a : ℕ) → a < n → level_dominates labels n a a ≡ true
  pub transitive : (a b c : ℕ) → level_dominates labels n a b ≡ true → level_dominates labels n b c ≡ true → level_dominates labels n a c ≡ true
  pub antisymmetric : (a b : ℕ) → level_dominates labels n a b ≡ true → level_dominates labels n b a ≡ true → a ≡ b
  pub higher : (a b : ℕ) → level_dominates labels n a b ≡ true → a ≢ b → height_of (get_or labels b 0) < height_of (get_or labels a 0)

-- Of the order that is laid out; `read` is of any list of rows.
pub record OrderLaws (labels : List ℕ) (n : ℕ) : Type 0 where
  pub inside : (a b : ℕ) → a < 16 → b < 16 → entry_of (order_of labels n) a b ≡ level_dominates labels n a b
  pub outside : (a b : ℕ) → (a < 16 → b < 16 → ⊥) → entry_of (order_of labels n) a b ≡ false
  pub entries : n ≤ 16 → (a b : ℕ) → entry_of (order_of labels n) a b ≡ level_dominates labels n a b
  -- each row has 16 entries
  pub long : (a : ℕ) → a < 16 → length (get_or (order_of labels n) a []) ≡ 16
  -- inside the 16 by 16, an entry is read row first
  pub read : (order : List (List Bool)) (a b : ℕ) → a < 16 → b < 16 → entry_of order a b ≡ get_or (get_or order a []) b false
