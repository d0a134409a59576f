-- The order of the levels that a list of labels gives (01, "Levels").
-- Assumes nothing: these are definitions.
use Rattle.std.specs.Prelude.{ℕ, zero, suc, Bool, false, ◌&&◌, List, [], ◌∷◌, ltb, get_or}
use Rattle.level.specs.Label.{dominates}

-- "A description lists 1 to 16 levels, numbered from 0. Each has a distinct label": whether level a dominates level b
-- among the first n of these labels. Only levels dominate, and only levels are dominated.
unfoldable pub level_dominates : List ℕ → ℕ → ℕ → ℕ → Bool
level_dominates labels n a b = ltb a n && (ltb b n && dominates (get_or labels a 0) (get_or labels b 0))

-- f 0, f 1, .., n of them
unfoldable pub up_to : {A : Type 0} → ℕ → (ℕ → A) → List A
up_to zero f = []
up_to (suc n) f = f zero ∷ up_to n (λ i. f (suc i))

-- "Which level dominates which, for every pair, is laid out once per call": 16 rows of 16, false past the last level
unfoldable pub row_of : List ℕ → ℕ → ℕ → List Bool
row_of labels n a = up_to 16 (level_dominates labels n a)

unfoldable pub order_of : List ℕ → ℕ → List (List Bool)
order_of labels n = up_to 16 (row_of labels n)

-- the entry for a and b of an order that was laid out, false outside its 16 by 16
unfoldable pub entry_of : List (List Bool) → ℕ → ℕ → Bool
entry_of order a b = ltb a 16 && (ltb b 16 && get_or (get_or order a []) b false)
