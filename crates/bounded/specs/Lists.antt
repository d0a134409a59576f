-- Lists made of what stands at each number below a bound, and a list with a piece written into it.
-- Assumes nothing: these are definitions.
use Rattle.std.specs.Prelude.{List, [], ◌∷◌, ◌++◌, ℕ, zero, suc, ◌+◌, length, take, drop}

-- f 0, f 1, .., f (n - 1)
unfoldable pub list_below : {A : Type 0} → ℕ → (ℕ → A) → List A
list_below zero f = []
list_below (suc n) f = list_below n f ++ (f n ∷ [])

-- g 0, then g 1, .., then g (n - 1), as one list
unfoldable pub concat_below : {A : Type 0} → ℕ → (ℕ → List A) → List A
concat_below zero g = []
concat_below (suc n) g = concat_below n g ++ g n

-- the list d with s written over it from place n on
unfoldable pub write_at : {A : Type 0} → ℕ → List A → List A → List A
write_at n s d = take n d ++ (s ++ drop (n + length s) d)
