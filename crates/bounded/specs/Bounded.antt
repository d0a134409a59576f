-- Searches, quantifiers, counts, sums and folds over the numbers below a bound. Each goes up to the bound as a loop does, its last turn last.
-- Assumes nothing: these are definitions.
use Rattle.std.specs.Prelude.{ℕ, zero, suc, ◌+◌, Bool, true, false, ◌&&◌, ◌||◌, ltb, if◌then◌else◌, Option, Some, None}

-- the least number below n at which p holds; n where there is none
unfoldable pub first_below : ℕ → (ℕ → Bool) → ℕ
first_below zero p = zero
first_below (suc n) p = let k = first_below n p in if ltb k n then k else if p n then n else suc n

-- k where it is below n, else none: what a search among n came to that leads to k
unfoldable pub some_below : ℕ → ℕ → Option ℕ
some_below n k = if ltb k n then Some k else None

-- p holds at each number below n
unfoldable pub all_below : ℕ → (ℕ → Bool) → Bool
all_below zero p = true
all_below (suc n) p = all_below n p && p n

-- p holds at some number below n
unfoldable pub any_below : ℕ → (ℕ → Bool) → Bool
any_below zero p = false
any_below (suc n) p = any_below n p || p n

-- at how many numbers below n p holds
unfoldable pub count_below : ℕ → (ℕ → Bool) → ℕ
count_below zero p = zero
count_below (suc n) p = count_below n p + (if p n then 1 else 0)

-- f 0 + f 1 + .. + f (n - 1)
unfoldable pub sum_below : ℕ → (ℕ → ℕ) → ℕ
sum_below zero f = zero
sum_below (suc n) f = sum_below n f + f n

-- a, changed by f 0, then by f 1, .., then by f (n - 1)
unfoldable pub fold_below {ℓ} : {A : Type ℓ} → ℕ → (ℕ → A → A) → A → A
fold_below zero f a = a
fold_below (suc n) f a = f n (fold_below n f a)
