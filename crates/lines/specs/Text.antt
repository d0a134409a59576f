-- A number as text, in ASCII bytes.
-- Assumes nothing: these are definitions.
use Rattle.std.specs.Prelude.{ℕ, zero, suc, ◌+◌, ◌/◌, ◌%◌, List, [], ◌∷◌, ◌++◌, ltb, if◌then◌else◌}

-- the byte of a digit
unfoldable pub digit : ℕ → ℕ
digit n = 48 + n

-- the decimal digits of n, as many as turns allow
unfoldable pub digits_in : ℕ → ℕ → List ℕ
digits_in zero n = []
digits_in (suc turns) n = if ltb n 10 then digit n ∷ [] else digits_in turns (n / 10) ++ (digit (n % 10) ∷ [])

-- the decimal digits of n, with no nought in front; each turn takes one digit off, so n and one turns are enough
unfoldable pub decimal : ℕ → List ℕ
decimal n = digits_in (suc n) n
