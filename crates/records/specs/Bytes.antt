-- Numbers in bytes: "records, little-endian" (01, "mlrun"). A byte behind the end counts 0.
-- Assumes nothing: these are definitions.
use Rattle.std.specs.Prelude.{ℕ, ◌+◌, ◌*◌, List, [], ◌∷◌, get_or}
use Rattle.bounded.specs.Lists.{list_below, concat_below}

-- "All fields are two bytes"
unfoldable pub pair : List ℕ → ℕ → ℕ
pair bytes at = get_or bytes at 0 + 256 * get_or bytes (at + 1) 0

-- "but values, keys and constants (four)"
unfoldable pub quad : List ℕ → ℕ → ℕ
quad bytes at = pair bytes at + 65536 * pair bytes (at + 2)

-- n fields of two bytes from a place on
unfoldable pub fields_from : List ℕ → ℕ → ℕ → List ℕ
fields_from bytes at n = list_below n (λ i. pair bytes (at + 2 * i))

-- "n of (column, value)"
abbrev pub cell_at : List ℕ → ℕ → List ℕ
cell_at bytes at = pair bytes at ∷ quad bytes (at + 2) ∷ []

unfoldable pub cells_from : List ℕ → ℕ → ℕ → List ℕ
cells_from bytes at n = concat_below n (λ i. cell_at bytes (at + 6 * i))

-- "n of (column, 0 value or 1 class, test, constant)"
abbrev pub test_at : List ℕ → ℕ → List ℕ
test_at bytes at = pair bytes at ∷ pair bytes (at + 2) ∷ pair bytes (at + 4) ∷ quad bytes (at + 6) ∷ []

unfoldable pub tests_from : List ℕ → ℕ → ℕ → List ℕ
tests_from bytes at n = concat_below n (λ i. test_at bytes (at + 10 * i))
