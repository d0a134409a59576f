-- Where cells stand: below the total, no two at one place.
-- Assumes nothing.
use Prim.Native.Nat.{ℕ, pred, ◌+◌, ◌-◌, ◌*◌, ◌≤◌, ◌<◌}
use mathlib.Core.Path.{◌≡◌, sym, ap, ◌∙◌}
use native.Mathlib.Nat.{mul-le-mul_left}
use native.Mathlib.Decide.{dec_lt}
use native.Mathlib.Numerals.{sub-one}
use native.Mathlib.Omega.{arith}
use lib.ListN.{get_or, get_or-eq_default}
use Rattle.model.specs.declared.Description.{Description}
use Rattle.model.specs.Description.{total_of, row_count, column_count, start_of}
use Rattle.model.specs.Buffers.{position_of, in_order}
use Rattle.cells.specs.Laid.{Laid}
use Rattle.model.proofs.Border.{Inside, order-at, order-length}

-- the place holds a number that is not what stands behind the end
pub position-below : (d : Description) (r l i k : ℕ) → Inside d r l i k → position_of d r l i k < total_of d
position-below d r l i k h = go (dec_lt (position_of d r l i k) (total_of d))
  where
    ones : ℕ → ℕ → ℕ → ℕ → ℕ
    ones r l i k = 1

    go : Dec (position_of d r l i k < total_of d) → position_of d r l i k < total_of d
    go (yes m) = m
    go (no n) =
        absurd (
        omega (
          arith,
          order-at d ones r l i k h,
          get_or-eq_default (in_order d ones) 0 {n = position_of d r l i k} (omega (arith, order-length d ones)),
        )
        )

-- two cells at one place are one cell
pub record Same (r l i k s m j n : ℕ) : Type 0 where
  pub relation : r ≡ s
  pub level : l ≡ m
  pub row : i ≡ j
  pub column : k ≡ n

pub position-one : (d : Description) (r l i k s m j n : ℕ) → Inside d r l i k → Inside d s m j n → position_of d r l i k ≡ position_of d s m j n → Same r l i k s m j n
position-one d r l i k s m j n h g e = record {
  relation = by (λ r l i k. r);
  level = by (λ r l i k. l);
  row = by (λ r l i k. i);
  column = by (λ r l i k. k);
}
  where
    by : (f : ℕ → ℕ → ℕ → ℕ → ℕ) → f r l i k ≡ f s m j n
    by f = sym (order-at d f r l i k h) ∙ ap (λ (p : ℕ). get_or (in_order d f) p 0) e ∙ order-at d f s m j n g

-- every number on the way to a place is small, and the place is the cell's
pub record Small (d : Description) (r s n m l i k : ℕ) : Type 0 where
  pub rows : l * n + i < 8192
  pub cells : (l * n + i) * m + (k - 1) < 8192
  pub is : s + ((l * n + i) * m + (k - 1)) ≡ position_of d r l i k
  pub below : position_of d r l i k < total_of d
  pub total : total_of d ≤ 8192

pub small : (d : Description) (r s n m l i k : ℕ) → Laid d r s n m → Inside d r l i k → Small d r s n m l i k
unfolding position_of
small d r s n m l i k t h =
    let b : start_of d r + ((l * row_count d r + i) * column_count d r + pred k) < total_of d = position-below d r l i k h in
    let c : 1 ≤ column_count d r = omega (arith, h.least, h.column) in
    record {
      rows = rw t.rows (omega (arith, t.total, mul-le-mul_left (l * row_count d r + i) c));
      cells = rw (t.rows, t.columns, sub-one) (omega (arith, t.total));
      is = rw (t.start, t.rows, t.columns, sub-one);
      below = b;
      total = t.total;
    }
