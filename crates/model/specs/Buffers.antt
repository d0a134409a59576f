-- The border between the two lent buffers and the tables (01, "Relations, cells, buffers").
-- Assumes nothing: these are definitions.
use Rattle.std.specs.Prelude.{ℕ, suc, pred, ◌+◌, ◌*◌, Bool, ◌&&◌, List, eqb, ltb, length, get_or, if◌then◌else◌}
use Rattle.bounded.specs.Lists.{list_below, concat_below}
use Rattle.model.specs.declared.Description.{Description}
use Rattle.model.specs.Description.{is_level, is_column, column_count, row_count, start_of, total_of}
use Rattle.model.specs.Tables.{Tables, cell, nocell, State}

-- "One lent buffer holds values, one (bytes) holds classes"
pub record Buffers : Type 0 where
  pub values : List ℕ
  pub classes : List ℕ

-- two lists as these buffers
abbrev pub holding : List ℕ → List ℕ → Buffers
holding values classes = record { values = values; classes = classes }

-- each is as long as there are cells
unfoldable pub fitting : Description → Buffers → Bool
fitting d b = eqb (length b.values) (total_of d) && eqb (length b.classes) (total_of d)

unfoldable pub inside : Description → ℕ → ℕ → ℕ → ℕ → Bool
inside d r l i k = is_column d r k && (is_level d l && ltb i (row_count d r))

-- "ordered by relation, level, row, column": where a cell stands
unfoldable pub position_of : Description → ℕ → ℕ → ℕ → ℕ → ℕ
position_of d r l i k = start_of d r + ((l * row_count d r + i) * column_count d r + pred k)

-- the rows that two lists hold, by relation, level and row
unfoldable pub rows_in : Description → List ℕ → List ℕ → Tables
rows_in d values classes r l i k =
    let p = position_of d r l i k in
    if inside d r l i k then cell (get_or values p 0) (get_or classes p 0) else nocell

-- the tables that two buffers hold
unfoldable pub state_of : Description → Buffers → State
state_of d b l = record { rows = λ r i. rows_in d b.values b.classes r l i }

-- a number for each cell, in the buffers' order
unfoldable pub in_order : Description → (ℕ → ℕ → ℕ → ℕ → ℕ) → List ℕ
in_order d f =
    concat_below (suc d.relations) (λ r. concat_below d.levels (λ l. concat_below (row_count d r) (λ i.
    list_below (column_count d r) (λ k. f r l i (suc k)))))

-- the two buffers that hold tables
unfoldable pub buffers_of : Description → State → Buffers
buffers_of d S =
    record {
      values = in_order d (λ r l i k. ((S l).rows r i k).value);
      classes = in_order d (λ r l i k. ((S l).rows r i k).class);
    }
