-- The records that describe the tables: kind 1, the labels, and kind 2, a relation (01, "mlrun").
-- Assumes nothing: these are definitions.
use Rattle.std.specs.Prelude.{ℕ, suc, ◌+◌, ◌*◌, ◌-◌, ◌/◌, ◌%◌, min, Bool, List, eqb, ltb, length, set, replicate, if◌then◌else◌}
use Rattle.bounded.specs.Lists.{list_below, write_at}
use Rattle.model.specs.declared.Description.{Description}
use Rattle.records.specs.Bytes.{pair}

-- before any record
unfoldable pub nothing : Description
nothing =
    record {
      levels = 0;
      labels = replicate 16 0;
      relations = 0;
      columns = replicate 9 0;
      rows = replicate 9 0;
      foreign = replicate 9 0;
      refers = replicate 9 0;
      low = replicate 81 0;
      high = replicate 81 0;
    }

-- ---- "1: labels."

-- any number of labels
unfoldable pub is_labels : List ℕ → Bool
is_labels bytes = eqb (length bytes % 2) 0

-- how many: a whole record holds at most 512
unfoldable pub label_count : List ℕ → ℕ
label_count bytes = min ((length bytes - 4) / 2) 512

-- the label of a level, 0 where there is none
unfoldable pub label_at : List ℕ → ℕ → ℕ
label_at bytes level = if ltb level (label_count bytes) then pair bytes (4 + 2 * level) else 0

unfoldable pub labels_of : List ℕ → List ℕ
labels_of bytes = list_below 16 (λ level. label_at bytes level)

-- the description with these labels; it holds sixteen, and counts all
unfoldable pub labelled : Description → List ℕ → Description
labelled d bytes =
    record {
      levels = label_count bytes;
      labels = labels_of bytes;
      relations = d.relations;
      columns = d.columns;
      rows = d.rows;
      foreign = d.foreign;
      refers = d.refers;
      low = d.low;
      high = d.high;
    }

-- ---- "2: columns, rows per level, foreign column, referred relation (0 0: none, else both non-zero), then L, H per column."

unfoldable pub is_related : List ℕ → Bool
is_related bytes = eqb (length bytes) (12 + 4 * pair bytes 4)

-- the ends of the ranges, from a place on: it holds eight columns
unfoldable pub ends : List ℕ → ℕ → List ℕ
ends bytes at = list_below (min (pair bytes 4) 8) (λ k. pair bytes (at + 4 * k))

-- the description with one relation more, as the record has it
unfoldable pub with_relation : Description → ℕ → List ℕ → Description
with_relation d r bytes =
    record {
      levels = d.levels;
      labels = d.labels;
      relations = r;
      columns = set d.columns r (pair bytes 4);
      rows = set d.rows r (pair bytes 6);
      foreign = set d.foreign r (pair bytes 8);
      refers = set d.refers r (pair bytes 10);
      low = write_at (9 * r + 1) (ends bytes 12) d.low;
      high = write_at (9 * r + 1) (ends bytes 14) d.high;
    }

-- the description with too many relations; it holds eight, and nine stand for any number over eight
unfoldable pub overfull : Description → Description
overfull d =
    record {
      levels = d.levels;
      labels = d.labels;
      relations = 9;
      columns = d.columns;
      rows = d.rows;
      foreign = d.foreign;
      refers = d.refers;
      low = d.low;
      high = d.high;
    }

unfoldable pub related : Description → List ℕ → Description
related d bytes = if ltb d.relations 8 then with_relation d (suc d.relations) bytes else overfull d
