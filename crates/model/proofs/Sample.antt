-- 01's `mlrun` sample as statements: two levels, one relation of two columns.
-- Assumes nothing.
use mathlib.Core.Path.{◌≡◌, refl}
use mathlib.Core.List.{[], ◌∷◌}
use lib.ListN.{replicate}
use Rattle.model.specs.declared.Description.{Description}
use Rattle.std.specs.Prelude.{Ok}
use Rattle.model.specs.Tables.{cell, nocell}
use Rattle.model.proofs.Computed.{computed}
use Rattle.model.proofs.Build.{insert_at, uplevel_at, select_at, laid_out, lent, last}

-- labels 0 and 1; two columns, two rows a level, no foreign key, ranges 0 to 1
abbrev pair : Description
pair =
    record {
      levels = 2;
      labels = 0 ∷ 1 ∷ replicate 14 0;
      relations = 1;
      columns = 0 ∷ 2 ∷ replicate 7 0;
      rows = 0 ∷ 2 ∷ replicate 7 0;
      foreign = replicate 9 0;
      refers = replicate 9 0;
      low = replicate 81 0;
      high = replicate 81 1;
    }

-- "a 16 0 1", "a 19 0 1", "a 20 0 2", "r 0 7/0 20/0", "r 1 7/0 20/0": the last statement's reply, and the tables; what stands in the output
-- buffers past the two rows stays
pub sample
    : last pair (laid_out (replicate 8 nocell ∷ [])) (insert_at 0 1 (1 ∷ 7 ∷ 2 ∷ 20 ∷ []))
    (uplevel_at 1 1 7 255 (2 ∷ 0 ∷ []) ∷ select_at 1 1 (1 ∷ 0 ∷ []) [] (replicate 5 9) (replicate 7 8) ∷ [])
    ≡ record {
      reply = record {
        answer = Ok 2;
        shown = 7 ∷ 20 ∷ 7 ∷ 20 ∷ 9 ∷ [];
        owners = 0 ∷ 0 ∷ 0 ∷ 0 ∷ 0 ∷ 1 ∷ 8 ∷ [];
      };
      ledger = lent pair (laid_out ((cell 7 0 ∷ cell 20 0 ∷ nocell ∷ nocell ∷ []) ∷ (cell 7 0 ∷ cell 20 0 ∷ nocell ∷ nocell ∷ []) ∷ []));
    }
unfolding computed
sample = refl
