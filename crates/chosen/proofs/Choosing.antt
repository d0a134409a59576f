-- The rows at the subject's level, those that are chosen.
-- Assumes nothing.
use Prim.Native.Nat.{ℕ, ◌+◌}
use mathlib.Core.Path.{◌≡◌, ap, ap₂, ◌∙◌}
use mathlib.Core.Bool.{Bool, true, false}
use mathlib.Core.List.{List}
use lib.ListN.{get_or}
use Rattle.model.specs.declared.Description.{Description}
use Rattle.model.specs.Tables.{Row, State}
use Rattle.model.specs.Buffers.{holding, state_of}
use Rattle.cells.specs.Changed.{with_row, change_level}
use Rattle.cells.proofs.Changes.{change-same}
use Rattle.cells.proofs.Written.{row_same}
use Rattle.above.specs.Facts.{with_rows}
use Rattle.above.proofs.Turns.{rows_more, rows-still}
use Rattle.chosen.specs.Choosing.{row_chosen}

module _ (d : Description) (l m r : ℕ) (chosen : List Bool) (F : Row → Row) where
  abbrev held : List ℕ → List ℕ → State
  held vs cs = state_of d (holding vs cs)

  -- the rows of S with those done that are chosen
  abbrev after : State → ℕ → Row
  after S i = row_chosen chosen F i ((S l).rows r i)

  next : (n : ℕ) (S : State) {S' S'' : State} → S' ≡ change_level l (with_rows n m r (after S)) S
      → S'' ≡ change_level l (with_row m r n (after S' n)) S' → S'' ≡ change_level l (with_rows (n + 1) m r (after S)) S
  next n S p q = rows_more l n m r (after S) S p q (ap (row_chosen chosen F n) (rows-still l n m r (after S) S p))

  -- the buffers are now us and ds
  module _ (n : ℕ) (vs cs vs' cs' : List ℕ) {us ds : List ℕ} (p : held vs' cs' ≡ change_level l (with_rows n m r (after (held vs cs))) (held vs cs)) where
    -- row n is chosen, and it is done
    pub more-chosen : {us' ds' : List ℕ} → us ≡ us' → ds ≡ ds' → get_or chosen n false ≡ true
        → held us' ds' ≡ change_level l (with_row m r n (F ((held vs' cs' l).rows r n))) (held vs' cs')
        → held us ds ≡ change_level l (with_rows (n + 1) m r (after (held vs cs))) (held vs cs)
    unfolding row_chosen
    more-chosen e f t q = ap₂ held e f ∙ next n (held vs cs) p (rw t q)

    -- it isn't, and it stays
    pub more-unchosen : us ≡ vs' → ds ≡ cs' → get_or chosen n false ≡ false
        → held us ds ≡ change_level l (with_rows (n + 1) m r (after (held vs cs))) (held vs cs)
    unfolding row_chosen
    more-unchosen e f t =
        ap₂ held e f
        ∙ next n (held vs cs) p (change-same l (with_row m r n (after (held vs' cs') n)) (held vs' cs') (row_same m r n (after (held vs' cs') n) (held vs' cs' l) (λ k. rw t)))
