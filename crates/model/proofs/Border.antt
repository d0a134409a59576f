-- The border between buffers and tables, both ways: buffers of the right lengths are those of the tables that they hold, and tables that are
-- empty outside the description are those of their buffers.
-- Assumes nothing.
use mathlib.Core.Path.{◌≡◌, refl, sym, ap, ap₂, ◌∙◌, fun_ext}
use mathlib.Core.Bool.{true, false}
use mathlib.Core.List.{List}
use Prim.Native.Nat.{ℕ, suc, pred, ◌+◌, ◌*◌, ◌≤◌, ◌<◌}
use native.Mathlib.Nat.{add_assoc, add-mul, mul_assoc, mul-le-mul_right}
use native.Mathlib.Omega.{arith}
use lib.ListN.{length, take, drop, get_or}
use lib.Seq.{take-length, drop-drop}
use borrow.Author.Tests.{lt-ltb, le-leb}
use Rattle.bounded.specs.Bounded.{sum_below}
use Rattle.bounded.specs.Lists.{list_below, concat_below}
use Rattle.bounded.proofs.Cases.{cases}
use Rattle.bounded.proofs.Parts.{Starts, starts-room, parts-length, parts_at, list_at, parts_join, list-join}
use Rattle.bounded.proofs.Lists.{list_length}
use Rattle.bounded.proofs.Reflection.{is_true, of-true, and_r, eqb-r, leb-r, ltb-r}
use Rattle.model.specs.declared.Description.{Description}
use Rattle.model.specs.Description.{between, is_level, is_relation, of_relation, column_count, row_count, is_column, size_of, start_of, total_of}
use Rattle.model.specs.Tables.{Cell, cell, nocell, State}
use Rattle.model.specs.Buffers.{Buffers, fitting, inside, position_of, rows_in, state_of, in_order, buffers_of}

-- ---- where parts begin

-- parts of one size
rows_start : (m : ℕ) → Starts (λ i. i * m) (λ _. m)
rows_start m = record { first = omega arith; next = λ i. omega arith }

relations-start : (d : Description) → Starts (start_of d) (size_of d)
unfolding start_of sum_below
relations-start d = record { first = refl; next = λ i. refl }

-- a row's place among all rows of a relation, and a cell's among its cells
digits : (m n l i p : ℕ) → (l * n + i) * m + p ≡ l * (n * m) + (i * m + p)
digits m n l i p = rw (add-mul, mul_assoc, add_assoc)

size_is : (d : Description) (r : ℕ) → size_of d r ≡ d.levels * (row_count d r * column_count d r)
unfolding size_of
size_is d r = mul_assoc d.levels (row_count d r) (column_count d r)

position-is : (d : Description) (r l i k : ℕ) → position_of d r l i (suc k) ≡ start_of d r + l * (row_count d r * column_count d r) + i * column_count d r + k
unfolding position_of
position-is d r l i k = omega (arith, digits (column_count d r) (row_count d r) l i k)

-- ---- what `inside` says

pub record Inside (d : Description) (r l i k : ℕ) : Type 0 where
  pub relation : r < suc d.relations
  pub level : l < d.levels
  pub row : i < row_count d r
  pub least : 0 < k
  pub column : k ≤ column_count d r

some-columns : (d : Description) (r : ℕ) → 0 < column_count d r → r ≤ d.relations
unfolding column_count of_relation is_relation between
some-columns d r h =
    cases (is_relation d r)
    (λ t. (of-true (and_r (leb-r 1 r) (leb-r r d.relations)) t).1)
    (λ t. absurd (omega (arith, rw t at h)))

pub inside-says : (d : Description) (r l i k : ℕ) → inside d r l i k ≡ true → Inside d r l i k
unfolding inside is_column between is_level
inside-says d r l i k t =
    let h = of-true (and_r (and_r (leb-r 1 k) (leb-r k (column_count d r))) (and_r (ltb-r l d.levels) (ltb-r i (row_count d r)))) t in
    let column : 0 < column_count d r = omega (arith, h.0.0, h.0.1) in
    record {
      relation = omega (arith, some-columns d r column);
      level = h.1.0;
      row = h.1.1;
      least = h.0.0;
      column = h.0.1;
    }

pub inside-shown : (d : Description) (r l i k : ℕ) → Inside d r l i k → inside d r l i k ≡ true
unfolding inside is_column between is_level
inside-shown d r l i k h =
    rw (le-leb 1 k h.least, le-leb k (column_count d r) h.column, lt-ltb l d.levels h.level, lt-ltb i (row_count d r) h.row)

-- ---- a number for each cell

module _ (d : Description) (f : ℕ → ℕ → ℕ → ℕ → ℕ) where
  abbrev row_part : ℕ → ℕ → ℕ → List ℕ
  row_part r l i = list_below (column_count d r) (λ k. f r l i (suc k))

  abbrev level_part : ℕ → ℕ → List ℕ
  level_part r l = concat_below (row_count d r) (row_part r l)

  abbrev relation_part : ℕ → List ℕ
  relation_part r = concat_below d.levels (level_part r)

  row-length : (r l i : ℕ) → length (row_part r l i) ≡ column_count d r
  row-length r l i = list_length (column_count d r) (λ k. f r l i (suc k))

  level-length : (r l : ℕ) → length (level_part r l) ≡ row_count d r * column_count d r
  level-length r l = parts-length (rows_start (column_count d r)) (row_count d r) (row_part r l) (row-length r l)

  relation-length : (r : ℕ) → length (relation_part r) ≡ size_of d r
  relation-length r =
      parts-length (rows_start (row_count d r * column_count d r)) d.levels (level_part r) (level-length r)
      ∙ sym (size_is d r)

  pub order-length : length (in_order d f) ≡ total_of d
  unfolding in_order total_of
  order-length = parts-length (relations-start d) (suc d.relations) relation_part relation-length

  -- it stands at the cell's place
  pub order-at : (r l i k : ℕ) → Inside d r l i k → get_or (in_order d f) (position_of d r l i k) 0 ≡ f r l i k
  unfolding in_order position_of
  order-at r l i k h =
      let m = row_count d r * column_count d r in
      let column : pred k < column_count d r = omega (arith, h.column, h.least) in
      let row : i * column_count d r + pred k < m = omega (arith, mul-le-mul_right (column_count d r) h.row) in
      let level : l * m + (i * column_count d r + pred k) < d.levels * m = omega (arith, mul-le-mul_right m h.level) in
      let relation : l * m + (i * column_count d r + pred k) < size_of d r = rw size_is level in
      ap (λ (p : ℕ). get_or (in_order d f) (start_of d r + p) 0) (digits (column_count d r) (row_count d r) l i (pred k))
      ∙ parts_at (relations-start d) (suc d.relations) relation_part relation-length r (l * m + (i * column_count d r + pred k)) 0 h.relation relation
      ∙ parts_at (rows_start m) d.levels (level_part r) (level-length r) l (i * column_count d r + pred k) 0 h.level row
      ∙ parts_at (rows_start (column_count d r)) (row_count d r) (row_part r l) (row-length r l) i (pred k) 0 h.row column
      ∙ list_at (column_count d r) (λ k. f r l i (suc k)) (pred k) 0 column
      ∙ ap (f r l i) (omega (arith, h.least))

  -- a list that has each cell's number at its place is this one
  pub order-of : (xs : List ℕ) → length xs ≡ total_of d → ((r l i k : ℕ) → Inside d r l i k → f r l i k ≡ get_or xs (position_of d r l i k) 0) → in_order d f ≡ xs
  unfolding in_order total_of
  order-of xs e same =
      parts_join (relations-start d) (suc d.relations) relation_part xs relation-is
      ∙ ap (λ (n : ℕ). take n xs) (sym e)
      ∙ take-length xs
    where
      row_is : (r l i : ℕ) → r < suc d.relations → l < d.levels → i < row_count d r
          → row_part r l i ≡ take (column_count d r) (drop (start_of d r + l * (row_count d r * column_count d r) + i * column_count d r) xs)
      row_is r l i hr hl hi =
          list-join (column_count d r) (start_of d r + l * (row_count d r * column_count d r) + i * column_count d r) (λ k. f r l i (suc k)) xs 0
          (
          omega (
            arith,
            starts-room (relations-start d) (suc d.relations) r hr,
            size_is d r,
            mul-le-mul_right (column_count d r) hi,
            mul-le-mul_right (row_count d r * column_count d r) hl,
          )
          )
          (λ k h. same r l i (suc k) (record { relation = hr; level = hl; row = hi; least = omega arith; column = h }) ∙ ap (λ (p : ℕ). get_or xs p 0) (position-is d r l i k))

      level-is : (r l : ℕ) → r < suc d.relations → l < d.levels
          → level_part r l ≡ take (row_count d r * column_count d r) (drop (start_of d r + l * (row_count d r * column_count d r)) xs)
      level-is r l hr hl =
          parts_join (rows_start (column_count d r)) (row_count d r) (row_part r l) (drop (start_of d r + l * (row_count d r * column_count d r)) xs)
          (λ i hi. row_is r l i hr hl hi ∙ ap (take (column_count d r)) (sym (drop-drop (i * column_count d r) (start_of d r + l * (row_count d r * column_count d r)) xs)))

      relation-is : (r : ℕ) → r < suc d.relations → relation_part r ≡ take (size_of d r) (drop (start_of d r) xs)
      relation-is r hr =
          parts_join (rows_start (row_count d r * column_count d r)) d.levels (level_part r) (drop (start_of d r) xs)
          (λ l hl. level-is r l hr hl ∙ ap (take (row_count d r * column_count d r)) (sym (drop-drop (l * (row_count d r * column_count d r)) (start_of d r) xs)))
          ∙ ap (λ (n : ℕ). take n (drop (start_of d r) xs)) (sym (size_is d r))

-- ---- both ways

pub rows-outside : (d : Description) (values classes : List ℕ) (r l i k : ℕ) → inside d r l i k ≡ false → rows_in d values classes r l i k ≡ nocell
unfolding rows_in
rows-outside d values classes r l i k e = rw e

-- outside the description tables are empty
pub record Framed (d : Description) (S : State) : Type 0 where
  pub outside : (r l i k : ℕ) → inside d r l i k ≡ false → (S l).rows r i k ≡ nocell

pub state-framed : (d : Description) (b : Buffers) → Framed d (state_of d b)
unfolding state_of
state-framed d b = record { outside = rows-outside d b.values b.classes }

state-inside : (d : Description) (b : Buffers) (r l i k : ℕ) → Inside d r l i k
    → (state_of d b l).rows r i k ≡ cell (get_or b.values (position_of d r l i k) 0) (get_or b.classes (position_of d r l i k) 0)
unfolding state_of rows_in
state-inside d b r l i k h = rw (inside-shown d r l i k h)

pub buffers-state : (d : Description) (b : Buffers) → fitting d b ≡ true → buffers_of d (state_of d b) ≡ b
unfolding buffers_of fitting
buffers-state d b e =
    let h = of-true (and_r (eqb-r (length b.values) (total_of d)) (eqb-r (length b.classes) (total_of d))) e in
    let values = order-of d (λ r l i k. ((state_of d b l).rows r i k).value) b.values h.0 (λ r l i k m. ap (λ (x : Cell). x.value) (state-inside d b r l i k m)) in
    let classes = order-of d (λ r l i k. ((state_of d b l).rows r i k).class) b.classes h.1 (λ r l i k m. ap (λ (x : Cell). x.class) (state-inside d b r l i k m)) in
    λ j. record { values = values j; classes = classes j }

pub state-buffers : (d : Description) (S : State) → Framed d S → state_of d (buffers_of d S) ≡ S
unfolding buffers_of
state-buffers d S framed = fun_ext (λ l. ap (λ (B : ℕ → ℕ → ℕ → Cell). record { rows = B }) (fun_ext (λ r. fun_ext (λ i. fun_ext (λ k. at-cell l r i k)))))
  where
    at-cell : (l r i k : ℕ) → (state_of d (buffers_of d S) l).rows r i k ≡ (S l).rows r i k
    at-cell l r i k =
        cases (inside d r l i k)
        (λ t.
        let h = inside-says d r l i k t in
        state-inside d (buffers_of d S) r l i k h
        ∙ ap₂ cell (order-at d (λ r l i k. ((S l).rows r i k).value) r l i k h) (order-at d (λ r l i k. ((S l).rows r i k).class) r l i k h))
        (λ f. (state-framed d (buffers_of d S)).outside r l i k f ∙ sym (framed.outside r l i k f))

pub buffers-fit : (d : Description) (S : State) → fitting d (buffers_of d S) ≡ true
unfolding fitting buffers_of
buffers-fit d S =
    is_true (and_r (eqb-r (length (buffers_of d S).values) (total_of d)) (eqb-r (length (buffers_of d S).classes) (total_of d)))
    (order-length d (λ r l i k. ((S l).rows r i k).value), order-length d (λ r l i k. ((S l).rows r i k).class))
