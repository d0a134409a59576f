-- A number stored at a cell's place changes that cell and no other.
-- Assumes nothing.
use Rattle.std.specs.Prelude.{if◌then◌else◌}
use Prim.Native.Nat.{ℕ, ◌≤◌, ◌<◌}
use mathlib.Core.Path.{◌≡◌, refl, sym, ap, ap₂, ◌∙◌, fun_ext}
use mathlib.Core.Bool.{Bool, true, false, ◌&&◌}
use mathlib.Core.List.{List}
use native.Mathlib.Omega.{arith}
use lib.Dec.{eqb}
use lib.ListN.{length, get_or, set}
use lib.Seq.{get_or-set_same, get_or-set_other}
use Rattle.bounded.specs.Tests.{Reflects}
use Rattle.bounded.proofs.Cases.{cases}
use Rattle.bounded.proofs.Reflection.{of-true, of-false, and_r, eqb-r, reflects-as}
use Rattle.model.specs.declared.Description.{Description}
use Rattle.model.specs.Description.{total_of, column_count}
use Rattle.model.specs.Tables.{Cell, Row, cell, Level, State}
use Rattle.model.specs.Buffers.{holding, inside, position_of, rows_in, state_of}
use Rattle.model.proofs.Border.{Inside, inside-says, inside-shown}
use Rattle.cells.specs.Layout.{InRow}
use Rattle.cells.specs.Changed.{number_at, value_at, class_at, with_cell, with_value, change_level}
use Rattle.cells.proofs.Places.{Same, position-below, position-one}

-- a cell is what the two buffers hold for it
pub state-cell : (d : Description) (vs cs : List ℕ) (r l i k : ℕ) → (state_of d (holding vs cs) l).rows r i k ≡ cell (value_at d vs r l i k) (class_at d cs r l i k)
unfolding state_of rows_in number_at
state-cell d vs cs r l i k = cases (inside d r l i k) (λ t. rw t) (λ t. rw t)

-- each column of a row has a cell
pub row_inside : (d : Description) (r l i k : ℕ) → InRow d r l i → 0 < k → k ≤ column_count d r → inside d r l i k ≡ true
row_inside d r l i k R h m =
    inside-shown d r l i k (record { relation = R.level.relation; level = R.level.level; row = R.row; least = h; column = m })

-- a number read at its place
pub number-inside : (empty : ℕ) (d : Description) (xs : List ℕ) (r l i k : ℕ) → Inside d r l i k → number_at empty d xs r l i k ≡ get_or xs (position_of d r l i k) 0
unfolding number_at
number-inside empty d xs r l i k h = rw (inside-shown d r l i k h)

number-outside : (empty : ℕ) (d : Description) (xs : List ℕ) (r l i k : ℕ) → inside d r l i k ≡ false → number_at empty d xs r l i k ≡ empty
unfolding number_at
number-outside empty d xs r l i k h = rw h

nested : {A : Type 0} (a b : Bool) (x y : A) → (if a && b then x else y) ≡ (if a then (if b then x else y) else y)
nested true b x y = refl
nested false b x y = refl

-- the cell (s, m, j, n) is the cell (r, l, i, k)
abbrev this : ℕ → ℕ → ℕ → ℕ → ℕ → ℕ → ℕ → ℕ → Bool
this r l i k s m j n = eqb l m && (eqb r s && (eqb i j && eqb k n))

this-r : (r l i k s m j n : ℕ) → Reflects (Same r l i k s m j n) (this r l i k s m j n)
this-r r l i k s m j n =
    reflects-as (λ h. record { relation = h.1.0; level = h.0; row = h.1.1.0; column = h.1.1.1 }) (λ e. (e.level, (e.relation, (e.row, e.column))))
    (and_r (eqb-r l m) (and_r (eqb-r r s) (and_r (eqb-r i j) (eqb-r k n))))

module _ (empty : ℕ) (d : Description) (xs : List ℕ) (r l i k v : ℕ) (h : Inside d r l i k) (e : length xs ≡ total_of d) where
  -- what is held for any cell after a number is stored
  pub number-set : (s m j n : ℕ) → number_at empty d (set xs (position_of d r l i k) v) s m j n ≡ (if this r l i k s m j n then v else number_at empty d xs s m j n)
  number-set s m j n =
      cases (this r l i k s m j n)
      (λ t. rw t (here (of-true (this-r r l i k s m j n) t)))
      (λ t. rw t (cases (inside d s m j n) (λ u. there (of-false (this-r r l i k s m j n) t) (inside-says d s m j n u)) (λ u. nowhere u)))
    where
      here : Same r l i k s m j n → number_at empty d (set xs (position_of d r l i k) v) s m j n ≡ v
      here q =
          rw (← q.relation, ← q.level, ← q.row, ← q.column)
          (number-inside empty d (set xs (position_of d r l i k) v) r l i k h ∙ get_or-set_same xs (position_of d r l i k) v 0 (omega (arith, position-below d r l i k h)))

      there : (Same r l i k s m j n → ⊥) → Inside d s m j n → number_at empty d (set xs (position_of d r l i k) v) s m j n ≡ number_at empty d xs s m j n
      there q g =
          number-inside empty d (set xs (position_of d r l i k) v) s m j n g
          ∙ get_or-set_other xs (position_of d r l i k) (position_of d s m j n) v 0 (λ p. q (position-one d r l i k s m j n h g (sym p)))
          ∙ sym (number-inside empty d xs s m j n g)

      nowhere : inside d s m j n ≡ false → number_at empty d (set xs (position_of d r l i k) v) s m j n ≡ number_at empty d xs s m j n
      nowhere u = number-outside empty d (set xs (position_of d r l i k) v) s m j n u ∙ sym (number-outside empty d xs s m j n u)

-- ---- on tables

-- one level changed at one cell, whatever the change makes of the cell
changed-at : (l : ℕ) (f : Level → Level) (S : State) (m s j n : ℕ) → (change_level l f S m).rows s j n ≡ (if eqb l m then (f (S m)).rows s j n else (S m).rows s j n)
unfolding change_level
changed-at l f S m s j n = cases (eqb l m) (λ t. rw t) (λ t. rw t)

pub state-path : {S T : State} → ((l r i k : ℕ) → (S l).rows r i k ≡ (T l).rows r i k) → S ≡ T
state-path h = fun_ext (λ l. ap (λ (B : ℕ → ℕ → Row). record { rows = B }) (fun_ext (λ r. fun_ext (λ i. fun_ext (λ k. h l r i k)))))

cell-if : (b : Bool) (v w c e : ℕ) → cell (if b then v else w) (if b then c else e) ≡ (if b then cell v c else cell w e)
cell-if true v w c e = refl
cell-if false v w c e = refl

value-if : (b : Bool) (v w c : ℕ) → cell (if b then v else w) c ≡ (if b then cell v c else cell w c)
value-if true v w c = refl
value-if false v w c = refl

module _ (d : Description) (vs cs : List ℕ) (r l i k v : ℕ) (h : Inside d r l i k) (e : length vs ≡ total_of d) where
  abbrev S : State
  S = state_of d (holding vs cs)

  abbrev p : ℕ
  p = position_of d r l i k

  -- a cell is stored
  pub state-put : (c : ℕ) → length cs ≡ total_of d → state_of d (holding (set vs p v) (set cs p c)) ≡ change_level l (with_cell r i k (cell v c)) S
  unfolding with_cell
  state-put c g = state-path at-cell
    where
      at-cell : (m s j n : ℕ) → (state_of d (holding (set vs p v) (set cs p c)) m).rows s j n ≡ (change_level l (with_cell r i k (cell v c)) S m).rows s j n
      at-cell m s j n =
          state-cell d (set vs p v) (set cs p c) s m j n
          ∙ ap₂ cell (number-set 0 d vs r l i k v h e s m j n) (number-set 255 d cs r l i k c h g s m j n)
          ∙ cell-if (this r l i k s m j n) v (value_at d vs s m j n) c (class_at d cs s m j n)
          ∙ ap (λ (x : Cell). if this r l i k s m j n then cell v c else x) (sym (state-cell d vs cs s m j n))
          ∙ nested (eqb l m) (eqb r s && (eqb i j && eqb k n)) (cell v c) ((S m).rows s j n)
          ∙ sym (changed-at l (with_cell r i k (cell v c)) S m s j n)

  -- a cell's value is stored, its class kept
  pub state-value : state_of d (holding (set vs p v) cs) ≡ change_level l (with_value r i k v) S
  unfolding with_value
  state-value = state-path at-cell
    where
      at-cell : (m s j n : ℕ) → (state_of d (holding (set vs p v) cs) m).rows s j n ≡ (change_level l (with_value r i k v) S m).rows s j n
      at-cell m s j n =
          state-cell d (set vs p v) cs s m j n
          ∙ ap (λ (w : ℕ). cell w (class_at d cs s m j n)) (number-set 0 d vs r l i k v h e s m j n)
          ∙ value-if (this r l i k s m j n) v (value_at d vs s m j n) (class_at d cs s m j n)
          ∙ ap (λ (x : Cell). if this r l i k s m j n then cell v x.class else x) (sym (state-cell d vs cs s m j n))
          ∙ nested (eqb l m) (eqb r s && (eqb i j && eqb k n)) (cell v ((S m).rows s j n).class) ((S m).rows s j n)
          ∙ sym (changed-at l (with_value r i k v) S m s j n)
