-- What UPDATE and DELETE do, where the rows that meet the conditions are chosen.
-- Assumes nothing: these are definitions and statements.
use Rattle.std.specs.Prelude.{◌≡◌, Bool, true, false, not, ◌&&◌, ◌≢◌, List, ℕ, suc, ◌≤◌, ◌<◌, eqb, ltb, length, get_or, if◌then◌else◌}
use Rattle.std.proofs.Math.Option.{none, some}
use Rattle.bounded.specs.Bounded.{any_below}
use Rattle.model.specs.declared.Description.{Description}
use Rattle.model.specs.Description.{row_count, column_count, foreign_of, refers_of}
use Rattle.model.specs.Tables.{Row, nocell, norow, seek}
use Rattle.model.specs.Buffers.{holding, state_of}
use Rattle.model.specs.Listed.{pairs, column_at, listed}
use Rattle.model.specs.Effect.{Rows, Effect, keep, only}
use Rattle.model.specs.Update.{set_in, take_in}
use Rattle.model.specs.Run.{left}
use Rattle.cells.specs.Changed.{value_at, key_place}
use Rattle.cells.specs.Stored.{LevelBecomes, RowBecomes}
use Rattle.above.specs.declared.plan.Change.{Change}
use Rattle.above.specs.declared.plan.Change.TheVariants as Changes
use Rattle.above.specs.Facts.{chosen_at, with_rows}

-- ---- what is listed

-- each column is one of the first m, and none is listed twice
pub record Listing (m : ℕ) (list : List ℕ) : Type 0 where
  pub least : (i : ℕ) → i < pairs list → 0 < column_at list i
  pub most : (i : ℕ) → i < pairs list → column_at list i ≤ m
  pub once : (i j : ℕ) → i < pairs list → j < i → column_at list i ≢ column_at list j

-- nine changes, by column
pub record ByColumn (f : ℕ → Change) (changes : List Change) : Type 0 where
  pub long : length changes ≡ 9
  pub right : (k : ℕ) → get_or changes k Changes.Keep ≡ f k

-- where column k is listed, it becomes that value, of class c
unfoldable pub change_listed : ℕ → List ℕ → ℕ → Change
change_listed c list k = elim (listed list k) [ none ↦ Changes.Keep | some v ↦ Changes.Take v c ]

-- ---- rows that are chosen

-- only rows in use are chosen, and none past the last
pub record Chosen (n : ℕ) (B : ℕ → Row) (chosen : List Bool) : Type 0 where
  pub long : length chosen ≡ 64
  pub real : (i : ℕ) → i < n → get_or chosen i false ≡ true → (B i 1).value ≢ 0
  pub rest : (i : ℕ) → n ≤ i → get_or chosen i false ≡ false

-- the same of the rows at c
abbrev pub OnlyUsed : Description → ℕ → ℕ → List ℕ → List ℕ → List Bool → Type 0
OnlyUsed d r c values classes = Chosen (row_count d r) ((state_of d (holding values classes) c).rows r)

-- row i at the subject's level: as F makes it, where it is chosen
unfoldable pub row_chosen : List Bool → (Row → Row) → ℕ → Row → Row
row_chosen chosen F i R = if get_or chosen i false then F R else R

-- UPDATE's effect, where B are the rows at c
unfoldable pub set_chosen : Description → ℕ → ℕ → List ℕ → List Bool → Rows → Effect
set_chosen d c r list chosen B =
    record {
      own = λ s i. if eqb s r && get_or chosen i false then set_in c list (B s i) else B s i;
      above = record {
        gone = λ s v. false;
        change = λ s v k. if eqb s r && chosen_at (row_count d s) chosen (B s) v then take_in list k else keep;
      };
    }

-- and DELETE's
unfoldable pub empty_chosen : Description → ℕ → ℕ → List Bool → Rows → Effect
empty_chosen d c r chosen B =
    record {
      own = λ s i. if eqb s r && get_or chosen i false then norow else B s i;
      above = record {
        gone = λ s v. eqb s r && (chosen_at (row_count d s) chosen (B s) v && eqb (seek (row_count d s) (B s) v 1).class c);
        change = λ s v k. if eqb s r && chosen_at (row_count d s) chosen (B s) v then only nocell else keep;
      };
    }

-- ---- what is left in two buffers

-- row i at c is as F makes it, and nothing else has changed
abbrev pub RowDone : Description → ℕ → ℕ → ℕ → (Row → Row) → List ℕ → List ℕ → List ℕ → List ℕ → Type 0
RowDone d r c i F vs cs = RowBecomes d r c i (F ((state_of d (holding vs cs) c).rows r i)) vs cs

-- of the first n rows at c those that are chosen are as F makes them, and nothing else has changed
abbrev pub RowsDoneBelow : ℕ → Description → ℕ → ℕ → List Bool → (Row → Row) → List ℕ → List ℕ → List ℕ → List ℕ → Type 0
RowsDoneBelow n d r c chosen F vs cs =
    LevelBecomes d c (with_rows n (column_count d r) r (λ i. row_chosen chosen F i ((state_of d (holding vs cs) c).rows r i))) vs cs

-- the same of all rows at c
abbrev pub RowsDone : Description → ℕ → ℕ → List Bool → (Row → Row) → List ℕ → List ℕ → List ℕ → List ℕ → Type 0
RowsDone d r = RowsDoneBelow (row_count d r) d r

-- the tables are what an effect leaves that is made of the rows at c
abbrev pub Leaves : Description → ℕ → (Rows → Effect) → List ℕ → List ℕ → List ℕ → List ℕ → Type 0
Leaves d c E vs cs vs' cs' = state_of d (holding vs' cs') ≡ left d c (some (E (state_of d (holding vs cs) c).rows)) (state_of d (holding vs cs))

-- ---- what refers to a chosen row

-- v is a key, and a row at c with that key is chosen
unfoldable pub names_chosen : Description → List ℕ → List Bool → ℕ → ℕ → ℕ → Bool
names_chosen d values chosen r c v =
    let i = key_place d values r c v in
    not (eqb v 0) && (ltb i (row_count d r) && get_or chosen i false)

-- row i of relation s at c, which refers to r, refers to a chosen row
unfoldable pub row_refers : Description → List ℕ → List Bool → ℕ → ℕ → ℕ → ℕ → Bool
row_refers d values chosen r c s i = eqb (refers_of d s) r && names_chosen d values chosen r c (value_at d values s c i (foreign_of d s))

-- a row of it does
unfoldable pub refers_chosen : Description → List ℕ → List Bool → ℕ → ℕ → ℕ → Bool
refers_chosen d values chosen r c s = any_below (row_count d s) (row_refers d values chosen r c s)

-- a row at c refers to a chosen row
unfoldable pub referred_chosen : Description → List ℕ → List Bool → ℕ → ℕ → Bool
referred_chosen d values chosen r c = any_below (suc d.relations) (refers_chosen d values chosen r c)
