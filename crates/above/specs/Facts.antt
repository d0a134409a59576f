-- What a plan leaves in the rows above a subject's level.
-- Assumes nothing: these are definitions and statements.
use Rattle.std.specs.Prelude.{◌≡◌, Bool, true, false, not, ◌&&◌, ◌≢◌, List, ℕ, ◌≤◌, ◌<◌, eqb, ltb, length, get_or, set, if◌then◌else◌}
use Rattle.std.proofs.Math.Option.{some}
use Rattle.model.specs.declared.Description.{Description}
use Rattle.model.specs.Description.{between, is_relation, row_count, column_count, foreign_of, refers_of, total_of, sound}
use Rattle.model.specs.Tables.{Cell, Row, cell, nocell, same, used, Level, State, rows_of, place, seek, at, own_null}
use Rattle.model.specs.Effect as Effect
use Rattle.model.specs.Effect.{Rows, keep, take, only, Above, agrees}
use Rattle.model.specs.Run.{left}
use Rattle.cells.specs.Layout.{InLevel}
use Rattle.cells.specs.Changed.{value_at}
use Rattle.above.specs.declared.plan.Plan.{Plan}
use Rattle.above.specs.declared.plan.Change.{Change}
use Rattle.above.specs.declared.plan.Change.TheVariants as Changes

-- ---- what is known

-- no key stands in two rows of a level
pub record OneRow (d : Description) (values : List ℕ) (r l : ℕ) : Type 0 where
  pub one : (i j : ℕ) → i < row_count d r → j < row_count d r → value_at d values r l i 1 ≢ 0 → value_at d values r l i 1 ≡ value_at d values r l j 1 → i ≡ j

-- a level that is not the subject's, which is one of 16
pub record Apart (c l : ℕ) : Type 0 where
  pub few : c < 16
  pub other : l ≢ c

-- relation s refers to relation r, and both have rows at the two levels
pub record Referring (d : Description) (r s c l : ℕ) : Type 0 where
  pub apart : Apart c l
  pub few : s ≤ 8
  pub foreign : 0 < foreign_of d s
  pub column : foreign_of d s ≤ column_count d s
  pub refers : refers_of d s ≡ r
  pub named : is_relation d s ≡ true
  pub lower : r < s
  pub at : InLevel d r l
  pub own : InLevel d r c
  pub level : InLevel d s l
  pub subject : InLevel d s c

-- ---- a plan

-- a row at c with key v is chosen
unfoldable pub chosen_at : ℕ → List Bool → (ℕ → Row) → ℕ → Bool
chosen_at n chosen B v = ltb (place n B v) n && get_or chosen (place n B v) false

-- what becomes of a cell of the subject's class, in the model's words
unfoldable pub effect_of : Change → Effect.Change
effect_of Changes.Keep = keep
effect_of (Changes.Take v o) = take v
effect_of (Changes.Only v o) = only (cell v o)

-- what a plan makes of a cell in column k
abbrev pub planned : Plan → ℕ → Change
planned P k = get_or P.changes k Changes.Keep

-- what becomes of a cell of class c in column k
unfoldable pub change_of : Plan → ℕ → Effect.Change
change_of P k = effect_of (planned P k)

-- the plan for relation r as what a statement at c does above, where B are the rows at c
unfoldable pub above_of : Description → ℕ → ℕ → Plan → Rows → Above
above_of d c r P B =
    record {
      gone = λ s v. eqb s r && (P.gone && (chosen_at (row_count d s) P.chosen (B s) v && eqb (seek (row_count d s) (B s) v 1).class c));
      change = λ s v k. if eqb s r && chosen_at (row_count d s) P.chosen (B s) v then change_of P k else keep;
    }

-- the tables with every level above c reached, and c's own rows as they are
unfoldable pub carried : Description → ℕ → ℕ → Plan → State → State
carried d c r P S = left d c (some (record { own = (S c).rows; above = above_of d c r P (S c).rows })) S

-- the same for the levels below n, the others as they are
unfoldable pub carried_below : ℕ → Description → ℕ → ℕ → Plan → State → State
carried_below n d c r P S l = if ltb l n then carried d c r P S l else S l

-- ---- a row of the relation

-- the entity of row R has a chosen row at c, where B are the rows at c
unfoldable pub touched_by : ℕ → List Bool → (ℕ → Row) → Row → Bool
touched_by n chosen B R =
    used R && (chosen_at n chosen B (R 1).value && eqb (B (place n B (R 1).value) 1).class (R 1).class)

-- what a cell of the subject's class becomes
unfoldable pub becomes : Change → Cell → Cell
becomes Changes.Keep x = x
becomes (Changes.Take v o) x = cell v o
becomes (Changes.Only v o) x = if same x (cell v o) then x else cell 0 x.class

-- what any cell becomes: one of another class than c stays
unfoldable pub turned_by : Change → ℕ → Cell → Cell
turned_by h c x = if eqb x.class c then becomes h x else x

-- what the cell in column k becomes, by a plan's changes
unfoldable pub turned : List Change → ℕ → ℕ → Cell → Cell
turned changes c k x = turned_by (get_or changes k Changes.Keep) c x

unfoldable pub row_after : ℕ → Plan → ℕ → (ℕ → Row) → Row → Row
row_after n P c B R k =
    if touched_by n P.chosen B R then (if P.gone && eqb (R 1).class c then nocell else turned P.changes c k (R k)) else R k

-- a level with the first n rows of relation r, m columns each, as F has them
unfoldable pub with_rows : ℕ → ℕ → ℕ → (ℕ → Row) → Level → Level
with_rows n m r F B = record { rows = λ s j k. if eqb r s && (ltb j n && between 1 m k) then F j k else B.rows s j k }

-- ---- a row that refers to the relation

-- the row with key v at l is emptied
unfoldable pub gone_by : Description → ℕ → Plan → ℕ → State → ℕ → ℕ → Bool
gone_by d r P c S l v =
    P.gone && (chosen_at (row_count d r) P.chosen ((S c).rows r) v
    && (eqb (at d (rows_of S) r c v 1).class c && eqb (at d (rows_of S) r l v 1).class c))

-- row R of relation s, which refers to r: a reference whose named row is emptied becomes null, class kept, unless the subject holds it
unfoldable pub row_unnamed : Description → ℕ → Plan → ℕ → State → ℕ → ℕ → Row → Row
row_unnamed d r P c S l s R k =
    if eqb k (foreign_of d s) && (not (eqb (R k).class c && same (R 1) (at d (rows_of S) s c (R 1).value 1)) && gone_by d r P c S l (R k).value)
    then cell 0 (R k).class else R k

-- a level with that done for relation s, where it refers to r
unfoldable pub with_referrer : Description → ℕ → Plan → ℕ → State → ℕ → ℕ → Level → Level
with_referrer d r P c S l s B =
    if eqb (refers_of d s) r then with_rows (row_count d s) (column_count d s) s (λ i. row_unnamed d r P c S l s (B.rows s i)) B else B

-- the same for each relation below n
unfoldable pub with_referrers : ℕ → Description → ℕ → Plan → ℕ → State → ℕ → Level → Level
with_referrers n d r P c S l B =
    record {
      rows = λ s i k.
          if ltb s n && (eqb (refers_of d s) r && (ltb i (row_count d s) && between 1 (column_count d s) k))
          then row_unnamed d r P c S l s (B.rows s i) k else B.rows s i k;
    }

-- ---- one level

-- a reference that is taken names another entity at l than at c
unfoldable pub lost_as : Description → ℕ → ℕ → State → ℕ → Change → Bool
lost_as d r c S l Changes.Keep = false
lost_as d r c S l (Changes.Take v o) = not (eqb v 0) && not (agrees d (at d (rows_of S)) r l c v)
lost_as d r c S l (Changes.Only v o) = false

unfoldable pub lost_by : Description → ℕ → Plan → ℕ → State → ℕ → Bool
lost_by d r P c S l = not (eqb (foreign_of d r) 0) && lost_as d r c S l (planned P (foreign_of d r))

-- the plan with a null of class e in column k
unfoldable pub handed : Plan → ℕ → ℕ → Plan
handed P k e = record { chosen = P.chosen; gone = P.gone; changes = set P.changes k (Changes.Take 0 e) }

-- the plan as it is at l
unfoldable pub given_by : Description → ℕ → Plan → ℕ → State → ℕ → Plan
given_by d r P c S l =
    if lost_by d r P c S l then handed P (foreign_of d r) (own_null d r (foreign_of d r) l).class else P

-- ---- the whole

-- a sound description, a relation and a level; and what is used of legal tables: nothing outside, and no key twice at a level
pub record Working (d : Description) (r c : ℕ) (S : State) : Type 0 where
  pub sound-is : sound d ≡ true
  pub relation : is_relation d r ≡ true
  pub level : c < d.levels
  pub outside : (s l i k : ℕ) → row_count d s ≤ i → (S l).rows s i k ≡ nocell
  pub beyond : (s l i k : ℕ) → between 1 (column_count d s) k ≡ false → (S l).rows s i k ≡ nocell
  pub one-row : (s l i j : ℕ) → ((S l).rows s i 1).value ≢ 0 → ((S l).rows s i 1).value ≡ ((S l).rows s j 1).value → i ≡ j

-- a plan: only rows in use are chosen, a cell of the subject's class that is taken is the subject's, and no key is taken
pub record Planned (d : Description) (r c : ℕ) (P : Plan) (B : ℕ → Row) : Type 0 where
  pub chosen : length P.chosen ≡ 64
  pub changes : length P.changes ≡ 9
  pub real : (i : ℕ) → i < row_count d r → get_or P.chosen i false ≡ true → (B i 1).value ≢ 0
  pub own : (k v o : ℕ) → planned P k ≡ Changes.Take v o → o ≡ c
  pub key : (v o : ℕ) → planned P 1 ≢ Changes.Take v o

-- a level of a sound description, a relation and the buffers' lengths
pub record Reaching (d : Description) (r c l m n : ℕ) : Type 0 where
  pub sound-is : sound d ≡ true
  pub relation : is_relation d r ≡ true
  pub subject : c < d.levels
  pub level : l < d.levels
  pub values : m ≡ total_of d
  pub classes : n ≡ total_of d
