-- The laws of chosen rows: chosen one after the other, narrowed condition by condition, and counted.
-- Assumes nothing.
use mathlib.Core.Path.{◌≡◌, refl, sym, ◌∙◌}
use mathlib.Core.Bool.{Bool, true, false, not, ◌&&◌, and-true, and_assoc}
use mathlib.Core.List.{List}
use Prim.Native.Nat.{ℕ, ◌+◌, ◌≤◌, ◌<◌}
use native.Mathlib.Numerals.{add-one}
use native.Mathlib.Omega.{arith}
use lib.Dec.{eqb, ltb}
use lib.ListN.{length, get_or, set, replicate, length-set, get_or-replicate, get_or-eq_default}
use lib.Seq.{ext_get_or, get_or-set_same, get_or-set_other}
use borrow.Author.Count.{below_none, below_more}
use borrow.Author.Tests.{ltb-true, ltb-false}
use Rattle.bounded.specs.Bounded.{all_below}
use Rattle.bounded.proofs.Cases.{cases, at-end}
use Rattle.model.specs.declared.Description.{Description}
use Rattle.model.specs.Tables.{Row, used}
use Rattle.model.specs.Buffers.{holding, state_of}
use Rattle.model.specs.Conditions.{Condition, condition_at, condition_count, meets, met}
use Rattle.cells.specs.Changed.{value_at}
use Rattle.cells.proofs.Cells.{state-cell}
use Rattle.conditions.specs.Facts.{ChosenBy, Narrowed, used_row, met_at}

-- ---- row after row

none-set : (i : ℕ) → get_or (replicate 64 false) i false ≡ false
none-set i =
    cases (ltb i 64)
    (λ t. get_or-replicate 64 i false false (ltb-true i 64 t))
    (λ t. get_or-eq_default (replicate 64 false) false {n = i} (ltb-false i 64 t))

pub chosen_none : (f : ℕ → Bool) → ChosenBy 0 f (replicate 64 false)
chosen_none f = record { long = refl; right = below_none _; rest = λ i h. none-set i }

pub chosen_more : (n : ℕ) (f : ℕ → Bool) (chosen : List Bool) (b : Bool) → n < 64 → b ≡ f n → ChosenBy n f chosen → ChosenBy (n + 1) f (set chosen n b)
chosen_more n f chosen b h e M =
    record {
      long = length-set chosen n b ∙ M.long;
      right = below_more _ n
          (λ k l. get_or-set_other chosen n k b false (omega arith) ∙ M.right k l)
          (get_or-set_same chosen n b false (omega (arith, M.long)) ∙ e);
      rest = λ k l. get_or-set_other chosen n k b false (omega arith) ∙ M.rest k (omega arith);
    }

pub chosen-end : (n m : ℕ) (f : ℕ → Bool) (chosen : List Bool) → ChosenBy m f chosen → m ≤ n → n ≤ m → ChosenBy n f chosen
chosen-end n m f chosen M h k = at-end (λ (i : ℕ). ChosenBy i f chosen) h k M

-- ---- narrowed, row after row

module _ (d : Description) (B : ℕ → Row) (q : Condition) (before : List Bool) where
  pub narrowed_none : length before ≡ 64 → Narrowed d B 0 q before before
  narrowed_none e = record { long = e; right = below_none _; rest = λ i h. refl }

  -- a row that was chosen
  pub narrowed-more : (n : ℕ) (after : List Bool) (b : Bool) → n < 64 → get_or after n false ≡ true → b ≡ meets d q (B n) → Narrowed d B n q before after
      → Narrowed d B (n + 1) q before (set after n b)
  narrowed-more n after b h t e N =
      record {
        long = length-set after n b ∙ N.long;
        right = below_more _ n
            (λ k l. get_or-set_other after n k b false (omega arith) ∙ N.right k l)
            (get_or-set_same after n b false (omega (arith, N.long)) ∙ rw (sym (N.rest n (omega arith)) ∙ t) e);
        rest = λ k l. get_or-set_other after n k b false (omega arith) ∙ N.rest k (omega arith);
      }

  -- a row that wasn't
  pub narrowed-same : (n : ℕ) (after : List Bool) → get_or after n false ≡ false → Narrowed d B n q before after → Narrowed d B (n + 1) q before after
  narrowed-same n after f N =
      record {
        long = N.long;
        right = below_more _ n (λ k l. N.right k l) (f ∙ rw (sym (N.rest n (omega arith)) ∙ f));
        rest = λ k l. N.rest k (omega arith);
      }

  pub narrowed-end : (n m : ℕ) (after : List Bool) → Narrowed d B m q before after → m ≤ n → n ≤ m → Narrowed d B n q before after
  narrowed-end n m after N h k = at-end (λ (i : ℕ). Narrowed d B i q before after) h k N

-- ---- condition after condition

pub used-as : (d : Description) (vs : List ℕ) (r l i : ℕ) {v : ℕ} → v ≡ value_at d vs r l i 1 → not (eqb v 0) ≡ used_row d vs r l i
unfolding used_row
used-as d vs r l i e = rw e

used-state : (d : Description) (vs cs : List ℕ) (r l i : ℕ) → used_row d vs r l i ≡ used ((state_of d (holding vs cs) l).rows r i)
unfolding used_row used
used-state d vs cs r l i = rw (state-cell d vs cs r l i 1)

-- row i is in use and meets the first n conditions
unfoldable pub met_by : Description → List ℕ → (ℕ → Row) → ℕ → ℕ → Bool
met_by d conditions B n i = used (B i) && all_below n (λ k. meets d (condition_at conditions k) (B i))

pub met_start : (d : Description) (vs cs conditions : List ℕ) (r l n : ℕ) (chosen : List Bool) → ChosenBy n (used_row d vs r l) chosen
    → ChosenBy n (met_by d conditions ((state_of d (holding vs cs) l).rows r) 0) chosen
unfolding met_by all_below
met_start d vs cs conditions r l n chosen M =
    record { long = M.long; right = λ i h. M.right i h ∙ used-state d vs cs r l i ∙ sym (and-true (used ((state_of d (holding vs cs) l).rows r i))); rest = M.rest }

module _ (d : Description) (conditions : List ℕ) (B : ℕ → Row) (rows : ℕ) where
  pub met-more : (n : ℕ) (before after : List Bool) → ChosenBy rows (met_by d conditions B n) before → Narrowed d B rows (condition_at conditions n) before after
      → ChosenBy rows (met_by d conditions B (n + 1)) after
  unfolding met_by all_below
  met-more n before after M N =
      record { long = N.long; right = λ i h. N.right i h ∙ rw (M.right i h, add-one) (and_assoc (used (B i)) _ _); rest = λ i h. N.rest i h ∙ M.rest i h }

  pub met-end : (n : ℕ) (chosen : List Bool) → n ≡ condition_count conditions → ChosenBy rows (met_by d conditions B n) chosen → ChosenBy rows (met_at d conditions B) chosen
  unfolding met_by met_at met
  met-end n chosen e M = record { long = M.long; right = λ i h. M.right i h ∙ rw e; rest = M.rest }

-- ---- at most one

pub chosen-one : (n : ℕ) (f : ℕ → Bool) (x y : List Bool) → ChosenBy n f x → ChosenBy n f y → x ≡ y
chosen-one n f x y p q =
    ext_get_or false x y (p.long ∙ sym q.long)
    (λ i h. cases (ltb i n)
    (λ t. let l = ltb-true i n t in p.right i l ∙ sym (q.right i l))
    (λ t. let l = ltb-false i n t in p.rest i l ∙ sym (q.rest i l)))
