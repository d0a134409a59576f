-- What is listed, pair after pair: by column, and in a row.
-- Assumes nothing.
use Rattle.std.specs.Prelude.{if◌then◌else◌}
use Prim.Native.Nat.{ℕ, ◌+◌, ◌/◌, ◌%◌, ◌<◌}
use mathlib.Core.Path.{◌≡◌, refl, sym, ap, ◌∙◌, fun_ext}
use mathlib.Core.Bool.{Bool, true, false, not, ◌&&◌}
use mathlib.Core.Logic.{◌≢◌}
use mathlib.Core.List.{List, []}
use mathlib.Core.Option.{none, some}
use native.Mathlib.Numerals.{add-one}
use native.Mathlib.Nat.{le_antisymm}
use native.Mathlib.Omega.{arith}
use lib.Dec.{eqb, ltb}
use lib.ListN.{length, get_or, set, replicate, length-set, get_or-replicate, get_or-eq_default}
use lib.Seq.{get_or-set_same, get_or-set_other}
use borrow.Author.Tests.{eq-eqb, ne_eqb, lt-ltb, le-ltb, ltb-true, ltb-false, eqb-true, eqb-false}
use Rattle.std.specs.Prelude.{is_none}
use Rattle.std.specs.Simd.{first_chunks}
use Rattle.bounded.specs.Bounded.{first_below, some_below}
use Rattle.bounded.proofs.Any.{any-first}
use Rattle.bounded.proofs.Cases.{cases}
use Rattle.bounded.proofs.First.{first-le, first_more, first-here, First, found, absent, first-cases}
use Rattle.bounded.proofs.Reflection.{is_true}
use Rattle.model.specs.declared.Description.{Description}
use Rattle.model.specs.Description.{between}
use Rattle.model.specs.Tables.{Cell, Row, cell, Level, State}
use Rattle.model.specs.Listed.{whole, pairs, column_at, second_at, each, listed, lists, columns_once}
use Rattle.model.specs.Update.{update_formed, set_in}
use Rattle.model.proofs.Sound.{between-r}
use Rattle.cells.specs.Changed.{with_cell, with_row, change_level}
use Rattle.cells.proofs.Written.{row_same}
use Rattle.cells.proofs.Changes.{level-path, change-same, change-on}
use Rattle.asked.specs.declared.pairs.Rule.TheVariants as Rules
use Rattle.asked.specs.Facts.{rule_of}
use Rattle.asked.proofs.Listing.{column-of, second-of}
use Rattle.above.specs.declared.plan.Change.{Change}
use Rattle.above.specs.declared.plan.Change.TheVariants as Changes
use Rattle.chosen.specs.Choosing.{Listing, ByColumn, change_listed}

-- ---- a column among the first pairs

first-kept : (n : ℕ) (p : ℕ → Bool) → first_below n p < n → first_below (n + 1) p ≡ first_below n p
unfolding first_below
first-kept n p h = rw (add-one, lt-ltb _ _ h)

-- what f makes of the value that the first n pairs have for column k, x where they have none
unfoldable pub among : {A : Type 0} → ℕ → List ℕ → (ℕ → A) → A → ℕ → A
among n list f x k =
    let i = first_below n (λ j. eqb (column_at list j) k) in
    if ltb i n then f (second_at list i) else x

module _ (list : List ℕ) (k : ℕ) where
  abbrev is : ℕ → Bool
  is j = eqb (column_at list j) k

  -- no pair so far has the column of the next
  none_before : {m : ℕ} → Listing m list → (n : ℕ) → n < pairs list → column_at list n ≡ k → first_below n is ≡ n
  none_before L n h e = go (first-cases n is)
    where
      go : {i : ℕ} → First n is i → i ≡ n
      go {i} (found g t _) = absurd (L.once n i h g (e ∙ sym (eqb-true _ _ t)))
      go (absent q _) = q

  module _ {A : Type 0} (f : ℕ → A) (x : A) where
    among_none : among 0 list f x k ≡ x
    unfolding among
    among_none = rw (le-ltb (first_below 0 is) 0 (omega arith))

    among-here : {m : ℕ} → Listing m list → (n : ℕ) → n < pairs list → column_at list n ≡ k → among (n + 1) list f x k ≡ f (second_at list n)
    unfolding among
    among-here L n h e = rw (first-here (n + 1) n is (none_before L n h e) refl (eq-eqb _ _ e) (omega arith), lt-ltb n (n + 1) (omega arith))

    among-other : (n : ℕ) → column_at list n ≢ k → among (n + 1) list f x k ≡ among n list f x k
    unfolding among
    among-other n o =
        cases (ltb (first_below n is) n)
        (λ t. let h = ltb-true _ _ t in rw (first-kept n is h, t, lt-ltb (first_below n is) (n + 1) (omega arith)))
        (λ t. rw (t, first_more n is (none t) refl (ne_eqb _ _ o), le-ltb (n + 1) (n + 1) (omega arith)))
      where
        none : ltb (first_below n is) n ≡ false → first_below n is ≡ n
        none t = let h = ltb-false _ _ t in le_antisymm (first-le n is) h

-- ---- by column

none-there : (k : ℕ) → get_or (replicate 9 Changes.Keep) k Changes.Keep ≡ Changes.Keep
none-there k =
    cases (ltb k 9)
    (λ t. get_or-replicate 9 k Changes.Keep Changes.Keep (ltb-true k 9 t))
    (λ t. get_or-eq_default (replicate 9 Changes.Keep) Changes.Keep {n = k} (ltb-false k 9 t))

pub columns-none : (list : List ℕ) (f : ℕ → Change) → ByColumn (among 0 list f Changes.Keep) (replicate 9 Changes.Keep)
columns-none list f = record { long = refl; right = λ k. none-there k ∙ sym (among_none list k f Changes.Keep) }

pub columns-more : (list : List ℕ) (f : ℕ → Change) (n : ℕ) (changes : List Change) → Listing 8 list → n < pairs list → ByColumn (among n list f Changes.Keep) changes
    → ByColumn (among (n + 1) list f Changes.Keep) (set changes (column_at list n) (f (second_at list n)))
columns-more list f n changes L h N =
    record {
      long = length-set changes (column_at list n) (f (second_at list n)) ∙ N.long;
      right = λ k. cases (eqb (column_at list n) k)
          (λ t. let e = eqb-true (column_at list n) k t in
          rw (← e) (get_or-set_same changes (column_at list n) (f (second_at list n)) Changes.Keep (omega (arith, N.long, L.most n h))
          ∙ sym (among-here list (column_at list n) f Changes.Keep L n h refl)))
          (λ t. let o = eqb-false _ _ t in
          get_or-set_other changes (column_at list n) k (f (second_at list n)) Changes.Keep (λ e. o (sym e)) ∙ N.right k ∙ sym (among-other list k f Changes.Keep n o));
    }

-- the pairs side by side
module _ (list : List ℕ) {ys : List (List ℕ)} (e : ys ≡ first_chunks 2 (length list / 2) list) where
  pub pair-column : (i : ℕ) → i < pairs list → get_or (get_or ys i []) 0 0 ≡ column_at list i
  unfolding pairs
  pair-column i h = rw e (column-of list i h)

  pub pair-second : (i : ℕ) → i < pairs list → get_or (get_or ys i []) 1 0 ≡ second_at list i
  unfolding pairs
  pair-second i h = rw e (second-of list i h)

-- what is listed for a column, from the first pair that has it
module _ (list : List ℕ) (k : ℕ) where
  abbrev first : ℕ
  first = first_below (pairs list) (λ j. eqb (column_at list j) k)

  pub listed-there : ltb first (pairs list) ≡ true → listed list k ≡ some (second_at list first)
  unfolding listed
  listed-there t = rw t

  pub listed-nowhere : ltb first (pairs list) ≡ false → listed list k ≡ none
  unfolding listed
  listed-nowhere t = rw t

pub changes-end : (c : ℕ) (list : List ℕ) (n : ℕ) (changes : List Change) → n ≡ pairs list → ByColumn (among n list (λ v. Changes.Take v c) Changes.Keep) changes
    → ByColumn (change_listed c list) changes
unfolding among change_listed
changes-end c list n changes e N =
    record {
      long = N.long;
      right = λ k. N.right k ∙ rw e (cases (ltb (first list k) (pairs list)) (λ t. rw (t, change_listed, listed-there list k t)) (λ t. rw (t, change_listed, listed-nowhere list k t)));
    }

-- ---- what is well formed, test after test

pub unlisted : (list : List ℕ) (k : ℕ) → is_none (some_below (pairs list) (first_below (pairs list) (λ j. eqb (column_at list j) k))) ≡ not (lists list k)
unfolding lists some_below
unlisted list k =
    rw (any-first (pairs list) (λ j. eqb (column_at list j) k))
    (cases (ltb (first list k) (pairs list)) (λ t. rw t) (λ t. rw t))

pub formed-tests : (d : Description) (r : ℕ) (list : List ℕ)
    → update_formed d r list ≡ (eqb (length list % 2) 0 && (each (rule_of d r Rules.Column) list && (columns_once list && (not (lists list 1) && ltb 0 (length list)))))
unfolding update_formed whole rule_of
formed-tests d r list = refl

-- ---- a row, cell after cell

-- row R with the first n pairs set
unfoldable pub set_below : ℕ → ℕ → List ℕ → Row → Row
set_below n c list R k = among n list (λ v. cell v c) (R k) k

pub set-start : (m r i c : ℕ) (list : List ℕ) (S : State) → S ≡ change_level c (with_row m r i (set_below 0 c list ((S c).rows r i))) S
unfolding set_below
set-start m r i c list S =
    change-same c (with_row m r i (set_below 0 c list ((S c).rows r i))) S
    (row_same m r i (set_below 0 c list ((S c).rows r i)) (S c) (λ k. among_none list k (λ v. cell v c) ((S c).rows r i k)))

-- one more cell of a row
cell-more : (m r i k : ℕ) (x : Cell) (Q R : Row) (B : Level) → between 1 m k ≡ true → R k ≡ x → ((j : ℕ) → k ≢ j → R j ≡ Q j) → with_cell r i k x (with_row m r i Q B) ≡ with_row m r i R B
unfolding with_row with_cell
cell-more m r i k x Q R B b e o =
    level-path (λ s j n.
    cases (eqb r s)
    (λ t. cases (eqb i j)
    (λ u. cases (eqb k n)
    (λ w. rw (t, u, w, ← (eqb-true k n w), b) (sym e))
    (λ w. cases (between 1 m n) (λ z. rw (t, u, w, z) (sym (o n (eqb-false k n w)))) (λ z. rw (t, u, w, z))))
    (λ u. rw (t, u)))
    (λ t. rw t))

module _ (m r i c : ℕ) (list : List ℕ) (R : Row) (S₀ : State) where
  pub set_more : (n : ℕ) {S S' : State} → Listing m list → n < pairs list → S ≡ change_level c (with_row m r i (set_below n c list R)) S₀
      → S' ≡ change_level c (with_cell r i (column_at list n) (cell (second_at list n) c)) S → S' ≡ change_level c (with_row m r i (set_below (n + 1) c list R)) S₀
  unfolding set_below
  set_more n L h p q =
      let k = column_at list n in
      change-on c (with_cell r i k (cell (second_at list n) c)) (with_row m r i (set_below n c list R)) (with_row m r i (set_below (n + 1) c list R)) S₀ p q
      (cell-more m r i k (cell (second_at list n) c) (set_below n c list R) (set_below (n + 1) c list R) (S₀ c)
      (is_true (between-r 1 m k) (L.least n h, L.most n h))
      (among-here list k (λ v. cell v c) (R k) L n h refl)
      (λ j o. among-other list j (λ v. cell v c) (R j) n o))

  set_all : set_below (pairs list) c list R ≡ set_in c list R
  unfolding set_below among set_in
  set_all =
      fun_ext (λ k. cases (ltb (first list k) (pairs list)) (λ t. rw (t, set_in, listed-there list k t)) (λ t. rw (t, set_in, listed-nowhere list k t)))

  pub set-end : (n : ℕ) {S : State} → n ≡ pairs list → S ≡ change_level c (with_row m r i (set_below n c list R)) S₀ → S ≡ change_level c (with_row m r i (set_in c list R)) S₀
  set-end n e p = p ∙ rw e (ap (λ (Q : Row). change_level c (with_row m r i Q) S₀) set_all)
