-- What the tests of a description come to, in the numbers that stand in it.
-- Assumes nothing.
use mathlib.Core.Path.{◌≡◌, refl, sym, ◌∙◌}
use mathlib.Core.Bool.{Bool, true, false, not, ◌&&◌, ◌||◌}
use mathlib.Core.List.{List}
use Prim.Native.Nat.{ℕ, zero, suc, ◌+◌, ◌*◌, ◌≤◌, ◌<◌}
use native.Mathlib.Numerals.{add-one}
use native.Mathlib.Omega.{arith}
use lib.Dec.{eqb, ltb}
use lib.ListN.{length, take, get_or}
use Rattle.std.specs.List.{list_any, list_all}
use Rattle.std.proofs.lemmas.List.Folds.{list_any_more, list_all_more}
use lib.Seq.{length-take-le, get_or-take}
use borrow.Author.Tests.{ne_eqb, lt-ltb}
use Rattle.std.proofs.lemmas.Bool.Decides.{nat_tests}
use Rattle.bounded.proofs.All.{all-cong}
use Rattle.bounded.specs.Bounded.{all_below}
use Rattle.bounded.proofs.Reflection.{of-true}
use Rattle.level.specs.Order.{order_of, entry_of}
use Rattle.level.proofs.Levels.{order-laws}
use Rattle.model.specs.declared.Description.{Description}
use Rattle.model.specs.Description.{between, over, column_count, low_of, high_of, distinct_below, foreign_sound, relation_sound}
use Rattle.model.proofs.Sound.{between-r}
use Rattle.describe.specs.Facts.{Described, ranges_sound}
use Rattle.describe.proofs.Sizes.{row_count_lem, column-count, foreign-of, refers-of}

-- an entry of the order
pub over-entry : (d : Description) (order : List (List Bool)) → order ≡ order_of d.labels d.levels → d.levels ≤ 16 → (a b : ℕ) → entry_of order a b ≡ over d a b
unfolding over
over-entry d order e h a b = rw e ((order-laws d.labels d.levels).entries h a b)

pub between-says : (low high n : ℕ) {b : Bool} → b ≡ between low high n → b ≡ true → (low ≤ n) × (n ≤ high)
between-says low high n x t = of-true (between-r low high n) (sym x ∙ t)

-- ---- the labels, as a slice of so many

pub all-of-first : (p : ℕ → Bool) (xs : List ℕ) (n : ℕ) → n ≤ length xs → list_all p (take n xs) ≡ all_below n (λ k. p (get_or xs k 0))
unfolding all_below
all-of-first p xs zero h = refl
all-of-first p xs (suc n) h =
    let i : list_all p (take n xs) ≡ all_below n (λ k. p (get_or xs k 0)) = all-of-first p xs n (omega arith) in
    rw (← (add-one n), list_all_more p xs n 0 (omega arith), i)

not-or : (a b : Bool) → not (a || b) ≡ (not a && not b)
not-or true b = refl
not-or false b = refl

eqb-turned : (a b : ℕ) → eqb a b ≡ eqb b a
eqb-turned a b = grind (arith, nat_tests)

-- whether one of the first n is a number, and whether each is another
pub none-of-first : (x : ℕ) (xs : List ℕ) (n : ℕ) → n ≤ length xs → not (list_any (λ y. eqb y x) (take n xs)) ≡ all_below n (λ k. not (eqb x (get_or xs k 0)))
unfolding all_below
none-of-first x xs zero h = refl
none-of-first x xs (suc n) h =
    let i : not (list_any (λ y. eqb y x) (take n xs)) ≡ all_below n (λ k. not (eqb x (get_or xs k 0))) = none-of-first x xs n (omega arith) in
    rw (← (add-one n), list_any_more (λ y. eqb y x) xs n 0 (omega arith), not-or, i, eqb-turned x (get_or xs n 0))

pub distinct-of-first : (xs : List ℕ) (n : ℕ) → n ≤ length xs → distinct_below (length (take n xs)) (λ k. get_or (take n xs) k 0) ≡ distinct_below n (λ k. get_or xs k 0)
unfolding distinct_below
distinct-of-first xs n h =
    rw (length-take-le n xs h)
    (all-cong n _ _ (λ i k. all-cong i _ _ (λ j l. let m : j < n = omega arith in rw (get_or-take n xs i 0 k, get_or-take n xs j 0 m))))

-- ---- the numbers of a relation

above : (n : ℕ) → ltb 0 n ≡ not (eqb n 0)
above zero = refl
above (suc n) = rw (lt-ltb 0 (suc n) (omega arith), ne_eqb (suc n) 0 (λ e. omega arith))

module _ (d : Description) (o : List (List Bool)) (r : ℕ) (D : Described d o r) where
  pub ranged-at : (q k : ℕ) → q ≡ 9 * r + 1 → {b : Bool} → b ≡ entry_of o (get_or d.high (q + k) 0) (get_or d.low (q + k) 0)
      → b ≡ over d (high_of d r (suc k)) (low_of d r (suc k))
  unfolding high_of low_of
  ranged-at q k e z =
      let p : q + k ≡ 9 * r + suc k = omega arith in
      z ∙ over-entry d o D.order_is D.levels (get_or d.high (q + k) 0) (get_or d.low (q + k) 0) ∙ rw p

  pub columns-are : get_or d.columns r 0 ≡ column_count d r
  columns-are = column-count d r D.least D.relation

  pub few-columns : {b : Bool} → b ≡ between 1 8 (get_or d.columns r 0) → b ≡ true → column_count d r ≤ 8
  few-columns z t = rw (← columns-are) (between-says 1 8 (get_or d.columns r 0) z t).1

  pub foreign-none : get_or d.foreign r 0 ≡ 0 → eqb (get_or d.refers r 0) 0 ≡ foreign_sound d r
  unfolding foreign_sound
  foreign-none z = rw (← (foreign-of d r D.least D.relation), z, refers-of d r D.least D.relation)

  pub foreign-as : (get_or d.foreign r 0 ≡ 0 → ⊥) → foreign_sound d r ≡ (between 2 (get_or d.columns r 0) (get_or d.foreign r 0) && (not (eqb (get_or d.refers r 0) 0) && ltb (get_or d.refers r 0) r))
  unfolding foreign_sound
  foreign-as n =
      rw (← (foreign-of d r D.least D.relation), ← (refers-of d r D.least D.relation), ← columns-are, ne_eqb (get_or d.foreign r 0) 0 n, above (get_or d.refers r 0))

  pub relation-as : relation_sound d r ≡ (between 1 8 (get_or d.columns r 0) && (between 1 64 (get_or d.rows r 0)
      && (ranges_sound d r && foreign_sound d r)))
  unfolding relation_sound
  relation-as = rw (columns-are, row_count_lem d r D.least D.relation)
