-- The ways through SELECT: a level that isn't seen, a buffer that is too short, and the rows written.
-- Assumes nothing.
use Prim.Native.Nat.{ℕ, ◌+◌, ◌*◌, ◌≤◌, ◌<◌}
use mathlib.Core.Path.{◌≡◌, refl, sym, ap, ◌∙◌, subst}
use mathlib.Core.Bool.{Bool, true, false}
use mathlib.Core.List.{List}
use mathlib.Core.Option.{none, some}
use native.Mathlib.Nat.{mul-le-mul}
use native.Mathlib.Omega.{arith}
use lib.ListN.{length}
use borrow.Author.Tests.{le-leb, lt-leb}
use Rattle.bounded.proofs.Reflection.{of-true}
use Rattle.model.specs.declared.Description.{Description}
use Rattle.model.specs.declared.Fault.TheVariants as Faults
use Rattle.std.specs.Prelude.{Ok, Err}
use Rattle.model.specs.Answers.{Answer}
use Rattle.model.specs.Description.{over}
use Rattle.model.specs.Tables.{State}
use Rattle.model.specs.Buffers.{holding, state_of}
use Rattle.model.specs.Listed.{each_level}
use Rattle.model.specs.Select.{Shown, select_tests, found, values_shown, owners_shown}
use Rattle.model.specs.Run.{first_fault}
use Rattle.model.proofs.Sound.{relation-r, relation-of}
use Rattle.theory.proofs.Described.{sound-laws}
use Rattle.cells.specs.Laid.{Laid}
use Rattle.cells.specs.Layout.{Lent}
use Rattle.cells.proofs.Counts.{sound-says}
use Rattle.select.specs.declared.InOrder.{InOrder}
use Rattle.change.specs.Facts.{Standing, sight, Selects, refuses, shows}
use Rattle.select.specs.Facts.{shown_levels, Holds, InLevels, found_in, start, Room, Stands, fits, Filled, short, full}
use Rattle.select.proofs.Heights.{shown-few, holds-each}
use Rattle.select.proofs.Found.{found_in_lem, found-in-wide, found-seen}

-- ---- the rows, where they fit

module _ (d : Description) (r : ℕ) (q : List ℕ) (S : State) (v : InOrder) {b m w : ℕ} (laid : Laid d r b m w) {n : ℕ} (count : n ≡ length (found_in d r q S v)) where
  values-are : length (values_shown (found_in d r q S v)) ≡ n * w
  values-are = rw (count, laid.columns) (found-in-wide d r q S v).values

  owners-are : length (owners_shown (found_in d r q S v)) ≡ n * (w + 1)
  owners-are = rw (count, laid.columns) (found-in-wide d r q S v).owners

  module _ (shown owners : List ℕ) where
    pub short-values : length shown < n * w → Filled (found_in d r q S v) shown owners shown owners (Err Faults.Short)
    unfolding fits
    short-values h =
        short (rw (lt-leb (length (values_shown (found_in d r q S v))) (length shown) (rw values-are h))) refl refl refl

    module _ (roomy : n * w ≤ length shown) where
      pub short-owners : length owners < n * (w + 1) → Filled (found_in d r q S v) shown owners shown owners (Err Faults.Short)
      unfolding fits
      short-owners h =
          short (rw (le-leb (length (values_shown (found_in d r q S v))) (length shown) (rw values-are roomy), lt-leb (length (owners_shown (found_in d r q S v))) (length owners) (rw owners-are h))) refl refl refl

      module _ (wide : n * (w + 1) ≤ length owners) where
        pub room-found : Room (found_in d r q S v) start (length shown) (length owners)
        room-found = record { values = omega (arith, values-are); owners = omega (arith, owners-are) }

        pub full-found : {shown' owners' : List ℕ} → Stands (found_in d r q S v) shown owners shown' owners' → Filled (found_in d r q S v) shown owners shown' owners' (Ok n)
        unfolding fits
        full-found z =
            full (rw (le-leb (length (values_shown (found_in d r q S v))) (length shown) (rw values-are roomy), le-leb (length (owners_shown (found_in d r q S v))) (length owners) (rw owners-are wide)))
            (ap Ok count) z

-- the products are small
module _ {d : Description} {r b m w : ℕ} (laid : Laid d r b m w) where
  pub small-values : {n : ℕ} → n ≤ 1024 → n * w ≤ 8192
  small-values h = mul-le-mul h laid.narrow

  pub small-owners : {n : ℕ} → n ≤ 1024 → n * (w + 1) ≤ 9216
  small-owners h = let k : w + 1 ≤ 9 = omega (arith, laid.narrow) in mul-le-mul h k

-- ---- the tests

module _ (d : Description) (c r : ℕ) (list q shown owners : List ℕ) (S : State) where
  first-unseen : each_level (over d c) list ≡ false → first_fault (select_tests d c r list q shown owners S) ≡ some Faults.Unseen
  unfolding first_fault select_tests
  first-unseen f = rw f

  module _ (t : each_level (over d c) list ≡ true) where
    first_short : fits (found d c r list q S) shown owners ≡ false → first_fault (select_tests d c r list q shown owners S) ≡ some Faults.Short
    unfolding first_fault select_tests fits
    first_short h = rw (t, h)

    first-none : fits (found d c r list q S) shown owners ≡ true → first_fault (select_tests d c r list q shown owners S) ≡ none
    unfolding first_fault select_tests fits
    first-none h = rw (t, h)

module _ {d : Description} {r c : ℕ} {vs cs : List ℕ} (s : Standing d r c vs cs) where
  -- ---- what the functions require

  pub few-levels : d.levels ≤ 16
  few-levels = (sound-says d s.sound-is).few-levels

  pub lent : Lent d (length vs) (length cs)
  lent = record { values = s.long; classes = s.wide }

  few : (list : List ℕ) {v : InOrder} → Holds (shown_levels d c list) v → v.count ≤ 16
  few list h = omega (arith, h.count, shown-few d c list, few-levels)

  pub in-levels : (list : List ℕ) {v : InOrder} → Holds (shown_levels d c list) v → InLevels d r v
  in-levels list h = record {
    relation = omega (arith, (of-true (relation-r d r) s.relation).1);
    keyed = (relation-of d (sound-says d s.sound-is) r s.relation).keyed;
    few = few list h;
    long = h.long;
    level = holds-each d c list h;
  }

  -- ---- what is answered

  module _ (list q shown owners : List ℕ) {b : Bool} (e : b ≡ each_level (over d c) list) where
    pub unseen : b ≡ false → Selects d c r list q vs cs shown owners shown owners (Err Faults.Unseen)
    unseen f = refuses Faults.Unseen (first-unseen d c r list q shown owners (sight d c vs cs) (sym e ∙ f)) refl refl refl

    module _ (t : b ≡ true) {v : InOrder} (h : Holds (shown_levels d c list) v) where
      rows_are : found_in d r q (state_of d (holding vs cs)) v ≡ found d c r list q (sight d c vs cs)
      rows_are =
          found_in_lem d c r list q (state_of d (holding vs cs)) h (few list h)
          ∙ found-seen d c list ((sound-laws d s.sound-is).reflexive c s.level) (sym e ∙ t) r q (state_of d (holding vs cs))

      pub selected : {shown' owners' : List ℕ} {a : Answer} → Filled (found_in d r q (state_of d (holding vs cs)) v) shown owners shown' owners' a → Selects d c r list q vs cs shown owners shown' owners' a
      selected {shown'} {owners'} {a} w = go (subst (λ (rows : List Shown). Filled rows shown owners shown' owners' a) rows_are w)
        where
          go : Filled (found d c r list q (sight d c vs cs)) shown owners shown' owners' a → Selects d c r list q vs cs shown owners shown' owners' a
          go (short f x y z) = refuses Faults.Short (first_short d c r list q shown owners (sight d c vs cs) (sym e ∙ t) f) x y z
          go (full f x y) = shows (first-none d c r list q shown owners (sight d c vs cs) (sym e ∙ t) f) x y.values-is y.owners-is
