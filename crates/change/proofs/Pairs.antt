-- What is listed for a column, and the reference among it.
-- Assumes nothing.
use Prim.Native.Nat.{ℕ, ◌+◌, ◌*◌, ◌/◌, ◌<◌}
use mathlib.Core.Path.{◌≡◌, refl, sym, ap, ◌∙◌}
use mathlib.Core.Bool.{Bool, true}
use mathlib.Core.List.{List}
use mathlib.Core.Option.{Option, none, some}
use native.Mathlib.Nat.{lt_irrefl}
use native.Mathlib.Omega.{arith}
use lib.ListN.{length, get_or}
use borrow.Author.Tests.{lt-ltb, le-ltb}
use Rattle.std.specs.Prelude.{Some, None}
use Rattle.bounded.proofs.Found.{some-below, none-below}
use Rattle.bounded.proofs.Reflection.{of-true}
use Rattle.model.specs.declared.Description.{Description}
use Rattle.model.specs.Description.{is_column, foreign_of}
use Rattle.model.specs.Tables.{Tables, own_null}
use Rattle.model.specs.Listed.{pairs, second_at, each, listed}
use Rattle.model.specs.Effect.{names_row}
use Rattle.model.specs.Insert.{listed_names, new_row}
use Rattle.model.proofs.Sound.{column-r}
use Rattle.asked.specs.Facts.{Found}
use Rattle.theory.proofs.Listed.{each-listed}
use Rattle.change.specs.Facts.{value_listed}

-- ---- what is listed

module _ (list : List ℕ) (k : ℕ) where
  pub listed-none : Found list k None → listed list k ≡ none
  unfolding listed
  listed-none F = let h = none-below _ _ F in rw (le-ltb _ _ h)

  module _ {i : ℕ} (F : Found list k (Some i)) where
    pub pair-there : i < length list / 2
    unfolding pairs
    pair-there = let f = some-below _ _ F in omega (arith, f)

    pub listed-some : listed list k ≡ some (get_or list (2 * i + 1) 0)
    unfolding listed second_at
    listed-some = let f = some-below _ _ F in rw (lt-ltb _ _ f.1, ← f.0)

  -- its value and class in a new row
  pub value_none : Found list k None → 0 ≡ value_listed list k
  unfolding value_listed
  value_none F = rw (listed-none F, value_listed)

  pub value-some : {i : ℕ} → Found list k (Some i) → get_or list (2 * i + 1) 0 ≡ value_listed list k
  unfolding value_listed
  value-some F = rw (listed-some F, value_listed)

  module _ (d : Description) (c r : ℕ) where
    pub class-some : {i : ℕ} → Found list k (Some i) → c ≡ (new_row d c r list k).class
    unfolding new_row
    class-some F = rw (listed-some F, new_row)

    pub class-none : Found list k None → {x : ℕ} → x ≡ (own_null d r k c).class → x ≡ (new_row d c r list k).class
    unfolding new_row
    class-none F e = rw (listed-none F, new_row) e

-- ---- the reference among it

module _ (d : Description) (c r : ℕ) (list : List ℕ) (T : Tables) where
  -- whether what is listed names its row
  abbrev naming : Option ℕ → Bool
  naming o = elim o [ none ↦ true | some v ↦ names_row d c r T v ]

  names-by : {k : ℕ} {o : Option ℕ} → k ≡ foreign_of d r → listed list k ≡ o → naming o ≡ listed_names d c r list T
  unfolding listed_names
  names-by f e = ap naming (sym e ∙ ap (listed list) f)

  -- no column 0 is listed, where each column exists
  pub names-unreferring : each (λ k v. is_column d r k) list ≡ true → foreign_of d r ≡ 0 → true ≡ listed_names d c r list T
  names-unreferring h z = go (listed list 0) refl
    where
      go : (o : Option ℕ) → listed list 0 ≡ o → true ≡ listed_names d c r list T
      go none e = names-by (sym z) e
      go (some v) e = absurd (lt_irrefl 0 (of-true (column-r d r 0) (each-listed (λ k v. is_column d r k) list 0 v h e)).0)

  module _ {k : ℕ} (f : k ≡ foreign_of d r) where
    pub names-unlisted : Found list k None → true ≡ listed_names d c r list T
    names-unlisted F = names-by f (listed-none list k F)

    pub names-listed : {i : ℕ} → Found list k (Some i) → {b : Bool} → b ≡ names_row d c r T (get_or list (2 * i + 1) 0) → b ≡ listed_names d c r list T
    names-listed F e = e ∙ names-by f (listed-some list k F)
