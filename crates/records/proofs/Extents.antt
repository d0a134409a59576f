-- How far the lists of a record reach, and that a whole record has room for neither more than 512 numbers in its list nor more in its
-- conditions.
-- Assumes nothing.
use Rattle.std.specs.Prelude.{if◌then◌else◌, Option, Some, None}
use Prim.Native.Nat.{ℕ, ◌+◌, ◌*◌, ◌≤◌, ◌<◌}
use mathlib.Core.Path.{◌≡◌, ◌∙◌}
use mathlib.Core.Bool.{Bool, true, false}
use mathlib.Core.List.{List}
use native.Mathlib.Omega.{arith}
use lib.Dec.{eqb, leb}
use lib.ListN.{length}
use borrow.Author.Tests.{eqb-true, leb-true}
use Rattle.bounded.proofs.Cases.{and_left, and_right}
use Rattle.records.specs.declared.kinds.Entry.{Entry}
use Rattle.records.specs.declared.kinds.Entry.TheVariants as Entries
use Rattle.records.specs.declared.kinds.Form.{Form}
use Rattle.records.specs.Bytes.{pair}
use Rattle.records.specs.Kinds.{width, numbers, is_kind, form_of}
use Rattle.records.specs.Record.{whole, size_of}
use Rattle.records.specs.Statements.{form, end_of, numbers_of, list_of, list_end, conditions_of, length_asked, is_statement}
use Rattle.records.proofs.Written.{cells-length, fields-length, tests-length}

-- ---- where the list of each kind begins

pub record Early (form : Form) : Type 0 where
  pub low : 8 ≤ form.at
  pub high : form.at ≤ 14

either : (b : Bool) {x y : Form} → Early x → Early y → Early (if b then x else y)
either true p q = p
either false p q = q

pub form-early : (kind : ℕ) → Early (form_of kind)
unfolding form_of
form-early kind =
    either (eqb kind 16) (record { low = omega arith; high = omega arith })
    (either (eqb kind 17) (record { low = omega arith; high = omega arith })
    (either (eqb kind 18) (record { low = omega arith; high = omega arith })
    (either (eqb kind 19) (record { low = omega arith; high = omega arith })
    (either (eqb kind 20) (record { low = omega arith; high = omega arith }) (record { low = omega arith; high = omega arith })))))

module _ (bytes : List ℕ) where
  -- ---- one list

  pub end-behind : (entry : Option Entry) (at : ℕ) → at ≤ end_of bytes entry at
  unfolding end_of
  end-behind None at = omega arith
  end-behind (Some entry) at = omega arith

  numbers-short : (entry : Option Entry) (at : ℕ) → 8 ≤ at → end_of bytes entry at ≤ 1028 → length (numbers_of bytes entry at) ≤ 512
  unfolding end_of numbers_of width
  numbers-short None at a h = omega arith
  numbers-short (Some Entries.Level) at a h = omega (arith, fields-length bytes (at + 2) (pair bytes at))
  numbers-short (Some Entries.Borrow) at a h = omega (arith, fields-length bytes (at + 2) (2 * pair bytes at))
  numbers-short (Some Entries.Cell) at a h = omega (arith, cells-length bytes (at + 2) (pair bytes at))
  numbers-short (Some Entries.Condition) at a h = omega (arith, tests-length bytes (at + 2) (pair bytes at))

  -- each entry of a list that ends in the record begins there, and there is room for its numbers
  pub record Within (entry : Entry) (at i : ℕ) : Type 0 where
    pub begins : at + 2 + width entry * i ≤ 1028
    pub room : numbers entry * i + numbers entry ≤ 512

  pub entry-within : (entry : Entry) (at i : ℕ) → i < pair bytes at → 8 ≤ at → end_of bytes (Some entry) at ≤ 1028 → Within entry at i
  unfolding end_of width numbers
  entry-within Entries.Level at i l a h = record { begins = omega arith; room = omega arith }
  entry-within Entries.Borrow at i l a h = record { begins = omega arith; room = omega arith }
  entry-within Entries.Cell at i l a h = record { begins = omega arith; room = omega arith }
  entry-within Entries.Condition at i l a h = record { begins = omega arith; room = omega arith }

  -- ---- how long a whole record is

  whole-reach : whole bytes ≡ true → length bytes ≤ 1028
  unfolding whole size_of
  whole-reach w =
      let v = and_right (leb 4 (length bytes)) _ w in
      let u : pair bytes 0 ≤ 1024 = leb-true _ _ (and_left (leb (pair bytes 0) 1024) _ v) in
      let t : length bytes ≡ 4 + pair bytes 0 = eqb-true _ _ (and_right (leb (pair bytes 0) 1024) _ v) in
      omega arith

  length-is : is_statement bytes ≡ true → length bytes ≡ length_asked bytes
  unfolding is_statement
  length-is s = eqb-true _ _ (and_right (is_kind (pair bytes 2)) _ (and_right (whole bytes) _ s))

  whole_is : is_statement bytes ≡ true → whole bytes ≡ true
  unfolding is_statement
  whole_is s = and_left (whole bytes) _ s

  -- ---- where the lists end, by the form

  pub list-end-is : {f : Form} {a : ℕ} → f ≡ form bytes → a ≡ end_of bytes f.list f.at → a ≡ list_end bytes
  unfolding list_end
  list-end-is e p = p ∙ rw e

  pub length-asked-is : {f : Form} {a b : ℕ} → f ≡ form bytes → a ≡ list_end bytes → b ≡ end_of bytes f.conditions a → b ≡ length_asked bytes
  unfolding length_asked
  length-asked-is e p q = q ∙ rw (e, p)

  -- ---- both lists end in the record

  pub list-starts : 8 ≤ list_end bytes
  unfolding list_end
  list-starts = omega (arith, (form-early (pair bytes 2)).low, end-behind (form bytes).list (form bytes).at)

  pub conditions-room : is_statement bytes ≡ true → end_of bytes (form bytes).conditions (list_end bytes) ≤ 1028
  unfolding length_asked
  conditions-room s = omega (arith, length-is s, whole-reach (whole_is s))

  pub list-room : is_statement bytes ≡ true → end_of bytes (form bytes).list (form bytes).at ≤ 1028
  unfolding list_end
  list-room s = omega (arith, conditions-room s, end-behind (form bytes).conditions (list_end bytes))

  -- ---- what is read fits what is lent

  pub list-short : is_statement bytes ≡ true → length (list_of bytes) ≤ 512
  unfolding list_of
  list-short s = numbers-short (form bytes).list (form bytes).at (form-early (pair bytes 2)).low (list-room s)

  pub conditions-short : is_statement bytes ≡ true → length (conditions_of bytes) ≤ 512
  unfolding conditions_of
  conditions-short s = numbers-short (form bytes).conditions (list_end bytes) list-starts (conditions-room s)
