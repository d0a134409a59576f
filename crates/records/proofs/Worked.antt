-- Worked records: 01's five sample records, read to what they are, and records at the edges of what is refused.
-- Assumes nothing.
use Rattle.std.specs.Prelude.{Option, Some, None, Result, Ok, Err}
use Prim.Native.Nat.{ℕ}
use mathlib.Core.Path.{◌≡◌, refl}
use mathlib.Core.Bool.{true, false}
use mathlib.Core.List.{List, [], ◌∷◌, ◌++◌}
use lib.ListN.{take, replicate}
use Rattle.bounded.specs.Bounded.{fold_below}
use Rattle.model.specs.declared.What.TheVariants as Whats
use Rattle.model.specs.declared.Description.{Description}
use Rattle.records.specs.declared.Read.{Read}
use Rattle.records.specs.Record.{kind_after}
use Rattle.records.specs.Statements.{read_of, list_read, conditions_read}
use Rattle.records.specs.Descriptions.{nothing, is_labels, labelled, is_related, related}
use Rattle.records.proofs.Computed.{decoded}

-- ---- "Input, in hex"

-- `04000100 00000100`
abbrev labels : List ℕ
labels = 4 ∷ 0 ∷ 1 ∷ 0 ∷ 0 ∷ 0 ∷ 1 ∷ 0 ∷ []

-- `10000200 0200020000000000 0000010000000100`
abbrev relation : List ℕ
relation = 16 ∷ 0 ∷ 2 ∷ 0 ∷ 2 ∷ 0 ∷ 2 ∷ 0 ∷ 0 ∷ 0 ∷ 0 ∷ 0 ∷ 0 ∷ 0 ∷ 1 ∷ 0 ∷ 0 ∷ 0 ∷ 1 ∷ 0 ∷ []

-- `12001000 000001000200 010007000000 020014000000`
abbrev insert : List ℕ
insert = 18 ∷ 0 ∷ 16 ∷ 0 ∷ 0 ∷ 0 ∷ 1 ∷ 0 ∷ 2 ∷ 0 ∷ 1 ∷ 0 ∷ 7 ∷ 0 ∷ 0 ∷ 0 ∷ 2 ∷ 0 ∷ 20 ∷ 0 ∷ 0 ∷ 0 ∷ []

-- `10001300 01000100 07000000 ff000100 02000000`
abbrev uplevel : List ℕ
uplevel = 16 ∷ 0 ∷ 19 ∷ 0 ∷ 1 ∷ 0 ∷ 1 ∷ 0 ∷ 7 ∷ 0 ∷ 0 ∷ 0 ∷ 255 ∷ 0 ∷ 1 ∷ 0 ∷ 2 ∷ 0 ∷ 0 ∷ 0 ∷ []

-- `0c001400 010001000200 010000000000`
abbrev select : List ℕ
select = 12 ∷ 0 ∷ 20 ∷ 0 ∷ 1 ∷ 0 ∷ 1 ∷ 0 ∷ 2 ∷ 0 ∷ 1 ∷ 0 ∷ 0 ∷ 0 ∷ 0 ∷ 0 ∷ []

-- an UPDATE at level 3 of relation 1: column 3 = 32 where column 2 is 70,000; and such a DELETE
abbrev update : List ℕ
update = 24 ∷ 0 ∷ 18 ∷ 0 ∷ 3 ∷ 0 ∷ 1 ∷ 0 ∷ 1 ∷ 0 ∷ 3 ∷ 0 ∷ 32 ∷ 0 ∷ 0 ∷ 0 ∷ 1 ∷ 0 ∷ 2 ∷ 0 ∷ 0 ∷ 0 ∷ 1 ∷ 0 ∷ 112 ∷ 17 ∷ 1 ∷ 0 ∷ []

abbrev delete : List ℕ
delete = 16 ∷ 0 ∷ 17 ∷ 0 ∷ 3 ∷ 0 ∷ 1 ∷ 0 ∷ 1 ∷ 0 ∷ 2 ∷ 0 ∷ 0 ∷ 0 ∷ 1 ∷ 0 ∷ 112 ∷ 17 ∷ 1 ∷ 0 ∷ []

-- ---- their order

-- the kinds of records, each after the last one
abbrev kinds : Option ℕ → List (List ℕ) → List (Option ℕ)
kinds last [] = []
kinds last (r ∷ rs) = kind_after last r ∷ kinds (kind_after last r) rs

in_order_lem : kinds None (labels ∷ relation ∷ insert ∷ uplevel ∷ select ∷ []) ≡ Some 1 ∷ Some 2 ∷ Some 16 ∷ Some 19 ∷ Some 20 ∷ []
unfolding decoded
in_order_lem = refl

-- a record of some kind with no body
abbrev bare : ℕ → List ℕ
bare k = 0 ∷ 0 ∷ k ∷ 0 ∷ []

-- "out of order, of unknown kind": a statement first, a second kind 1, kind 2 after kind 3, kind 3 after a statement, kinds 0, 4, 15 and 21
out_of_order : kind_after None insert ∷ kind_after (Some 1) labels ∷ kind_after (Some 3) relation ∷ kind_after (Some 16) (bare 3) ∷ kind_after (Some 20) (bare 0) ∷ kind_after (Some 20) (bare 4) ∷ kind_after (Some 20) (bare 15) ∷ kind_after (Some 20) (bare 21) ∷ [] ≡ replicate 8 None
unfolding decoded
out_of_order = refl

-- "cut": no header, a byte short; a byte too many
cut : kind_after (Some 2) [] ∷ kind_after (Some 2) (take 3 insert) ∷ kind_after (Some 2) (take 21 insert) ∷ kind_after (Some 2) (insert ++ (0 ∷ [])) ∷ [] ≡ replicate 4 None
unfolding decoded
cut = refl

-- "a body over 1,024 bytes": 1,024 are accepted, 1,025 are not
longest : kind_after None (0 ∷ 4 ∷ 1 ∷ 0 ∷ replicate 1024 0) ∷ kind_after None (1 ∷ 4 ∷ 1 ∷ 0 ∷ replicate 1025 0) ∷ [] ≡ Some 1 ∷ None ∷ []
unfolding decoded
longest = refl

-- ---- what the statements are

record Told (bytes : List ℕ) (answer : Result Read ℕ) (list conditions : List ℕ) : Type 0 where
  answer-is : read_of bytes 9 ≡ answer
  list-is : list_read bytes ≡ list
  conditions-is : conditions_read bytes ≡ conditions

insert-told : Told insert (Ok (record { statement = record { level = 0; relation = 1; what = Whats.Insert }; listed = 4; tested = 0 })) (1 ∷ 7 ∷ 2 ∷ 20 ∷ []) []
unfolding decoded
insert-told = record { answer-is = refl; list-is = refl; conditions-is = refl }

uplevel-told : Told uplevel (Ok (record { statement = record { level = 1; relation = 1; what = (Whats.Uplevel 7 255) }; listed = 2; tested = 0 })) (2 ∷ 0 ∷ []) []
unfolding decoded
uplevel-told = record { answer-is = refl; list-is = refl; conditions-is = refl }

select_told : Told select (Ok (record { statement = record { level = 1; relation = 1; what = Whats.Select }; listed = 2; tested = 0 })) (1 ∷ 0 ∷ []) []
unfolding decoded
select_told = record { answer-is = refl; list-is = refl; conditions-is = refl }

update-told : Told update (Ok (record { statement = record { level = 3; relation = 1; what = Whats.Update }; listed = 2; tested = 4 })) (3 ∷ 32 ∷ []) (2 ∷ 0 ∷ 1 ∷ 70000 ∷ [])
unfolding decoded
update-told = record { answer-is = refl; list-is = refl; conditions-is = refl }

delete-told : Told delete (Ok (record { statement = record { level = 3; relation = 1; what = Whats.Delete }; listed = 0; tested = 4 })) [] (2 ∷ 0 ∷ 1 ∷ 70000 ∷ [])
unfolding decoded
delete-told = record { answer-is = refl; list-is = refl; conditions-is = refl }

-- no statement, "cut", and a count that the body cannot hold or that leaves bytes over
labels-told : Told labels (Err 9) [] []
unfolding decoded
labels-told = record { answer-is = refl; list-is = refl; conditions-is = refl }

cut-told : Told (take 21 insert) (Err 9) [] []
unfolding decoded
cut-told = record { answer-is = refl; list-is = refl; conditions-is = refl }

over-told : Told (insert ++ (0 ∷ [])) (Err 9) [] []
unfolding decoded
over-told = record { answer-is = refl; list-is = refl; conditions-is = refl }

three-told : Told (take 8 insert ++ (3 ∷ replicate 13 0)) (Err 9) [] []
unfolding decoded
three-told = record { answer-is = refl; list-is = refl; conditions-is = refl }

one_told : Told (take 8 insert ++ (1 ∷ replicate 13 0)) (Err 9) [] []
unfolding decoded
one_told = record { answer-is = refl; list-is = refl; conditions-is = refl }

-- ---- the description

abbrev described : List ℕ → ℕ → List ℕ → List ℕ → List ℕ → Description
described names count columns rows high =
    record {
      levels = 2;
      labels = names;
      relations = count;
      columns = columns;
      rows = rows;
      foreign = replicate 9 0;
      refers = replicate 9 0;
      low = replicate 81 0;
      high = high;
    }

two-levels : labelled nothing labels ≡ described (0 ∷ 1 ∷ replicate 14 0) 0 (replicate 9 0) (replicate 9 0) (replicate 81 0)
unfolding decoded
two-levels = refl

one-relation : related (labelled nothing labels) relation ≡ described (0 ∷ 1 ∷ replicate 14 0) 1 (0 ∷ 2 ∷ replicate 7 0) (0 ∷ 2 ∷ replicate 7 0) (replicate 10 0 ++ (1 ∷ 1 ∷ replicate 69 0))
unfolding decoded
one-relation = refl

-- lengths: labels are two bytes each, a relation has 8 bytes and 4 for each column
lengths-asked : is_labels labels ∷ is_labels (take 7 labels) ∷ is_related relation ∷ is_related (take 19 relation) ∷ is_related labels ∷ [] ≡ true ∷ false ∷ true ∷ false ∷ false ∷ []
unfolding decoded
lengths-asked = refl

-- eight relations are held, a ninth is only counted
abbrev after : ℕ → Description
after n = fold_below n (λ i d. related d relation) nothing

eight : (after 8).relations ∷ (after 9).relations ∷ (after 10).relations ∷ (after 8).columns ≡ 8 ∷ 9 ∷ 9 ∷ 0 ∷ replicate 8 2
unfolding decoded
eight = refl

ninth : (after 9).columns ∷ (after 9).high ∷ [] ≡ (after 8).columns ∷ (after 8).high ∷ []
unfolding decoded
ninth = refl
