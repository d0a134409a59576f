-- Words for worked rows: requests, buffers written as rows, and statements run one after the other.
-- Assumes nothing: these are definitions.
use Prim.Native.Nat.{ℕ}
use mathlib.Core.Path.{◌≡◌}
use mathlib.Core.List.{List, [], ◌∷◌, ◌++◌, map}
use Rattle.model.specs.declared.Description.{Description}
use Rattle.model.specs.declared.What.{What}
use Rattle.model.specs.declared.What.TheVariants as Whats
use Rattle.model.specs.Numbers.{answer_number, count_of}
use Rattle.model.specs.Tables.{Cell}
use Rattle.model.specs.Buffers.{Buffers}
use Rattle.model.specs.Ledger.{Ledger, lending}
use Rattle.model.specs.Run.{Request, Outcome, run}

-- ---- requests

abbrev pub request : ℕ → ℕ → What → List ℕ → List ℕ → Request
request c r what list conditions =
    record {
      statement = record { level = c; relation = r; what = what };
      list = list;
      conditions = conditions;
      shown = [];
      owners = [];
    }

abbrev pub insert_at : ℕ → ℕ → List ℕ → Request
insert_at c r list = request c r Whats.Insert list []

abbrev pub delete_at : ℕ → ℕ → List ℕ → Request
delete_at c r conditions = request c r Whats.Delete [] conditions

abbrev pub update_at : ℕ → ℕ → List ℕ → List ℕ → Request
update_at c r list conditions = request c r Whats.Update list conditions

-- the key class is 255 where none is given
abbrev pub uplevel_at : ℕ → ℕ → ℕ → ℕ → List ℕ → Request
uplevel_at c r key class list = request c r (Whats.Uplevel key class) list []

-- with output buffers
abbrev pub select_at : ℕ → ℕ → List ℕ → List ℕ → List ℕ → List ℕ → Request
select_at c r levels conditions shown owners =
    record {
      statement = record { level = c; relation = r; what = Whats.Select };
      list = levels;
      conditions = conditions;
      shown = shown;
      owners = owners;
    }

-- "its key is v"
abbrev pub key : ℕ → List ℕ
key v = 1 ∷ 0 ∷ 1 ∷ v ∷ []

-- ---- buffers

abbrev pub joined : {A : Type 0} → List (List A) → List A
joined [] = []
joined (xs ∷ xss) = xs ++ joined xss

-- the cells in their order, level by level
abbrev pub laid_out : List (List Cell) → Buffers
laid_out levels = record { values = map (λ (x : Cell). x.value) (joined levels); classes = map (λ (x : Cell). x.class) (joined levels) }

-- tables as the ledger that goes with them
abbrev pub lent : Description → Buffers → Ledger
lent d b = lending b

abbrev pub laid : Description → List (List Cell) → Ledger
laid d levels = lent d (laid_out levels)

-- ---- runs

-- one statement on tables
abbrev pub ran : Description → Buffers → Request → Outcome
ran d b q = run d (lent d b) q

-- the last of some statements run one after the other, on a ledger and on tables
abbrev pub last_of : Description → Ledger → Request → List Request → Outcome
last_of d b q [] = run d b q
last_of d b q (p ∷ ps) = last_of d (run d b q).ledger p ps

abbrev pub last : Description → Buffers → Request → List Request → Outcome
last d b q qs = last_of d (lent d b) q qs

-- number, count and table buffers
pub record Told : Type 0 where
  pub number : ℕ
  pub count : ℕ
  pub tables : Buffers

abbrev pub told : Outcome → Told
told o = record { number = answer_number o.reply.answer; count = count_of o.reply.answer; tables = o.ledger.tables }

abbrev pub tells : ℕ → ℕ → List (List Cell) → Told
tells number count levels = record { number = number; count = count; tables = laid_out levels }

-- the claim of a list: in each of its pairs what was computed is what was expected
abbrev pub Each : {A : Type 0} → List (A × A) → Type 0
Each [] = Unit {0}
Each (p ∷ ps) = (p.0 ≡ p.1) × Each ps
