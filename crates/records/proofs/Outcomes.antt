-- The two outcomes of reading a record, and what an answer tells its caller.
-- Assumes nothing.
use Rattle.std.specs.Prelude.{Result, Ok, Err}
use Prim.Native.Nat.{ℕ, ◌≤◌}
use mathlib.Core.Path.{◌≡◌, sym, ap, ◌∙◌}
use mathlib.Core.Bool.{true, false}
use mathlib.Core.List.{List}
use native.Mathlib.Omega.{arith}
use lib.ListN.{length, take}
use borrow.Author.Tests.{eq-eqb, ne_eqb}
use lib.Seq.{take-append_seam}
use Rattle.bounded.specs.Lists.{write_at}
use Rattle.bounded.proofs.Cases.{cases, and-false-right}
use Rattle.bounded.proofs.Lists.{write-none}
use Rattle.model.specs.declared.Statement.{Statement}
use Rattle.records.specs.declared.Read.{Read}
use Rattle.records.specs.Kinds.{is_kind}
use Rattle.records.specs.Record.{whole}
use Rattle.records.specs.Statements.{kind, length_asked, list_of, conditions_of, statement_of, is_statement, read_of, list_read, conditions_read}
use Rattle.records.specs.Facts.{Filled, Reading}
use Rattle.records.proofs.Extents.{list-short, conditions-short}

module _ (bytes : List ℕ) (number : ℕ) where
  pub refused : {list conditions : List ℕ} → is_statement bytes ≡ false → Reading bytes number list list conditions conditions (Err number)
  unfolding read_of list_read conditions_read
  refused e =
      record {
        answer-is = rw e;
        list-is = rw e (write-none 0 _);
        conditions-is = rw e (write-none 0 _);
      }

  pub done : {list list' conditions conditions' : List ℕ} {statement : Statement} {listed tested : ℕ}
      → is_statement bytes ≡ true → statement ≡ statement_of bytes
      → Filled (list_of bytes) list list' listed → Filled (conditions_of bytes) conditions conditions' tested
      → Reading bytes number list list' conditions conditions' (Ok (record { statement = statement; listed = listed; tested = tested }))
  unfolding read_of list_read conditions_read
  done e s l t =
      record {
        answer-is = rw (e, s, l.count-is, t.count-is);
        list-is = rw e l.lent_is;
        conditions-is = rw e t.lent_is;
      }

-- ---- what is tested

module _ (bytes : List ℕ) where
  pub kindless : is_kind (kind bytes) ≡ false → is_statement bytes ≡ false
  unfolding is_statement
  kindless k = and-false-right (whole bytes) _ (rw k)

  pub broken : whole bytes ≡ false → is_statement bytes ≡ false
  unfolding is_statement
  broken w = rw w

  pub misfit : (length bytes ≡ length_asked bytes → ⊥) → is_statement bytes ≡ false
  unfolding is_statement
  misfit l = and-false-right (whole bytes) _ (and-false-right (is_kind (kind bytes)) _ (ne_eqb _ _ l))

  pub statement-is : whole bytes ≡ true → is_kind (kind bytes) ≡ true → length bytes ≡ length_asked bytes → is_statement bytes ≡ true
  unfolding is_statement
  statement-is w k l = rw (w, k, eq-eqb _ _ l)

-- ---- for the caller

-- the numbers are the first ones of what was lent
front : {n : ℕ} (s d : List ℕ) {e : List ℕ} → n ≡ length s → e ≡ write_at 0 s d → take n e ≡ s
unfolding write_at
front s d p q = rw (p, q) (take-append_seam s _)

pub record Holds (bytes list conditions : List ℕ) (read : Read) : Type 0 where
  pub is-statement : is_statement bytes ≡ true
  pub statement-is : read.statement ≡ statement_of bytes
  pub listed-short : read.listed ≤ 512
  pub tested-short : read.tested ≤ 512
  pub list-is : take read.listed list ≡ list_of bytes
  pub conditions-is : take read.tested conditions ≡ conditions_of bytes

module _ {bytes : List ℕ} {number : ℕ} {list list' conditions conditions' : List ℕ} {answer : Result Read ℕ} (r : Reading bytes number list list' conditions conditions' answer) where
  -- what is told where the answer is a statement
  module _ {read : Read} (e : answer ≡ Ok read) where
    holds-where : is_statement bytes ≡ true → Holds bytes list' conditions' read
    unfolding read_of list_read conditions_read
    holds-where t =
        let whole : Read = record { statement = statement_of bytes; listed = length (list_of bytes); tested = length (conditions_of bytes) } in
        let a : ◌≡◌ {A = Result Read ℕ} (Ok read) (Ok whole) = sym e ∙ (r.answer-is ∙ rw t) in
        let p : read ≡ whole = cc in
        let l : read.listed ≡ length (list_of bytes) = ap (λ r. r.listed) p in
        let c : read.tested ≡ length (conditions_of bytes) = ap (λ r. r.tested) p in
        record {
          is-statement = t;
          statement-is = ap (λ r. r.statement) p;
          listed-short = omega (arith, list-short bytes t);
          tested-short = omega (arith, conditions-short bytes t);
          list-is = front (list_of bytes) list l (r.list-is ∙ rw t);
          conditions-is = front (conditions_of bytes) conditions c (r.conditions-is ∙ rw t);
        }

    never : is_statement bytes ≡ false → ⊥
    unfolding read_of
    never f =
        let a : ◌≡◌ {A = Result Read ℕ} (Ok read) (Err number) = sym e ∙ (r.answer-is ∙ rw f) in cc

    pub holds : Holds bytes list' conditions' read
    holds = cases (is_statement bytes) holds-where (λ f. absurd (never f))

  -- what is told where the answer is a refusal
  module _ {told : ℕ} (e : answer ≡ Err told) where
    refused-where : is_statement bytes ≡ false → told ≡ number
    unfolding read_of
    refused-where f = let a : ◌≡◌ {A = Result Read ℕ} (Err told) (Err number) = sym e ∙ (r.answer-is ∙ rw f) in cc

    not-read : is_statement bytes ≡ true → ⊥
    unfolding read_of
    not-read t =
        let whole : Read = record { statement = statement_of bytes; listed = length (list_of bytes); tested = length (conditions_of bytes) } in
        let a : ◌≡◌ {A = Result Read ℕ} (Err told) (Ok whole) = sym e ∙ (r.answer-is ∙ rw t) in cc

    pub refuses : (is_statement bytes ≡ false) × (told ≡ number)
    refuses = cases (is_statement bytes) (λ t. absurd (not-read t)) (λ f. (f, refused-where f))
