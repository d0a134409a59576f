-- At most one outcome meets the promise of each public function, as the checker reads the promise from the source: one answer, and one number
-- in each cell of both lent lists.
-- Assumes nothing.
use Rattle.std.specs.Prelude.{Result}
use Prim.Native.Nat.{ℕ}
use mathlib.Core.Path.{◌≡◌, sym, ◌∙◌}
use mathlib.Core.List.{List}
use Rattle.level.proofs.Settled.{Settled}
use Rattle.records.specs.declared.Read.{Read}
use Rattle.records.specs.Facts.{Reading}
use Rattle.records.proofs.bytes.pair.Reads as pair
use Rattle.records.proofs.bytes.quad.Reads as quad
use Rattle.records.proofs.descriptions.nothing.Reads as nothing
use Rattle.records.proofs.descriptions.is_labels.Reads as is-labels
use Rattle.records.proofs.descriptions.labels.Reads as labels
use Rattle.records.proofs.descriptions.is_relation.Reads as is-relation
use Rattle.records.proofs.descriptions.relation.Reads as relation
use Rattle.records.proofs.statement.statement.Reads as statement
use Rattle.records.proofs.whole.kind.Reads as kind

pub pair-settled : Settled pair.Post
pair-settled κs a x y e f p q = p ∙ sym q

pub quad-settled : Settled quad.Post
quad-settled κs a x y e f p q = p ∙ sym q

pub nothing-settled : Settled nothing.Post
nothing-settled κs a x y e f p q = p ∙ sym q

pub is-labels-settled : Settled is-labels.Post
is-labels-settled κs a x y e f p q = p ∙ sym q

pub labels-settled : Settled labels.Post
labels-settled κs a x y e f p q = p ∙ sym q

pub is-relation-settled : Settled is-relation.Post
is-relation-settled κs a x y e f p q = p ∙ sym q

pub relation-settled : Settled relation.Post
relation-settled κs a x y e f p q = p ∙ sym q

pub kind-settled : Settled kind.Post
kind-settled κs a x y e f p q = p ∙ sym q

-- ---- one answer and two lists

pub record One (a b : Result Read ℕ) (list conditions list' conditions' : List ℕ) : Type 0 where
  pub answer-is : a ≡ b
  pub list-is : list ≡ list'
  pub conditions-is : conditions ≡ conditions'

one-read : {bytes : List ℕ} {number : ℕ} {list conditions l m c d : List ℕ} {a b : Result Read ℕ}
    → Reading bytes number list l conditions c a → Reading bytes number list m conditions d b → One a b l c m d
one-read p q =
    record {
      answer-is = p.answer-is ∙ sym q.answer-is;
      list-is = p.list-is ∙ sym q.list-is;
      conditions-is = p.conditions-is ∙ sym q.conditions-is;
    }

pub statement-settled : (κs : _) (a : _) (x y : _) (e f : _) → statement.Post κs a x e → statement.Post κs a y f
    → One x y e.1.0.now e.1.1.0.now f.1.0.now f.1.1.0.now
statement-settled κs a x y e f p q = one-read p q
