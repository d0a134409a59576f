-- At most one outcome meets the promise of the public function, as the checker reads the promise from the source: one answer, and one content
-- of every lent buffer.
-- Assumes nothing.
use Prim.Native.Nat.{ℕ}
use mathlib.Core.Path.{◌≡◌, sym, ap, ◌∙◌}
use mathlib.Core.List.{List}
use Rattle.stream.specs.declared.Stepped.{Stepped}
use Rattle.stream.specs.Step.{Turn}
use Rattle.stream.specs.Facts.{Took}
use Rattle.stream.proofs.step.Reads as step

pub record One (x y : Stepped) (values values' classes classes' text text' : List ℕ) : Type 0 where
  pub answer-is : x ≡ y
  pub values-is : values ≡ values'
  pub classes-is : classes ≡ classes'
  pub text-is : text ≡ text'

one-took : {t : Turn} {before values values' classes classes' text text' : List ℕ} {x y : Stepped}
    → Took t before values classes text x → Took t before values' classes' text' y → One x y values values' classes classes' text text'
one-took p q =
    let k = p.kept-is ∙ sym q.kept-is in
    let n = p.text-is.next-is ∙ sym q.text-is.next-is in
    let room = p.room-is ∙ sym q.room-is in
    record {
      answer-is = λ i. record { printed = n i; kept = k i };
      values-is = ap (λ l. l.tables.values) room;
      classes-is = ap (λ l. l.tables.classes) room;
      text-is = p.text-is.is ∙ sym q.text-is.is;
    }

pub step-settled : (κs : _) (a : _) (x y : _) (e f : _) → step.Post κs a x e → step.Post κs a y f
    → One x y e.1.0.now f.1.0.now e.1.1.0.now f.1.1.0.now e.1.1.1.0.now f.1.1.1.0.now
step-settled κs a x y e f p q = one-took p q
