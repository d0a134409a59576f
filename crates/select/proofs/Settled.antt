-- At most one outcome meets the promise of each public function of SELECT, as the checker reads the promise from the source: one answer, and
-- one number in each cell of both output buffers.
-- Assumes nothing.
use Prim.Native.Nat.{ℕ}
use mathlib.Core.Path.{◌≡◌, sym, ◌∙◌}
use mathlib.Core.Bool.{Bool}
use mathlib.Core.List.{List}
use mathlib.Core.Option.{Option, none, some}
use native.Mathlib.Omega.{arith}
use Rattle.level.proofs.Settled.{Settled}
use Rattle.model.specs.declared.Fault.{Fault}
use Rattle.std.specs.Prelude.{Err}
use Rattle.model.specs.Answers.{Answer}
use Rattle.model.specs.Select.{Shown}
use Rattle.change.specs.Facts.{Showed, refuses, shows}
use Rattle.select.proofs.formed.Reads as formed
use Rattle.select.proofs.select.Reads as select

pub formed-settled : Settled formed.Post
formed-settled κs a x y e f p q = p ∙ sym q

-- ---- one answer and two buffers

pub record One (a b : Answer) (shown owners shown' owners' : List ℕ) : Type 0 where
  pub answer : a ≡ b
  pub values-is : shown ≡ shown'
  pub owners-is : owners ≡ owners'

same_answer : {o : Option Fault} {f g : Fault} {a b : Answer} → o ≡ some f → o ≡ some g → a ≡ Err f → b ≡ Err g → a ≡ b
same_answer p q x y = cc

never : {o : Option Fault} {f : Fault} → o ≡ some f → o ≡ none → ⊥
never p q = let z : ◌≡◌ {A = ℕ} 0 1 = cc in omega arith

one-showed : {tests : List (Bool × Fault)} {rows : List Shown} {s o s' o' s'' o'' : List ℕ} {a b : Answer}
    → Showed tests rows s o s' o' a → Showed tests rows s o s'' o'' b → One a b s' o' s'' o''
one-showed (refuses f p x y z) (refuses g q u v w) =
    record { answer = same_answer p q x u; values-is = y ∙ sym v; owners-is = z ∙ sym w }
one-showed (refuses f p x y z) (shows q u v w) = absurd (never p q)
one-showed (shows p x y z) (refuses g q u v w) = absurd (never q p)
one-showed (shows p x y z) (shows q u v w) = record { answer = x ∙ sym u; values-is = y ∙ sym v; owners-is = z ∙ sym w }

pub select-settled : (κs : _) (a : _) (x y : _) (e f : _) → select.Post κs a x e → select.Post κs a y f
    → One x y e.1.1.1.1.0.now e.1.1.1.1.1.0.now f.1.1.1.1.0.now f.1.1.1.1.1.0.now
select-settled κs a x y e f p q = one-showed p q
