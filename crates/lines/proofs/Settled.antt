-- At most one outcome meets the promise of each public function, as the checker reads the promise from the source: one number of bytes,
-- and one byte at each place of the buffer.
-- Assumes nothing.
use Prim.Native.Nat.{ℕ}
use mathlib.Core.Path.{◌≡◌, sym, ◌∙◌}
use mathlib.Core.List.{List}
use Rattle.lines.specs.Written.{Wrote}
use Rattle.lines.proofs.answer.Reads as answer
use Rattle.lines.proofs.refusal.Reads as refusal

pub record One (n m : ℕ) (text text' : List ℕ) : Type 0 where
  pub next-is : n ≡ m
  pub text-is : text ≡ text'

one-wrote : {at n m : ℕ} {s b c d : List ℕ} → Wrote at s b c n → Wrote at s b d m → One n m c d
one-wrote p q = record { next-is = p.next-is ∙ sym q.next-is; text-is = p.is ∙ sym q.is }

pub answer-settled : (κs : _) (a : _) (x y : _) (e f : _) → answer.Post κs a x e → answer.Post κs a y f
    → One x y e.1.1.0.now f.1.1.0.now
answer-settled κs a x y e f p q = one-wrote p q

pub refusal-settled : (κs : _) (a : _) (x y : _) (e f : _) → refusal.Post κs a x e → refusal.Post κs a y f
    → One x y e.0.now f.0.now
refusal-settled κs a x y e f p q = one-wrote p q
