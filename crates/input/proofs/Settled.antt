-- At most one outcome meets the promise of each public function, as the checker reads the promise from the source: one answer, and for `shift`
-- one byte at each place of the buffer.
-- Assumes nothing.
use Prim.Native.Nat.{ℕ}
use mathlib.Core.Path.{◌≡◌, sym, ap, ◌∙◌}
use mathlib.Core.List.{List, ◌++◌}
use lib.ListN.{drop}
use lib.Seq.{slice}
use Rattle.level.proofs.Settled.{Settled}
use Rattle.input.specs.Buffer.{Shifted}
use Rattle.input.proofs.front.wanted.Reads as wanted
use Rattle.input.proofs.front.ready.Reads as ready
use Rattle.input.proofs.front.size.Reads as size
use Rattle.input.proofs.buffer.shift.Reads as shift

pub wanted-settled : Settled wanted.Post
wanted-settled κs a x y e f p q = p ∙ sym q

pub ready-settled : Settled ready.Post
ready-settled κs a x y e f p q = p ∙ sym q

pub size-settled : Settled size.Post
size-settled κs a x y e f p q = p ∙ sym q

-- ---- one answer and one buffer

pub record One (n m : ℕ) (buffer buffer' : List ℕ) : Type 0 where
  pub there-is : n ≡ m
  pub buffer-is : buffer ≡ buffer'

one_shifted : {from to n m : ℕ} {b c d : List ℕ} → Shifted from to b c n → Shifted from to b d m → One n m c d
one_shifted {from} {to} {n} {m} {b} p q =
    let e : n ≡ m = p.there-is ∙ sym q.there-is in
    record { there-is = e; buffer-is = p.is ∙ (ap (λ k. slice from to b ++ drop k b) e ∙ sym q.is) }

pub shift-settled : (κs : _) (a : _) (x y : _) (e f : _) → shift.Post κs a x e → shift.Post κs a y f
    → One x y e.0.now f.0.now
shift-settled κs a x y e f p q = one_shifted p q
