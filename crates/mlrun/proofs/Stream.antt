-- Record after record, as `mlrun` takes them off what is left of its input, is the stream of `stream`'s definition: a step on the record at the
-- front, then the same with what stands behind it.
-- Assumes nothing.
use Rattle.std.specs.Prelude.{if◌then◌else◌}
use mathlib.Core.Path.{◌≡◌}
use mathlib.Core.Bool.{false}
use mathlib.Core.List.{List, [], ◌∷◌, ◌++◌}
use Prim.Native.Nat.{ℕ, suc}
use lib.ListN.{take}
use Rattle.records.specs.Record.{size_of, whole, kind_after}
use Rattle.input.specs.Front.{wanted, front, behind}
use Rattle.input.proofs.Sized.{front-cases}
use Rattle.stream.specs.Step.{Held, Turn, step, turn_of, refuses}
use Rattle.stream.specs.Stream.{printed_in}

-- a record that isn't whole is refused
refused : (h : Held) (number : ℕ) (bytes : List ℕ) → whole bytes ≡ false → step h number bytes ≡ refuses h number
unfolding step turn_of kind_after
refused h number bytes e = rw e

-- what is printed for a step and the rest
abbrev then-on : ℕ → ℕ → Turn → List ℕ → List ℕ
then-on turns number turn rest = turn.text ++ (if turn.goes then printed_in turns turn.held (suc number) rest else [])

pub printed-steps : (turns : ℕ) (h : Held) (number byte : ℕ) (bytes : List ℕ)
    → let stream = byte ∷ bytes in
    printed_in (suc turns) h number stream ≡ then-on turns number (step h number (front stream)) (behind stream)
unfolding printed_in front behind refuses
printed-steps turns h number byte bytes =
    front-cases (byte ∷ bytes)
    (λ e. rw e)
    (λ p q. rw (refused h number (take (wanted (byte ∷ bytes)) (byte ∷ bytes)) p, refused h number (take (size_of (byte ∷ bytes)) (byte ∷ bytes)) q))
