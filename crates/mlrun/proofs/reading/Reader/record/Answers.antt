-- The record at the front is no longer than what is there.
use Rattle.std.proofs.Common.{◌≡◌, ℕ, ◌∙◌, ◌-◌, List, [], ◌∷◌, arith, length, take, drop, refl, sym, ap, zero, suc}
use Rattle.std.proofs.Math.Seq.{length-take-le}
use Rattle.input.specs.Front.{wanted, front}
use Rattle.input.proofs.Shifting.{slice-take}
use Rattle.input.proofs.Stepping.{front-within}
use Rattle.mlrun.proofs.reading.Reader.record.Goals as goal

taken : (n : ℕ) (bytes : List ℕ) → take (length (take n bytes)) bytes ≡ take n bytes
taken zero bytes = refl
taken (suc n) [] = refl
taken (suc n) (x ∷ bytes) = ap (λ rest. x ∷ rest) (taken n bytes)

-- as many bytes of what is there as the record has are the record
front-taken : (bytes : List ℕ) → take (length (front bytes)) bytes ≡ front bytes
unfolding front
front-taken bytes = taken (wanted bytes) bytes

pub slice_bounds-result-end : goal.slice_bounds-result-end
slice_bounds-result-end c =
    let s = c.args.self.now in
    let held : List ℕ = take (s.to - s.from) (drop s.from s.buffer) in
    sym (length-take-le c.size.result held (omega (arith, c.size.ensures, front-within held)))

pub returns-clause-is : goal.returns-clause-is
returns-clause-is c =
    let s = c.args.self.now in
    let held : List ℕ = take (s.to - s.from) (drop s.from s.buffer) in
    ap (λ n. take n held) c.size.ensures ∙ (front-taken held ∙ ap front (sym (slice-take s.from s.to s.buffer)))
