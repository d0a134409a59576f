-- What was held at the start of a loop of reads stays held through them.
-- Assumes nothing.
use mathlib.Core.Path.{◌≡◌, sym, ap, ◌∙◌}
use mathlib.Core.List.{List}
use Prim.Native.Nat.{ℕ, ◌≤◌}
use native.Mathlib.Omega.{arith}
use lib.ListN.{length, take}
use lib.Seq.{take-take}
use Rattle.mlrun.specs.Reading.{Added}

-- after some reads, one more
pub added_more : {to n count : ℕ} {a b c : List ℕ} → Added to n a b → length b ≡ length a → Added to count b c → Added to count a c
added_more p e q = record { within = omega (arith, q.within); kept = q.kept ∙ p.kept }

-- whatever came, a shorter part is as it was
pub added-less : {there to n : ℕ} {a b : List ℕ} → there ≤ to → Added to n a b → Added there 0 a b
added-less {there} {to} {n} {a} {b} h p =
    record {
      within = omega (arith, p.within);
      kept = sym (take-take there to b h) ∙ (ap (take there) p.kept ∙ take-take there to a h);
    }

-- what was held at the start of a loop of reads is held after one more read
pub added-on : {there to count : ℕ} {a b c : List ℕ} → there ≤ to → length b ≡ length a → Added there 0 a b → Added to count b c → Added there 0 a c
added-on h e p q = added_more p e (added-less h q)
