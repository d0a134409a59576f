-- No more bytes come than there is room for behind the place, and those before it are not lent.
use Rattle.std.proofs.Common.{◌≡◌, ℕ, ◌+◌, ◌-◌, ◌≤◌, List, ◌++◌, Result, Ok, Err, length, take, drop, rules, of_calls, arith, length-take, length-drop}
use Rattle.std.proofs.Math.Seq.{take_at, length-take-le}
use Rattle.std.specs.Result.{result_unwrap_or}
use Rattle.std.proofs.lemmas.Fn.{answers_by}
use Rattle.mlrun.specs.Moving.{MovesAtMost}
use Rattle.mlrun.proofs.reading.more.Goals as goal

room : {E : Type 0} (to most all : ℕ) (moved : Result ℕ E) → MovesAtMost most moved → to + most ≤ all → to + result_unwrap_or moved 0 ≤ all
room to most all (Ok count) h k = omega arith
room to most all (Err e) h k = omega arith

kept : (to : ℕ) (before rest : List ℕ) → to ≤ length before → take to (take to before ++ rest) ≡ take to before
kept to before rest h = take_at (take to before) rest to (length-take-le to before h)

pub returns : goal.returns
returns g c =
    let n = length c.args.buffer.now - c.args.to in
    let came = c.patiently.ensures n
    (answers_by _ _ (λ q. length q.1.now ≡ n) (λ q a r q' k i. search (rules, of_calls)) _
    (omega (arith, length-take n (drop c.args.to c.args.buffer.now), length-drop c.args.to c.args.buffer.now))) in
    record { within = room c.args.to n _ c.patiently.result came (omega arith); kept = kept _ _ _ (omega arith) }
