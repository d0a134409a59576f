use mathlib.Core.Path.{◌≡◌, ◌∙◌}
use mathlib.Core.Bool.{false}
use native.Mathlib.Omega.{arith}
use lib.ListN.{length, get_or, replicate}
use Rattle.conditions.proofs.Meeting.{line-at}
use Rattle.conditions.proofs.line.Goals as goal

pub returns : goal.returns
returns c =
    let e : c.unwrap_or.result ≡ get_or c.args.order c.args.constant (replicate 16 false) = c.unwrap_or.ensures ∙ rw c.copied.ensures (c.get.ensures.lookup.4 (omega arith) _) in
    -- the array that is handed in has 16 rows by its type
    let wide : length c.args.order ≡ 16 = c.well_formed.1.0.1.0.1 in
    rw e (line-at _ _ c.requires wide _)
