use mathlib.Core.Path.{refl}
use Rattle.register.proofs.Outcomes.{refusal-out}
use Rattle.register.proofs.Served.{ordered_of}
use Rattle.register.proofs.Verdicts.{judged-of, judged-refused}
use Rattle.register.proofs.run.Goals as goal

pub verdict-requires : goal.verdict-requires
verdict-requires c = c.order-order.ensures

pub invariant_of-levels : goal.invariant_of-levels
invariant_of-levels c = record { ordered = ordered_of _ _ (judged-of _ _ _ c.verdict.ensures c.in-Ok.is).sound-is c.order-order.ensures }

pub serve-requires : goal.serve-requires
serve-requires c = judged-of _ _ _ c.verdict.ensures c.in-Ok.is

pub returns-in-Err : goal.returns-in-Err
returns-in-Err c = refusal-out _ _ _ _ (judged-refused _ _ _ c.verdict.ensures c.in-Err.is) refl
