-- At most one outcome meets each public function's promise.
-- Assumes nothing.
use mathlib.Core.Path.{sym, ◌∙◌}
use Rattle.level.proofs.Settled.{Settled}
use Rattle.judge.proofs.legal.Reads as legal
use Rattle.judge.proofs.verdict.Reads as verdict
use Rattle.judge.proofs.judge.Reads as judge

pub legal-settled : Settled legal.Post
legal-settled κs a x y e f p q = p ∙ sym q

pub verdict-settled : Settled verdict.Post
verdict-settled κs a x y e f p q = p ∙ sym q

pub judge-settled : Settled judge.Post
judge-settled κs a x y e f p q = p ∙ sym q
