-- What a call and the judge answer.
-- Assumes nothing: these are definitions.
use Rattle.std.specs.Prelude.{ℕ, Result, ⊤}
use Rattle.model.specs.declared.Fault.{Fault}

-- the count of what was done, or why it is refused
abbrev pub Answer : Type 0
Answer = Result ℕ Fault

-- legal, or what is wrong
abbrev pub Verdict : Type 0
Verdict = Result ⊤ Fault
