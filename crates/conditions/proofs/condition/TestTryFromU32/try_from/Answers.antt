use native.Mathlib.Omega.{arith}
use Rattle.bounded.proofs.Reflection.{is_false}
use Rattle.model.proofs.Sound.{between-r}
use Rattle.conditions.proofs.condition.TestTryFromU32.try_from.Goals as goal

pub returns-in_default : goal.returns-in_default
returns-in_default c = is_false (between-r 1 5 _) (λ h. omega arith)
