use native.Mathlib.Omega.{arith}
use Rattle.bounded.proofs.Reflection.{is_true}
use Rattle.model.proofs.Sound.{column-r}
use Rattle.uplevel.proofs.raising.Raising.compose.Goals as goal

-- The invariant: the columns that were passed have their values and their classes.

pub borrow-new-requires : goal.borrow-new-requires
borrow-new-requires c = record { standing = (c.requires.standing, is_true (column-r _ _ _) (omega arith, omega (arith, c.args.self.now.table.part.laid.columns, c.loop-column-test.true))) }
