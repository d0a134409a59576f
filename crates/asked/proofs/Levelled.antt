-- Laws of the order, and of where the columns' ranges stand.
-- Assumes nothing.
use mathlib.Core.Path.{◌≡◌, sym, ◌∙◌}
use mathlib.Core.Bool.{Bool, true}
use mathlib.Core.List.{List}
use Prim.Native.Nat.{ℕ, ◌+◌, ◌*◌, ◌<◌}
use native.Mathlib.Omega.{arith}
use Rattle.bounded.proofs.Reflection.{of-true}
use Rattle.level.specs.Order.{entry_of}
use Rattle.level.proofs.Levels.{order-laws}
use Rattle.model.specs.declared.Description.{Description}
use Rattle.model.specs.Description.{over, is_column}
use Rattle.model.proofs.Sound.{column-r}
use Rattle.asked.specs.Known.{Ordered, Related}

pub over-entry : (d : Description) (order : List (List Bool)) → Ordered d order → (a b : ℕ) → entry_of order a b ≡ over d a b
unfolding over
over-entry d order O a b = rw O.order_is ((order-laws d.labels d.levels).entries O.few a b)

-- ---- where a column's range stands in the description's lists

pub in_ranges : (d : Description) (r k columns : ℕ) → Related d r columns → {b : Bool} → b ≡ is_column d r k → b ≡ true → 9 * r + k < 81
in_ranges d r k columns R e t = let f = of-true (column-r d r k) (sym e ∙ t) in omega (arith, f.1, R.relation, R.is, R.narrow)
