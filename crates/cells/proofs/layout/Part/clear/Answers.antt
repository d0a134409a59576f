use mathlib.Core.Path.{◌∙◌}
use native.Mathlib.Omega.{arith}
use Rattle.model.specs.Tables.{norow}
use Rattle.cells.proofs.Written.{row_as, nulls-empty}
use Rattle.cells.proofs.layout.Part.clear.Goals as goal

pub returns : goal.returns
returns c = c.store.ensures ∙ row_as _ _ _ _ _ norow _ (λ k z h. nulls-empty k (omega (arith, c.args.self.laid.narrow, c.args.self.laid.columns)))
