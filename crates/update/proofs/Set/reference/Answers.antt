use Rattle.update.proofs.Updated.{update-columns}
use Rattle.update.proofs.Set.reference.Goals as goal

pub listed-requires-clause-columns_listed : goal.listed-requires-clause-columns_listed
listed-requires-clause-columns_listed c = update-columns _ _ _ c.args.self.now.formed
