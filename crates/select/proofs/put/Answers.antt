use mathlib.Core.Path.{refl}
use Rattle.select.proofs.Shown.{room-values, room-owners, wrote-chosen}
use Rattle.select.proofs.put.Goals as goal

pub copy-requires : goal.copy-requires
copy-requires c = record { sized = (c.requires.lent.0.values, c.requires.lent.1.0); relation_in_bounds = room-values _ _ _ _ _ _ refl c.requires.room }

pub own-requires : goal.own-requires
own-requires c = record { sized = (c.requires.lent.0.classes, c.requires.lent.1.0); level_bound = (c.requires.lent.1.1, room-owners _ _ _ _ _ _ refl c.requires.room) }

pub returns : goal.returns
returns c = wrote-chosen _ _ _ _ _ _ _ _ refl c.args.part.laid.columns c.copy.ensures c.own.ensures
