use native.Mathlib.Omega.{arith}
use Rattle.select.proofs.Selected.{small-values, small-owners, short-values, short-owners, room-found, full-found}
use Rattle.select.proofs.fill.Goals as goal

pub overflow_mul-found : goal.overflow_mul-found
overflow_mul-found c = omega (arith, small-values c.args.table.part.laid c.rows-found.ensures.1)

pub returns-then-shown-found : goal.returns-then-shown-found
returns-then-shown-found c = short-values _ _ _ _ _ c.args.table.part.laid c.rows-found.ensures.0 _ _ c.if-shown-found.true

pub overflow_mul-found-2 : goal.overflow_mul-found-2
overflow_mul-found-2 c = omega (arith, small-owners c.args.table.part.laid c.rows-found.ensures.1)

pub returns-then-owners-found : goal.returns-then-owners-found
returns-then-owners-found c = short-owners _ _ _ _ _ c.args.table.part.laid c.rows-found.ensures.0 _ _ c.if-shown-found.false c.if-owners-found.true

pub write-requires : goal.write-requires
write-requires c = record { lent = (c.requires.lent.0, (c.requires.lent.1, c.requires.asking)); room = room-found _ _ _ _ _ c.args.table.part.laid c.rows-found.ensures.0 c.args.shown.now c.args.owners.now c.if-shown-found.false c.if-owners-found.false }

pub returns : goal.returns
returns c = full-found _ _ _ _ _ c.args.table.part.laid c.rows-found.ensures.0 _ _ c.if-shown-found.false c.if-owners-found.false c.write.ensures
