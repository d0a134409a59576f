use mathlib.Core.Path.{◌∙◌}
use native.Mathlib.Omega.{arith}
use Rattle.model.proofs.Sound.{sound-says}
use Rattle.judge.proofs.Columns.{between-of}
use Rattle.judge.proofs.Entities.{row-wild, row-cells, row-names}
use Rattle.judge.proofs.tables.KeyedRow.keyed.Goals as goal

pub returns-then-self-ge16 : goal.returns-then-self-ge16
returns-then-self-ge16 c = let e = c.args.self.now in
    row-wild _ _ _ _ _ e.row.relation.now.ready _ _ _ _ _ e.in_row c.if-self-ge16.true

pub bounds-tables-self : goal.bounds-tables-self
bounds-tables-self c = let e = c.args.self.now in let r = e.row.relation.now in
    omega (arith, e.in_row.level, (sound-says _ r.ready.sound-is).few-levels, r.tables.now.ordered.long)

pub cells-requires : goal.cells-requires
cells-requires c = let e = c.args.self.now in let r = e.row.relation.now in
    between-of _ _ _ _ _ r.tables.now.ordered (omega (arith, (sound-says _ r.ready.sound-is).few-levels, e.in_row.level)) c.if-self-ge16.false

pub returns-then-cells : goal.returns-then-cells
returns-then-cells c = let e = c.args.self.now in
    row-names _ _ _ _ _ e.row.relation.now.ready _ _ _ _ _ e.in_row c.cells.ensures c.if-cells.true c.reference.ensures

pub returns-else-cells : goal.returns-else-cells
returns-else-cells c = let e = c.args.self.now in
    c.if-cells.false ∙ row-cells _ _ _ _ _ e.row.relation.now.ready _ _ _ _ _ e.in_row c.cells.ensures c.if-cells.false
