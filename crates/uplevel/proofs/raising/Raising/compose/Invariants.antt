use Prim.Native.Nat.{◌-◌}
use Rattle.model.specs.Tables.{cell, rows_of, at}
use Rattle.model.specs.Uplevel.{raised}
use Rattle.change.specs.Facts.{Filled, sight}
use Rattle.uplevel.proofs.raising.Raising.compose.Given as goal

abbrev pub invariant-loop-column : goal.invariant-loop-column
invariant-loop-column l =
    let d = l.self.table.part.description in
    let r = l.self.table.part.relation in
    let R = raised d (at d (rows_of (sight d l.self.subject l.values l.classes))) l.self.subject r (cell l.self.entity.key l.self.entity.class) l.self.list.now in
    Filled (l.column - 1) (λ k. (R k).value) l.news × Filled (l.column - 1) (λ k. (R k).class) l.owners
