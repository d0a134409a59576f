use Rattle.model.specs.Tables.{rows_of}
use Rattle.model.specs.Uplevel.{based as based_of}
use Rattle.change.specs.Facts.{sight}
use Rattle.uplevel.proofs.Sole.{Sole}
use Rattle.uplevel.proofs.meant.sole.Given as goal

abbrev pub invariant-loop-class : goal.invariant-loop-class
invariant-loop-class l =
    Sole l.class (based_of l.table.part.description l.subject l.table.part.relation l.key (rows_of (sight l.table.part.description l.subject l.values l.classes))) l.sole
