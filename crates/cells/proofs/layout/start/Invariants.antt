use mathlib.Core.Path.{◌≡◌}
use Rattle.model.specs.Description.{start_of}
use Rattle.cells.proofs.layout.start.Given as goal

abbrev pub invariant-loop-before : goal.invariant-loop-before
invariant-loop-before l = l.start ≡ start_of l.description l.before
