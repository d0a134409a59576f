-- With each write less is left.
use Rattle.std.proofs.Common.{length}
use Rattle.mlrun.proofs.writing.Writer.put.Given as goal

abbrev pub decreases-loop-rest : goal.decreases-loop-rest
decreases-loop-rest g l = length l.rest
