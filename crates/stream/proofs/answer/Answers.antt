use Rattle.stream.proofs.Turns.{answer-took}
use Rattle.stream.proofs.answer.Goals as goal

-- The register's answer on the part of the room that the tables take.

pub returns : goal.returns
returns c = λ kind last. answer-took last _ _ _ kind _ _ c.total-extent.ensures c.min-a.ensures c.min-b.ensures c.run-answer.ensures c.columns-columns.ensures c.answer.ensures
