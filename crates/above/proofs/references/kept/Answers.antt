use Rattle.above.proofs.Unnamed.{kept-not, kept-held}
use Rattle.above.proofs.references.kept.Goals as goal

pub returns-then-class_at-subject : goal.returns-then-class_at-subject
returns-then-class_at-subject c = kept-not _ _ _ _ _ _ _ _ _ c.class_at.ensures c.if-class_at-subject.true

pub returns : goal.returns
returns c = kept-held _ _ _ _ _ _ _ _ _ c.class_at.ensures c.if-class_at-subject.false c.owns.ensures
