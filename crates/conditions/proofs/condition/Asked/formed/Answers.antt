use Rattle.conditions.proofs.Meeting.{column-there, column-zero, formed-some, formed-none}
use Rattle.conditions.proofs.condition.Asked.formed.Goals as goal
use Rattle.conditions.proofs.condition.Asked.formed.Goals.{then-self-ge1, else-self-ge1}

pub returns-then-self-columns : goal.returns-then-self-columns
returns-then-self-columns c =
    elim c.if-self-ge1.branch [
      | then-self-ge1 w ↦ formed-some _ _ _ (column-there _ _ _ c.requires w.if-self-ge1.true w.value-is) c.if-self-columns.true c.constant.ensures
      | else-self-ge1 w ↦ formed-some _ _ _ (column-zero _ _ _ w.if-self-ge1.false w.value-is) c.if-self-columns.true c.constant.ensures
    ]

pub returns-else-self-columns : goal.returns-else-self-columns
returns-else-self-columns c =
    elim c.if-self-ge1.branch [
      | then-self-ge1 w ↦ formed-none _ _ _ (column-there _ _ _ c.requires w.if-self-ge1.true w.value-is) c.if-self-columns.false
      | else-self-ge1 w ↦ formed-none _ _ _ (column-zero _ _ _ w.if-self-ge1.false w.value-is) c.if-self-columns.false
    ]
