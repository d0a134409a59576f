use Rattle.std.proofs.Common.{ℕ, ◌≤◌, length, arith, ◌∙◌}
use lib.Dec.{leb}
use Rattle.model.specs.Description.{label_of, labels_sound}
use Rattle.describe.proofs.Descriptions.{all-of-first, distinct-of-first}
use Rattle.describe.proofs.labels.Goals as goal

pub returns-then-small : goal.returns-then-small
unfolding labels_sound label_of
returns-then-small c =
    let long : c.args.d.now.levels ≤ length c.args.d.now.labels = omega arith in
    rw (← (all-of-first (λ (label : ℕ). leb label 4095) _ _ long), ← c.small.ensures, c.if-small.true) (c.distinct.ensures ∙ distinct-of-first _ _ long)

pub returns-else-small : goal.returns-else-small
unfolding labels_sound label_of
returns-else-small c =
    let long : c.args.d.now.levels ≤ length c.args.d.now.labels = omega arith in
    rw (← (all-of-first (λ (label : ℕ). leb label 4095) _ _ long), ← c.small.ensures, c.if-small.false)
