use mathlib.Core.Path.{◌∙◌}
use Rattle.cells.proofs.Counts.{foreign-is}
use Rattle.above.proofs.Unnamed.{inside-foreign, value_cell, reference-stays, reference-kept, reference-falls}
use Rattle.above.proofs.references.Referrer.reference.Goals as goal

pub value_at-key-requires-clause-cell_inside : goal.value_at-key-requires-clause-cell_inside
value_at-key-requires-clause-cell_inside c = inside-foreign _ _ _ _ _ _ c.args.self.referring c.requires.in_row

pub gone-requires : goal.gone-requires
gone-requires c = rw c.args.self.same (record { lent = (c.requires.lent, c.args.self.referring.apart.few) })

pub returns-then-not-gone : goal.returns-then-not-gone
returns-then-not-gone c = reference-stays
    _ _ _ _ _ _ _ _ _
    (foreign-is _ _ c.args.self.referring.named)
    (c.value_at-key.ensures ∙ value_cell _ _ _ _ _ _ _)
    (rw c.args.self.same at c.gone.ensures)
    c.if-not-gone.true

pub kept-requires-clause-in_level : goal.kept-requires-clause-in_level
kept-requires-clause-in_level c = (c.args.self.referring.subject, inside-foreign _ _ _ _ _ _ c.args.self.referring c.requires.in_row)

pub returns-then-kept : goal.returns-then-kept
returns-then-kept c = reference-kept _ _ _ _ _ _ _ _ _ (foreign-is _ _ c.args.self.referring.named) (c.value_at-key.ensures ∙ value_cell _ _ _ _ _ _ _) c.kept.ensures c.if-kept.true

pub put_value-requires-clause-cell_inside : goal.put_value-requires-clause-cell_inside
put_value-requires-clause-cell_inside c = inside-foreign _ _ _ _ _ _ c.args.self.referring c.requires.in_row

pub returns : goal.returns
returns c = reference-falls
    _ _ _ _ _ _ _ _ _
    (foreign-is _ _ c.args.self.referring.named)
    (c.value_at-key.ensures ∙ value_cell _ _ _ _ _ _ _)
    (rw c.args.self.same at c.gone.ensures)
    c.if-not-gone.false
    c.kept.ensures
    c.if-kept.false
    c.args.self.referring.foreign
    c.args.self.referring.column
    (c.put_value.ensures _)
