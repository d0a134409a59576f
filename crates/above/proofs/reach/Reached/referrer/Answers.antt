use mathlib.Core.Path.{refl, sym, ◌∙◌}
use native.Mathlib.Omega.{arith}
use Rattle.cells.proofs.Counts.{relation-few, refers-is}
use Rattle.above.proofs.Referred.{referring, referrer-none, referrer-done}
use Rattle.above.proofs.reach.Reached.referrer.Goals as goal

pub offset_bounds-description-referrer : goal.offset_bounds-description-referrer
offset_bounds-description-referrer c = omega (arith, relation-few _ c.requires.lent.1 _ c.requires.apart.1)

pub bounds-description-referrer : goal.bounds-description-referrer
bounds-description-referrer c = omega (arith, relation-few _ c.requires.lent.1 _ c.requires.apart.1)

pub returns-then-description-referrer : goal.returns-then-description-referrer
returns-then-description-referrer c = referrer-none _ _ _ _ _ _ _ (λ e. c.if-description-referrer.true (refers-is _ _ c.requires.apart.1 ∙ e))

-- it is laid out for the same description, and refers to the relation as that says
pub invariant_of-references : goal.invariant_of-references
invariant_of-references c = rw (c.lay-part.ensures.described, c.lay-part.ensures.of_relation)
    (record {
      same = refl;
      referring = referring _ _ _ _ _ c.requires.lent.1 c.requires.apart.0 c.args.self.at c.args.self.own c.requires.apart.1 (sym (refers-is _ _ c.requires.apart.1) ∙ c.if-description-referrer.false);
    })

pub references-requires : goal.references-requires
references-requires c = rw c.lay-part.ensures.described c.requires.lent.0

pub returns : goal.returns
returns c = referrer-done _ _ _ _ _ _ _ (sym (refers-is _ _ c.requires.apart.1) ∙ c.if-description-referrer.false) (rw (c.lay-part.ensures.described, c.lay-part.ensures.of_relation) at c.references.ensures)
