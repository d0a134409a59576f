use Rattle.judge.proofs.Entities.{names-zero, names-null, names-some}
use Rattle.judge.proofs.tables.Row.reference.Goals as goal

pub returns-in_default : goal.returns-in_default
returns-in_default c = let w = c.args.self.now in let r = w.relation.now in
    names-zero _ _ _ _ _ r.ready _ _ _ _ r.refers w.spot.level w.spot.below w.spot.stands c.in_default.is

pub returns-then-v-eq0 : goal.returns-then-v-eq0
returns-then-v-eq0 c = let w = c.args.self.now in let r = w.relation.now in
    names-null _ _ _ _ _ r.ready _ _ _ _ r.refers w.spot.level w.spot.below w.spot.stands c.in-Some.k c.in-Some.is c.if-v-eq0.true

pub returns : goal.returns
returns c = let w = c.args.self.now in let r = w.relation.now in
    names-some _ _ _ _ _ r.ready _ _ _ _ r.refers w.spot.level w.spot.below w.spot.stands c.in-Some.k c.in-Some.is c.names.ensures
