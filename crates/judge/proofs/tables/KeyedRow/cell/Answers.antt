use Rattle.judge.proofs.Columns.{at_null, at-unfit, at_level, at_own, at-lent}
use Rattle.judge.proofs.tables.KeyedRow.cell.Goals as goal

pub returns-then-c : goal.returns-then-c
returns-then-c c = let e = c.args.self.now in let R = e.row.relation.now.ready in
    (at_null _ _ _ _ _ R _ _ _ _ _ _ e.in_row c.requires.column c.if-c.true, c.requires.known)

pub returns-then-not-has : goal.returns-then-not-has
returns-then-not-has c = let e = c.args.self.now in let R = e.row.relation.now.ready in
    (at-unfit _ _ _ _ _ R _ _ _ _ _ _ e.in_row c.requires.column _ c.requires.fitting c.has.ensures c.if-c.false c.if-not-has.true, c.requires.known)

pub returns-then-e-self : goal.returns-then-e-self
returns-then-e-self c = let e = c.args.self.now in let R = e.row.relation.now.ready in
    (at_own _ _ _ _ _ R _ _ _ _ _ _ e.in_row c.requires.column _ c.requires.fitting c.has.ensures c.if-c.false c.if-not-has.false c.if-e-self.true, c.requires.known)

pub cached-p-requires-clause-level : goal.cached-p-requires-clause-level
cached-p-requires-clause-level c = let e = c.args.self.now in let R = e.row.relation.now.ready in
    at_level _ _ _ _ _ R _ _ _ _ _ _ e.in_row c.requires.column _ c.requires.fitting c.has.ensures c.if-not-has.false

pub lent-requires-clause-level : goal.lent-requires-clause-level
lent-requires-clause-level c = let e = c.args.self.now in let R = e.row.relation.now.ready in
    at_level _ _ _ _ _ R _ _ _ _ _ _ e.in_row c.requires.column _ c.requires.fitting c.has.ensures c.if-not-has.false

pub returns : goal.returns
returns c = let e = c.args.self.now in let R = e.row.relation.now.ready in
    (at-lent _ _ _ _ _ R _ _ _ _ _ _ e.in_row c.requires.column _ c.requires.fitting c.has.ensures c.if-c.false c.if-not-has.false c.lent.ensures, c.cached-p.ensures.1)
