use native.Mathlib.Omega.{arith}
use mathlib.Core.Path.{sym, ◌∙◌}
use Rattle.bounded.proofs.Found.{some-below, none-below}
use Rattle.judge.proofs.Places.{spot, spot-row, lender-absent, lender-other, lender-is}
use Rattle.judge.proofs.tables.KeyedRow.lender.Goals as goal

pub returns-in_err-i : goal.returns-in_err-i
returns-in_err-i c = let e = c.args.self.now in
    c.from_residual.ensures ∙ lender-absent _ _ _ _ _ e.row.relation.now.ready c.args.level e.key e.class c.requires (none-below _ _ c.in_err-i.ensures)

pub at-p-requires : goal.at-p-requires
at-p-requires c = let e = c.args.self.now in let R = e.row.relation.now.ready in
    let f = some-below _ _ (sym c.in_ok-i.was ∙ c.find.ensures) in
    (spot-row _ _ _ _ _ R c.args.level c.in_ok-i.i c.requires (rw (← f.0) at f.1), R.keyed)

pub bounds-relation-p : goal.bounds-relation-p
bounds-relation-p c = let e = c.args.self.now in let R = e.row.relation.now.ready in
    let f = some-below _ _ (sym c.in_ok-i.was ∙ c.find.ensures) in
    let near = spot _ _ _ _ _ R c.args.level c.in_ok-i.i 0 c.requires (rw (← f.0) at f.1) R.keyed in
    omega (arith, c.at-p.ensures, near, R.classes)

pub returns-then-relation-p : goal.returns-then-relation-p
returns-then-relation-p c = let e = c.args.self.now in let R = e.row.relation.now.ready in
    let f = some-below _ _ (sym c.in_ok-i.was ∙ c.find.ensures) in
    lender-other _ _ _ _ _ R c.args.level e.key e.class c.requires f.0 (rw (← f.0) at f.1) c.at-p.ensures c.if-relation-p.true

pub overflow_cast-result : goal.overflow_cast-result
overflow_cast-result c = let e = c.args.self.now in let R = e.row.relation.now.ready in
    let f = some-below _ _ (sym c.in_ok-i.was ∙ c.find.ensures) in
    let near = spot-row _ _ _ _ _ R c.args.level c.in_ok-i.i c.requires (rw (← f.0) at f.1) in
    omega (arith, c.at-p.ensures, near)

pub returns : goal.returns
returns c = let e = c.args.self.now in let R = e.row.relation.now.ready in
    let f = some-below _ _ (sym c.in_ok-i.was ∙ c.find.ensures) in
    lender-is _ _ _ _ _ R c.args.level e.key e.class c.requires f.0 (rw (← f.0) at f.1) c.at-p.ensures c.if-relation-p.false
