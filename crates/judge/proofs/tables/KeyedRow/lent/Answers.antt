use Prim.Native.Nat.{suc}
use mathlib.Core.Path.{sym, ◌∙◌}
use native.Mathlib.Omega.{arith}
use Rattle.judge.proofs.Places.{lends_none, lends_some, lent-spot, lent_other, lent_same, same_class}
use Rattle.judge.proofs.tables.KeyedRow.lent.Goals as goal

pub returns-in_default : goal.returns-in_default
returns-in_default c = let e = c.args.self.now in
    rw (lends_none _ _ _ _ _ e.row.relation.now.ready c.args.c e.key e.class (suc c.args.k) c.requires.level e.in_row.real (sym c.requires.from_lender.0 ∙ c.in_default.is)) (same_class c.args.v 0 c.args.c)

pub bounds-tables-place : goal.bounds-tables-place
bounds-tables-place c = let e = c.args.self.now in let R = e.row.relation.now.ready in
    let L = lends_some _ _ _ _ _ R c.args.c e.key e.class (suc c.args.k) c.requires.level (sym c.in-Some.is ∙ c.requires.from_lender.0) in
    let near = lent-spot _ _ _ _ _ R c.args.c e.key e.class c.requires.level c.args.k _ c.requires.from_lender.1 L in
    omega (arith, near, R.classes)

pub returns-then-tables-place : goal.returns-then-tables-place
returns-then-tables-place c = let e = c.args.self.now in let R = e.row.relation.now.ready in
    let L = lends_some _ _ _ _ _ R c.args.c e.key e.class (suc c.args.k) c.requires.level (sym c.in-Some.is ∙ c.requires.from_lender.0) in
    rw (lent_other _ _ _ _ _ R c.args.c e.key e.class c.requires.level c.args.k _ c.requires.from_lender.1 L c.if-tables-place.true) (same_class c.args.v 0 c.args.c)

pub bounds-tables-place-2 : goal.bounds-tables-place-2
bounds-tables-place-2 c = let e = c.args.self.now in let R = e.row.relation.now.ready in
    let L = lends_some _ _ _ _ _ R c.args.c e.key e.class (suc c.args.k) c.requires.level (sym c.in-Some.is ∙ c.requires.from_lender.0) in
    let near = lent-spot _ _ _ _ _ R c.args.c e.key e.class c.requires.level c.args.k _ c.requires.from_lender.1 L in
    omega (arith, near, R.values)

pub returns : goal.returns
returns c = let e = c.args.self.now in let R = e.row.relation.now.ready in
    let L = lends_some _ _ _ _ _ R c.args.c e.key e.class (suc c.args.k) c.requires.level (sym c.in-Some.is ∙ c.requires.from_lender.0) in
    rw (lent_same _ _ _ _ _ R c.args.c e.key e.class c.requires.level c.args.k _ c.requires.from_lender.1 L c.if-tables-place.false) (same_class c.args.v _ c.args.c)
