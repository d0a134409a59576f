use native.Mathlib.Omega.{arith}
use Rattle.bounded.proofs.Found.{some-below, none-below}
use Rattle.judge.proofs.Places.{spot, spot-row}
use Rattle.judge.proofs.Entities.{names-out, names-none, names-own, names-lost, names-both}
use Rattle.judge.proofs.tables.Relation.names.Goals as goal

pub returns-then-self-e : goal.returns-then-self-e
returns-then-self-e c = let R = c.args.self.now.refers.ready c.requires.refers in
    names-out _ _ _ _ _ R _ _ _ c.requires.asked.level c.requires.asked.key (omega (arith, R.depth, c.if-self-e.true))

pub returns-in_default : goal.returns-in_default
returns-in_default c = let R = c.args.self.now.refers.ready c.requires.refers in
    names-none _ _ _ _ _ R _ _ _ c.requires.asked.level c.requires.asked.key (none-below _ _ c.in_default.ensures)

pub returns-then-e-level : goal.returns-then-e-level
returns-then-e-level c = let R = c.args.self.now.refers.ready c.requires.refers in
    let f = some-below _ _ c.in-Some.ensures in
    names-own _ _ _ _ _ R _ _ _ c.requires.asked.level c.requires.asked.key f.0 (rw (← f.0) at f.1) c.if-e-level.true

pub returns-in_default-sought : goal.returns-in_default-sought
returns-in_default-sought c = let R = c.args.self.now.refers.ready c.requires.refers in
    let f = some-below _ _ c.in-Some.ensures in
    names-lost _ _ _ _ _ R _ _ _ c.requires.asked.level c.requires.asked.key f.0 (rw (← f.0) at f.1) (none-below _ _ c.in_default-sought.ensures)

pub at-p-requires : goal.at-p-requires
at-p-requires c = let R = c.args.self.now.refers.ready c.requires.refers in
    let f = some-below _ _ c.in-Some-sought.ensures in
    (spot-row _ _ _ _ _ R c.args.c c.in-Some-sought.j (omega (arith, R.depth, c.if-self-e.false)) (rw (← f.0) at f.1), R.keyed)

pub at-q-requires : goal.at-q-requires
at-q-requires c = let R = c.args.self.now.refers.ready c.requires.refers in
    let f = some-below _ _ c.in-Some.ensures in
    (spot-row _ _ _ _ _ R c.args.level c.in-Some.i c.requires.asked.level (rw (← f.0) at f.1), R.keyed)

pub bounds-classes-p : goal.bounds-classes-p
bounds-classes-p c = let R = c.args.self.now.refers.ready c.requires.refers in
    let f = some-below _ _ c.in-Some-sought.ensures in
    let near = spot _ _ _ _ _ R c.args.c c.in-Some-sought.j 0 (omega (arith, R.depth, c.if-self-e.false)) (rw (← f.0) at f.1) R.keyed in
    omega (arith, c.at-p.ensures, near, R.classes)

pub bounds-classes-q : goal.bounds-classes-q
bounds-classes-q c = let R = c.args.self.now.refers.ready c.requires.refers in
    let f = some-below _ _ c.in-Some.ensures in
    let near = spot _ _ _ _ _ R c.args.level c.in-Some.i 0 c.requires.asked.level (rw (← f.0) at f.1) R.keyed in
    omega (arith, c.at-q.ensures, near, R.classes)

pub returns : goal.returns
returns c = let R = c.args.self.now.refers.ready c.requires.refers in
    let f = some-below _ _ c.in-Some.ensures in
    let g = some-below _ _ c.in-Some-sought.ensures in
    names-both _ _ _ _ _ R _ _ _ c.requires.asked.level c.requires.asked.key f.0 (rw (← f.0) at f.1) g.0 (rw (← g.0) at g.1) (omega (arith, R.depth, c.if-self-e.false)) c.at-p.ensures c.at-q.ensures
