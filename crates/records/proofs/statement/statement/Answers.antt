use Prim.Native.Nat.{◌≤◌}
use Rattle.std.proofs.Common.{rules}
use mathlib.Core.Path.{sym, ◌∙◌}
use native.Mathlib.Omega.{arith}
use Rattle.records.specs.Kinds.{number_of}
use Rattle.records.specs.Statements.{statement_of, list_of, conditions_of}
use Rattle.records.proofs.Asked.{known, unknown}
use Rattle.records.proofs.Extents.{form-early, list-end-is, length-asked-is, list-starts, list-room, conditions-room}
use Rattle.records.proofs.Outcomes.{refused, done, kindless, broken, misfit, statement-is}
use Rattle.records.proofs.statement.statement.Goals.{then-not-is_whole-via-then-not-is_whole, then-not-is_whole-via-else-not-is_whole+then-bytes-list_end}
use Rattle.records.proofs.statement.statement.Goals as goal

-- A record that is no statement, or one whose two lists are filled, the second from where the first ends.

pub returns-in_default : goal.returns-in_default
returns-in_default c = refused _ _ (kindless _ (unknown _ (sym c.what.ensures ∙ c.in_default.is)))

pub list_end-end-requires : goal.list_end-end-requires
list_end-end-requires c = rw c.form_of-form.ensures (omega (arith, (form-early (number_of c.in-Some.what)).high))

pub list_end-requires : goal.list_end-requires
list_end-requires c = let h : c.form_of-form.result.at ≤ 14 = rw c.form_of-form.ensures (form-early (number_of c.in-Some.what)).high in
    omega (arith, c.list_end-end.ensures.1)

pub returns-then-not-is_whole : goal.returns-then-not-is_whole
returns-then-not-is_whole c = let k = known c.args.bytes.now (sym c.what.ensures ∙ c.in-Some.is) in
    let f = c.form_of-form.ensures ∙ k.form-is in
    let e = list-end-is c.args.bytes.now f c.list_end-end.ensures.0 in
    elim c.then-not-is_whole.branch [
      | then-not-is_whole-via-then-not-is_whole w ↦ refused _ _ (broken _ (sym c.is_whole.ensures ∙ w.if-not-is_whole.true))
      | then-not-is_whole-via-else-not-is_whole+then-bytes-list_end w ↦ refused _ _ (misfit _ (λ l. w.if-bytes-list_end.true (l ∙ sym (length-asked-is c.args.bytes.now f e w.list_end.ensures.0))))
    ]

pub fill-requires : goal.fill-requires
fill-requires c = let k = known c.args.bytes.now (sym c.what.ensures ∙ c.in-Some.is) in
    let f = c.form_of-form.ensures ∙ k.form-is in
    let e = list-end-is c.args.bytes.now f c.list_end-end.ensures.0 in
    let s = statement-is c.args.bytes.now (sym c.is_whole.ensures ∙ c.if-not-is_whole.false) k.is-kind (c.if-bytes-list_end.false ∙ length-asked-is c.args.bytes.now f e c.list_end.ensures.0) in
    rw f ((form-early _).low, (list-room _ s, search rules))

pub fill-requires-2 : goal.fill-requires-2
fill-requires-2 c = let k = known c.args.bytes.now (sym c.what.ensures ∙ c.in-Some.is) in
    let f = c.form_of-form.ensures ∙ k.form-is in
    let e = list-end-is c.args.bytes.now f c.list_end-end.ensures.0 in
    let s = statement-is c.args.bytes.now (sym c.is_whole.ensures ∙ c.if-not-is_whole.false) k.is-kind (c.if-bytes-list_end.false ∙ length-asked-is c.args.bytes.now f e c.list_end.ensures.0) in
    rw (e, f) (list-starts _, (conditions-room _ s, search rules))

pub returns : goal.returns
unfolding statement_of list_of conditions_of
returns c = let k = known c.args.bytes.now (sym c.what.ensures ∙ c.in-Some.is) in
    let f = c.form_of-form.ensures ∙ k.form-is in
    let e = list-end-is c.args.bytes.now f c.list_end-end.ensures.0 in
    let s = statement-is c.args.bytes.now (sym c.is_whole.ensures ∙ c.if-not-is_whole.false) k.is-kind (c.if-bytes-list_end.false ∙ length-asked-is c.args.bytes.now f e c.list_end.ensures.0) in
    done _ _ s (rw (c.pair.ensures, c.pair-2.ensures, k.what-is)) (rw (← f) c.fill.ensures) (rw (← f, ← e) c.fill-2.ensures)
