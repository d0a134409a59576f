use Rattle.std.proofs.Common.{◌≡◌, true, false, rules, arith, refl}
use mathlib.Core.List.{append-nil}
use lib.Dec.{eqb}
use Rattle.std.proofs.lemmas.Grind.{common_steps}
use Rattle.model.specs.declared.What.{What}
use Rattle.model.specs.declared.What.TheVariants as Whats
use Rattle.lines.specs.Lines.{answer_text, row_lines, kind_of}
use Rattle.lines.proofs.Writing.{writes_on}
use Rattle.lines.proofs.answer.Goals as goal
use Rattle.lines.proofs.answer.Goals.{then-matches, else-matches}

-- SELECT is the statement of kind 20
select : (what : What) → what ≡ Whats.Select → eqb (kind_of what) 20 ≡ true
unfolding kind_of
select what e = rw e

other : (what : What) → (what ≡ Whats.Select → ⊥) → eqb (kind_of what) 20 ≡ false
unfolding kind_of
other Whats.Insert n = refl
other Whats.Delete n = refl
other Whats.Update n = refl
other (Whats.Uplevel key class) n = refl
other Whats.Select n = absurd (n refl)

pub returns : goal.returns
unfolding answer_text row_lines
returns c =
    let kind : c.match-matches.matches ≡ eqb (kind_of c.args.what) 20 = grind (arith, common_steps, select c.args.what, other c.args.what) in
    elim c.if-matches.branch [
      | then-matches w ↦ let p = writes_on c.line.ensures w.rows.ensures in rw (w.lines-is, ← kind, w.if-matches.true, ← w.count.ensures) (search (rules, p.wrote, p.same))
      | else-matches w ↦ rw (w.lines-is, ← kind, w.if-matches.false, append-nil) (search (rules, c.line.ensures.wrote, c.line.ensures.same))
    ]
