use mathlib.Core.Path.{ap, sym, ◌∙◌}
use Rattle.bounded.specs.Bounded.{some_below}
use Rattle.judge.proofs.Places.{place_found}
use Rattle.judge.proofs.tables.Relation.sought.Goals as goal

pub returns : goal.returns
returns c =
    let ready = c.args.self.now.refers.ready c.requires.refers in
    c.find.ensures ∙ ap (some_below c.args.self.now.target.rows) (sym (place_found _ _ _ _ _ ready c.args.level c.args.key c.requires.asked.level))
