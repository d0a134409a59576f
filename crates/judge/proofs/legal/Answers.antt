use mathlib.Core.Path.{sym, ◌∙◌}
use Rattle.keys.proofs.Sets.{orders-of}
use Rattle.keys.proofs.Notes.{keyed-kept, distinct-kept}
use Rattle.judge.proofs.Passes.{laid_of, tables-twice, tables-legal}
use Rattle.judge.proofs.legal.Goals as goal

pub ranges-ranges-requires : goal.ranges-ranges-requires
ranges-ranges-requires c = (c.requires.sound_description.0, orders-of _ _ c.requires.sound_description.0 c.requires.sound_description.1 _ _ c.words-below.ensures c.words-above.ensures)

pub returns-then-not-relations : goal.returns-then-not-relations
returns-then-not-relations c = tables-twice _ _ _ _ c.requires.sound_description.0 c.fill.ensures c.relations.ensures.0 c.if-not-relations.true ∙ tables-legal _ _ _

pub invariant_of-tables : goal.invariant_of-tables
invariant_of-tables c = let K = c.relations.ensures in
    let F = keyed-kept _ c.requires.sound_description.0 _ _ K.1 _ c.fill.ensures in
    let D = distinct-kept _ c.requires.sound_description.0 _ _ K.1 ∙ sym K.0 ∙ c.if-not-relations.false in
    record {
      laid = laid_of _ _ _ _ _ c.requires.sound_description.0 c.starts-starts.ensures F c.requires.values_len.0 c.requires.values_len.1 D;
      ranged = c.ranges-ranges.ensures;
      ordered = orders-of _ _ c.requires.sound_description.0 c.requires.sound_description.1 _ _ c.words-below.ensures c.words-above.ensures;
    }

pub returns : goal.returns
returns c = c.relations-2.ensures ∙ tables-legal _ _ _
