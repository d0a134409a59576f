use mathlib.Core.Path.{refl, ◌∙◌}
use Prim.Native.Nat.{◌<◌}
use native.Mathlib.Omega.{arith}
use Rattle.model.specs.Listed.{pairs as pairs_of}
use Rattle.model.proofs.Border.{inside-shown}
use Rattle.update.proofs.Setting.{set-start, set_more, set-end, pair-column, pair-second}
use Rattle.update.proofs.Updated.{update-listing}
use Rattle.update.proofs.Set.row.Goals as goal

-- The invariant: the pairs that were passed are set in the row, and nothing else has changed.

pub loop-column-init : goal.loop-column-init
loop-column-init c = (refl, refl, set-start _ _ _ _ _ _)

pub put-requires-clause-cell_inside : goal.put-requires-clause-cell_inside
unfolding pairs_of
put-requires-clause-cell_inside c = let l = c.loop-column in
    let h : l.column-index < pairs_of c.args.self.now.list.now = omega (arith, c.as_chunks.ensures.front_len, c.loop-column-test.true) in
    rw (pair-column _ c.as_chunks.ensures.front _ h) (inside-shown _ _ _ _ _ (record {
      relation = c.args.self.now.in_level.relation;
      level = c.args.self.now.in_level.level;
      row = c.requires.row_exists;
      least = (update-listing _ _ _ c.args.self.now.formed).least l.column-index h;
      column = (update-listing _ _ _ c.args.self.now.formed).most l.column-index h;
    }))

pub loop-column-preserved : goal.loop-column-preserved
unfolding pairs_of
loop-column-preserved c = let l = c.loop-column in
    let h : l.column-index < pairs_of c.args.self.now.list.now = omega (arith, c.as_chunks.ensures.front_len, c.loop-column-test.true) in (
      c.put.auto.values ∙ l.invariant.0,
      c.put.auto.classes ∙ l.invariant.1,
      set_more _ _ _ _ _ _ _ l.column-index (update-listing _ _ _ c.args.self.now.formed) h l.invariant.2
          (rw (pair-column _ c.as_chunks.ensures.front _ h, pair-second _ c.as_chunks.ensures.front _ h) at c.put.ensures),
    )

pub returns : goal.returns
unfolding pairs_of
returns c = set-end _ _ _ _ _ _ _ c.loop-column.column-index (omega (arith, c.as_chunks.ensures.front_len, c.loop-column.auto.column-index-end, c.loop-column-test.false)) c.loop-column.invariant.2
