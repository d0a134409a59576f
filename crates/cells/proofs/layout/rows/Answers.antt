use native.Mathlib.Omega.{arith}
use Rattle.cells.proofs.Counts.{relation-few, row_count_lem, rows_few}
use Rattle.cells.proofs.layout.rows.Goals as goal

pub offset_bounds-description-relation : goal.offset_bounds-description-relation
offset_bounds-description-relation c = omega (arith, relation-few _ c.requires.sound_description _ c.requires.known_relation)

pub bounds-description-relation : goal.bounds-description-relation
bounds-description-relation c = omega (arith, relation-few _ c.requires.sound_description _ c.requires.known_relation)

pub returns : goal.returns
returns c = let e = row_count_lem _ c.requires.sound_description _ c.requires.known_relation in
    record { is = e; few = rw e (rows_few _ c.requires.sound_description _ c.requires.known_relation) }
