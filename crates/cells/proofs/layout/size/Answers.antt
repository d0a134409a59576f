use native.Mathlib.Omega.{arith}
use borrow.Author.Rules.{rules}
use Rattle.model.specs.Description.{size_of}
use Rattle.cells.proofs.Counts.{rows-small, size_small}
use Rattle.cells.proofs.layout.size.Goals as goal

pub overflow_mul-result : goal.overflow_mul-result
overflow_mul-result c = rw c.rows.ensures.is (omega (arith, rows-small _ c.requires.sound_description _ c.requires.known_relation))

pub overflow_mul-result-2 : goal.overflow_mul-result-2
overflow_mul-result-2 c = rw (c.rows.ensures.is, c.columns.ensures.is) (omega (arith, size_small _ c.requires.sound_description _ c.requires.known_relation))

pub returns : goal.returns
unfolding size_of
returns c = rw (c.rows.ensures.is, c.columns.ensures.is) (record { is = search rules; few = size_small _ c.requires.sound_description _ c.requires.known_relation })
