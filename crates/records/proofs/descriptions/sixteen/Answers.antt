use native.Mathlib.Omega.{arith}
use mathlib.Core.Path.{◌∙◌}
use Rattle.bounded.proofs.Lists.{numbers-start, numbers-end, list_length}
use Rattle.records.specs.Descriptions.{labels_of}
use Rattle.records.proofs.Written.{write-whole, numbers-first}
use Rattle.records.proofs.descriptions.sixteen.Goals as goal

-- The invariant: the labels of the levels passed are written.

pub loop-level-init : goal.loop-level-init
loop-level-init c = numbers-start _ _ _

pub loop-level-preserved : goal.loop-level-preserved
loop-level-preserved c = numbers-first _ _ _ c.loop-level.invariant (omega arith) c.label.ensures

pub returns : goal.returns
unfolding labels_of
returns c = let l = c.loop-level in
    numbers-end 16 _ 0 _ _ l.invariant l.auto.level-end c.loop-level-test.false ∙ write-whole _ _ (list_length 16 _)
