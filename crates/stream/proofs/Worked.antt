-- 01's `mlrun` sample, its standard input and all that is printed for it; and a stream with a record out of order.
-- Assumes nothing.
use Prim.Native.Nat.{ℕ}
use mathlib.Core.Path.{◌≡◌, refl}
use mathlib.Core.List.{List, [], ◌∷◌, ◌++◌}
use Rattle.model.proofs.Computed.{computed}
use Rattle.records.proofs.Computed.{decoded}
use Rattle.lines.specs.Text.{digit, digits_in, decimal}
use Rattle.lines.specs.Lines.{kind_of, answer_line, class_text, cell_text, row_line, row_lines, answer_text, refusal_text}
use Rattle.stream.specs.Step.{extent_of, lent, keeping, describing, refuses, silent, labels_turn, relation_turn, call, answered, statement_turn, turn_of, step}
use Rattle.stream.specs.Stream.{start, printed_in, printed}

-- `04000100 00000100`
abbrev labels : List ℕ
labels = 4 ∷ 0 ∷ 1 ∷ 0 ∷ 0 ∷ 0 ∷ 1 ∷ 0 ∷ []

-- `10000200 0200020000000000 0000010000000100`
abbrev relation : List ℕ
relation = 16 ∷ 0 ∷ 2 ∷ 0 ∷ 2 ∷ 0 ∷ 2 ∷ 0 ∷ 0 ∷ 0 ∷ 0 ∷ 0 ∷ 0 ∷ 0 ∷ 1 ∷ 0 ∷ 0 ∷ 0 ∷ 1 ∷ 0 ∷ []

-- `12001000 000001000200 010007000000 020014000000`
abbrev insert : List ℕ
insert = 18 ∷ 0 ∷ 16 ∷ 0 ∷ 0 ∷ 0 ∷ 1 ∷ 0 ∷ 2 ∷ 0 ∷ 1 ∷ 0 ∷ 7 ∷ 0 ∷ 0 ∷ 0 ∷ 2 ∷ 0 ∷ 20 ∷ 0 ∷ 0 ∷ 0 ∷ []

-- `10001300 01000100 07000000 ff000100 02000000`
abbrev uplevel : List ℕ
uplevel = 16 ∷ 0 ∷ 19 ∷ 0 ∷ 1 ∷ 0 ∷ 1 ∷ 0 ∷ 7 ∷ 0 ∷ 0 ∷ 0 ∷ 255 ∷ 0 ∷ 1 ∷ 0 ∷ 2 ∷ 0 ∷ 0 ∷ 0 ∷ []

-- `0c001400 010001000200 010000000000`
abbrev select : List ℕ
select = 12 ∷ 0 ∷ 20 ∷ 0 ∷ 1 ∷ 0 ∷ 1 ∷ 0 ∷ 2 ∷ 0 ∷ 1 ∷ 0 ∷ 0 ∷ 0 ∷ 0 ∷ 0 ∷ []

-- `a 16 0 1`
abbrev inserted : List ℕ
inserted = 97 ∷ 32 ∷ 49 ∷ 54 ∷ 32 ∷ 48 ∷ 32 ∷ 49 ∷ 10 ∷ []

-- `a 19 0 1`
abbrev uplevelled : List ℕ
uplevelled = 97 ∷ 32 ∷ 49 ∷ 57 ∷ 32 ∷ 48 ∷ 32 ∷ 49 ∷ 10 ∷ []

-- `a 20 0 2`
abbrev selected : List ℕ
selected = 97 ∷ 32 ∷ 50 ∷ 48 ∷ 32 ∷ 48 ∷ 32 ∷ 50 ∷ 10 ∷ []

-- `r 0 7/0 20/0`
abbrev low : List ℕ
low = 114 ∷ 32 ∷ 48 ∷ 32 ∷ 55 ∷ 47 ∷ 48 ∷ 32 ∷ 50 ∷ 48 ∷ 47 ∷ 48 ∷ 10 ∷ []

-- `r 1 7/0 20/0`
abbrev high : List ℕ
high = 114 ∷ 32 ∷ 49 ∷ 32 ∷ 55 ∷ 47 ∷ 48 ∷ 32 ∷ 50 ∷ 48 ∷ 47 ∷ 48 ∷ 10 ∷ []

pub sample : printed (labels ++ (relation ++ (insert ++ (uplevel ++ select)))) ≡ inserted ++ (uplevelled ++ (selected ++ (low ++ high)))
unfolding computed decoded digit digits_in decimal kind_of answer_line class_text cell_text row_line row_lines answer_text extent_of lent keeping describing silent labels_turn relation_turn call answered statement_turn turn_of step start printed_in printed
sample = refl

-- `x 2`: "A record out of order .. prints `x`, a space and its number from 1, and ends"
pub out_of_order : printed (labels ++ (labels ++ labels)) ≡ 120 ∷ 32 ∷ 50 ∷ 10 ∷ []
unfolding computed decoded digit digits_in decimal refusal_text describing refuses silent labels_turn turn_of step start printed_in printed
out_of_order = refl
