-- 01's sample lines and some of their like, as bytes.
-- Assumes nothing.
use mathlib.Core.Path.{◌≡◌, refl}
use mathlib.Core.List.{[], ◌∷◌}
use native.Mathlib.Omega.{arith}
use Rattle.bounded.specs.Lists.{concat_below}
use Rattle.model.specs.declared.What.TheVariants as Whats
use Rattle.std.specs.Prelude.{Ok, Err}
use Rattle.model.specs.declared.Fault.TheVariants as Faults
use Rattle.model.specs.Numbers.{fault_number, answer_number, count_of}
use Rattle.lines.specs.Text.{digit, digits_in, decimal}
use Rattle.lines.specs.Lines.{kind_of, answer_line, class_text, cell_text, row_line, row_lines, answer_text, refusal_text}
use Rattle.lines.specs.Written.{written}
use Rattle.lines.proofs.Decimals.{turns}

-- ---- numbers: 0, 10, 4294967295

nought : decimal 0 ≡ 48 ∷ []
unfolding decimal digits_in digit
nought = refl

ten : decimal 10 ≡ 49 ∷ 48 ∷ []
unfolding decimal digits_in digit
ten = refl

largest : decimal 4294967295 ≡ 52 ∷ 50 ∷ 57 ∷ 52 ∷ 57 ∷ 54 ∷ 55 ∷ 50 ∷ 57 ∷ 53 ∷ []
unfolding digits_in digit
largest = turns 9 4294967295 (omega arith)

-- ---- lines

-- a 16 0 1
inserted : answer_text Whats.Insert (Ok 1) 2 [] [] ≡ 97 ∷ 32 ∷ 49 ∷ 54 ∷ 32 ∷ 48 ∷ 32 ∷ 49 ∷ 10 ∷ []
unfolding answer_text answer_line row_lines kind_of answer_number count_of decimal digits_in digit
inserted = refl

-- a 19 0 1
raised : answer_text (Whats.Uplevel 7 255) (Ok 1) 2 [] [] ≡ 97 ∷ 32 ∷ 49 ∷ 57 ∷ 32 ∷ 48 ∷ 32 ∷ 49 ∷ 10 ∷ []
unfolding answer_text answer_line row_lines kind_of answer_number count_of decimal digits_in digit
raised = refl

-- a 17 12 0: a refusal has count 0
deleted : answer_text Whats.Delete (Err Faults.Referred) 2 [] [] ≡ 97 ∷ 32 ∷ 49 ∷ 55 ∷ 32 ∷ 49 ∷ 50 ∷ 32 ∷ 48 ∷ 10 ∷ []
unfolding answer_text answer_line row_lines kind_of answer_number fault_number count_of decimal digits_in digit
deleted = refl

-- a 20 0 2, then r 0 7/0 20/0 and r 1 7/0 20/0
selected : answer_text Whats.Select (Ok 2) 2 (7 ∷ 20 ∷ 7 ∷ 20 ∷ []) (0 ∷ 0 ∷ 0 ∷ 0 ∷ 0 ∷ 1 ∷ []) ≡ 97 ∷ 32 ∷ 50 ∷ 48 ∷ 32 ∷ 48 ∷ 32 ∷ 50 ∷ 10 ∷ 114 ∷ 32 ∷ 48 ∷ 32 ∷ 55 ∷ 47 ∷ 48 ∷ 32 ∷ 50 ∷ 48 ∷ 47 ∷ 48 ∷ 10 ∷ 114 ∷ 32 ∷ 49 ∷ 32 ∷ 55 ∷ 47 ∷ 48 ∷ 32 ∷ 50 ∷ 48 ∷ 47 ∷ 48 ∷ 10 ∷ []
unfolding answer_text answer_line row_lines kind_of answer_number count_of row_line cell_text class_text decimal digits_in digit concat_below
selected = refl

-- r 3 7/1 0/-: class 255 as a dash
null : row_line 2 (7 ∷ 0 ∷ []) (1 ∷ 255 ∷ 3 ∷ []) 0 ≡ 114 ∷ 32 ∷ 51 ∷ 32 ∷ 55 ∷ 47 ∷ 49 ∷ 32 ∷ 48 ∷ 47 ∷ 45 ∷ 10 ∷ []
unfolding row_line cell_text class_text decimal digits_in digit concat_below
null = refl

-- x 12
refused : refusal_text 12 ≡ 120 ∷ 32 ∷ 49 ∷ 50 ∷ 10 ∷ []
unfolding refusal_text decimal digits_in digit
refused = refl

-- ---- a buffer of three bytes, too short for the line x 1

cut : written 0 (120 ∷ 32 ∷ 49 ∷ 10 ∷ []) (0 ∷ 0 ∷ 0 ∷ []) ≡ 120 ∷ 32 ∷ 49 ∷ []
unfolding written
cut = refl

late : written 2 (120 ∷ 32 ∷ 49 ∷ 10 ∷ []) (0 ∷ 0 ∷ 0 ∷ []) ≡ 0 ∷ 0 ∷ 120 ∷ []
unfolding written
late = refl
