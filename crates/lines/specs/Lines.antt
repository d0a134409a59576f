-- The lines that are printed (01, "mlrun"), in ASCII bytes.
-- Assumes nothing: these are definitions.
use Rattle.model.specs.Answers.{Answer}
use Rattle.std.specs.Prelude.{ℕ, ◌+◌, ◌*◌, List, [], ◌∷◌, ◌++◌, eqb, get_or, if◌then◌else◌}
use Rattle.bounded.specs.Lists.{concat_below}
use Rattle.model.specs.declared.What.{What}
use Rattle.model.specs.declared.What.TheVariants as Whats
use Rattle.model.specs.Numbers.{answer_number, count_of}
use Rattle.lines.specs.Text.{decimal}

abbrev pub newline : ℕ
newline = 10

abbrev pub space : ℕ
space = 32

abbrev pub dash : ℕ
dash = 45

abbrev pub slash : ℕ
slash = 47

abbrev pub letter_a : ℕ
letter_a = 97

abbrev pub letter_r : ℕ
letter_r = 114

abbrev pub letter_x : ℕ
letter_x = 120

-- "16 INSERT", "17 DELETE", "18 UPDATE", "19 UPLEVEL", "20 SELECT"
unfoldable pub kind_of : What → ℕ
kind_of Whats.Insert = 16
kind_of Whats.Delete = 17
kind_of Whats.Update = 18
kind_of (Whats.Uplevel key class) = 19
kind_of Whats.Select = 20

-- "Each statement prints `a`, its kind, the number answered and the count"
unfoldable pub answer_line : What → Answer → List ℕ
answer_line what answer =
    (letter_a ∷ space ∷ decimal (kind_of what))
    ++ ((space ∷ decimal (answer_number answer)) ++ ((space ∷ decimal (count_of answer)) ++ (newline ∷ [])))

-- "class 255 as `-`"
unfoldable pub class_text : ℕ → List ℕ
class_text class = if eqb class 255 then dash ∷ [] else decimal class

unfoldable pub cell_text : ℕ → ℕ → List ℕ
cell_text value class = (space ∷ decimal value) ++ (slash ∷ class_text class)

-- the cells of a row, whose values and classes begin at two places of the output buffers
abbrev pub cell_texts : ℕ → List ℕ → List ℕ → ℕ → ℕ → List ℕ
cell_texts columns shown owners values classes = concat_below columns (λ k. cell_text (get_or shown (values + k) 0) (get_or owners (classes + k) 0))

-- "a line a row, `r`, TC and cells": row i of the output buffers, which have for each row its values, and its classes then TC
unfoldable pub row_line : ℕ → List ℕ → List ℕ → ℕ → List ℕ
row_line columns shown owners i =
    (letter_r ∷ space ∷ decimal (get_or owners (i * (columns + 1) + columns) 0))
    ++ (cell_texts columns shown owners (i * columns) (i * (columns + 1)) ++ (newline ∷ []))

-- the lines of the rows, for a SELECT
unfoldable pub row_lines : What → ℕ → ℕ → List ℕ → List ℕ → List ℕ
row_lines what count columns shown owners = if eqb (kind_of what) 20 then concat_below count (row_line columns shown owners) else []

-- "Each statement prints ..; SELECT adds a line a row"
unfoldable pub answer_text : What → Answer → ℕ → List ℕ → List ℕ → List ℕ
answer_text what answer columns shown owners = answer_line what answer ++ row_lines what (count_of answer) columns shown owners

-- "prints `x`, a space and its number from 1"
unfoldable pub refusal_text : ℕ → List ℕ
refusal_text number = (letter_x ∷ space ∷ decimal number) ++ (newline ∷ [])
