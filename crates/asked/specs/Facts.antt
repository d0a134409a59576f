-- What the readers of a statement's lists promise.
-- Assumes nothing: these are definitions and statements.
use Rattle.std.specs.Prelude.{◌≡◌, Bool, ◌&&◌, List, [], ℕ, eqb, get_or, Option}
use Rattle.bounded.specs.Bounded.{first_below, some_below}
use Rattle.model.specs.declared.Description.{Description}
use Rattle.model.specs.Description.{is_level, is_column, over, in_range}
use Rattle.model.specs.Listed.{pairs, column_at}
use Rattle.asked.specs.declared.pairs.Rule.{Rule}
use Rattle.asked.specs.declared.pairs.Rule.TheVariants as Rules

-- ---- entries

-- the number that entry i begins with
unfoldable pub first_of : List (List ℕ) → ℕ → ℕ
first_of entries i = get_or (get_or entries i []) 0 0

-- ---- pairs

-- what is asked of a pair
unfoldable pub rule_of : Description → ℕ → Rule → ℕ → ℕ → Bool
rule_of d r Rules.Column k a = is_column d r k
rule_of d r Rules.From k a = is_column d r k && is_level d a
rule_of d r (Rules.Takes c) k a = in_range d r k c
rule_of d r Rules.Lends k a = in_range d r k a
rule_of d r (Rules.Below c) k a = over d c a
rule_of d r (Rules.Above c) k a = over d a c

-- the pair of column k, none where there is none
abbrev pub Found : List ℕ → ℕ → Option ℕ → Type 0
Found list k i = i ≡ some_below (pairs list) (first_below (pairs list) (λ j. eqb (column_at list j) k))
