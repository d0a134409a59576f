-- A description: its levels and relations, and when it is sound (01, "Levels" and "Relations, cells, buffers").
-- Assumes nothing: these are definitions.
use Rattle.std.specs.Prelude.{ℕ, suc, ◌+◌, ◌*◌, Bool, not, ◌&&◌, List, eqb, ltb, leb, get_or, if◌then◌else◌}
use Rattle.level.specs.Label.{height_of}
use Rattle.level.specs.Order.{level_dominates}
use Rattle.bounded.specs.Bounded.{all_below, sum_below}
use Rattle.model.specs.declared.Description.{Description}

unfoldable pub between : ℕ → ℕ → ℕ → Bool
between low high n = leb low n && leb n high

-- f 0, .., f (n - 1) are all different
unfoldable pub distinct_below : ℕ → (ℕ → ℕ) → Bool
distinct_below n f = all_below n (λ i. all_below i (λ j. not (eqb (f i) (f j))))

-- ---- levels

-- "levels, numbered from 0"
unfoldable pub is_level : Description → ℕ → Bool
is_level d l = ltb l d.levels

-- "Level a dominates b": false where either is no level
unfoldable pub over : Description → ℕ → ℕ → Bool
over d a b = level_dominates d.labels d.levels a b

unfoldable pub label_of : Description → ℕ → ℕ
label_of d l = get_or d.labels l 0

unfoldable pub height_at : Description → ℕ → ℕ
height_at d l = height_of (label_of d l)

-- ---- relations

-- "relations, numbered from 1"
unfoldable pub is_relation : Description → ℕ → Bool
is_relation d r = between 1 d.relations r

-- what one of the description's arrays has for relation r, 0 where there is no such relation
unfoldable pub of_relation : Description → List ℕ → ℕ → ℕ
of_relation d numbers r = if is_relation d r then get_or numbers r 0 else 0

unfoldable pub column_count : Description → ℕ → ℕ
column_count d r = of_relation d d.columns r

-- rows "for EACH level"
unfoldable pub row_count : Description → ℕ → ℕ
row_count d r = of_relation d d.rows r

-- the foreign key column, 0 for none, and the relation that it refers to
unfoldable pub foreign_of : Description → ℕ → ℕ
foreign_of d r = of_relation d d.foreign r

unfoldable pub refers_of : Description → ℕ → ℕ
refers_of d r = of_relation d d.refers r

-- columns are numbered from 1: "column 1 is the key"
unfoldable pub is_column : Description → ℕ → ℕ → Bool
is_column d r k = between 1 (column_count d r) k

-- "a range L to H of levels per column"
unfoldable pub low_of : Description → ℕ → ℕ → ℕ
low_of d r k = get_or d.low (9 * r + k) 0

unfoldable pub high_of : Description → ℕ → ℕ → ℕ
high_of d r k = get_or d.high (9 * r + k) 0

-- "c is in range when H dominates c and c dominates L"
unfoldable pub in_range : Description → ℕ → ℕ → ℕ → Bool
in_range d r k c = is_column d r k && (over d (high_of d r k) c && over d c (low_of d r k))

-- ---- cells

unfoldable pub size_of : Description → ℕ → ℕ
size_of d r = d.levels * row_count d r * column_count d r

-- the cells of the relations before r
unfoldable pub start_of : Description → ℕ → ℕ
start_of d r = sum_below r (size_of d)

unfoldable pub total_of : Description → ℕ
total_of d = start_of d (suc d.relations)

-- ---- when it is sound

-- "Each has a distinct label 0 to 4095"
unfoldable pub labels_sound : Description → Bool
labels_sound d = all_below d.levels (λ l. leb (label_of d l) 4095) && distinct_below d.levels (label_of d)

-- "At most one foreign key column, never column 1, referring to a lower-numbered relation's key": 0 and 0 for none
unfoldable pub foreign_sound : Description → ℕ → Bool
foreign_sound d r =
    if eqb (foreign_of d r) 0 then eqb (refers_of d r) 0
    else between 2 (column_count d r) (foreign_of d r) && (ltb 0 (refers_of d r) && ltb (refers_of d r) r)

-- "Each has 1 to 8 columns .., 1 to 64 rows for EACH level, and a range L to H of levels per column"; "L is dominated by H"
unfoldable pub relation_sound : Description → ℕ → Bool
relation_sound d r =
    between 1 8 (column_count d r) && (between 1 64 (row_count d r)
    && (all_below (column_count d r) (λ k. over d (high_of d r (suc k)) (low_of d r (suc k))) && foreign_sound d r))

-- "1 to 16 levels", "1 to 8 relations", "Total cells at most 8,192"
unfoldable pub sound : Description → Bool
sound d =
    between 1 16 d.levels && (labels_sound d && (between 1 8 d.relations
    && (all_below d.relations (λ r. relation_sound d (suc r)) && leb (total_of d) 8192)))
