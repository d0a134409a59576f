-- UPLEVEL (key value, optional key class, list of column FROM level).
-- Assumes nothing: these are definitions.
use Rattle.std.specs.Prelude.{ℕ, Bool, true, false, not, ◌&&◌, ◌||◌, List, [], ◌∷◌, eqb, leb, if◌then◌else◌}
use Rattle.std.proofs.Math.Option.{none, some}
use Rattle.bounded.specs.Bounded.{first_below, count_below}
use Rattle.model.specs.declared.Description.{Description}
use Rattle.model.specs.declared.Fault.{Fault}
use Rattle.model.specs.declared.Fault.TheVariants as Faults
use Rattle.model.specs.Description.{is_level, over, row_count, foreign_of, is_column, in_range}
use Rattle.model.specs.Tables.{Cell, Row, Tables, cell, same, used, place, seek, at, own_null, lends, State, rows_of}
use Rattle.model.specs.Listed.{whole, each, listed, lists, columns_once}
use Rattle.model.specs.Effect.{Rows, Effect, keep, only, agrees, lowest_empty, has_room, names_row}

-- 4: every column and FROM level exists and no column is listed twice; "key in .. FROM list"; "key missing or 0"; a key class that is given
-- exists
unfoldable pub uplevel_formed : Description → ℕ → ℕ → ℕ → List ℕ → Bool
uplevel_formed d r key class list =
    whole 2 list && (each (λ k a. is_column d r k && is_level d a) list && (columns_once list
    && (not (lists list 1) && (not (eqb key 0) && (eqb class 255 || is_level d class)))))

-- the entity with that key and key class a has "a base row (TC equal to key class) visible to c"
unfoldable pub based : Description → ℕ → ℕ → ℕ → Tables → ℕ → Bool
based d c r key T a = over d c a && same (at d T r a key 1) (cell key a)

-- "the entity is the one with a base row .. visible to c"
unfoldable pub entity_of : Description → ℕ → ℕ → ℕ → ℕ → Tables → Cell
entity_of d c r key class T = cell key (if eqb class 255 then first_below d.levels (based d c r key T) else class)

-- a reference that is borrowed is null or has its row at c
unfoldable pub borrowed_names : Description → ℕ → ℕ → Cell → List ℕ → Tables → Bool
borrowed_names d c r entity list T =
    elim (listed list (foreign_of d r)) [ none ↦ true | some a ↦ names_row d c r T (lends (at d T r a entity.value) entity (foreign_of d r) a).value ]

unfoldable pub uplevel_tests : Description → ℕ → ℕ → ℕ → ℕ → List ℕ → State → List (Bool × Fault)
uplevel_tests d c r key class list S =
    let T = rows_of S in
    let entity = entity_of d c r key class T in
    -- "a FROM .. or key class level isn't dominated by c"
    ((eqb class 255 || over d c class) && each (λ k a. over d c a) list, Faults.Unseen)
    -- "FROM level outside its column's range"
    ∷ (each (λ k a. in_range d r k a) list, Faults.Range)
    -- "no such entity visible"
    ∷ (based d c r key T entity.class, Faults.Absent)
    -- "no key class, several entities visible"
    ∷ (not (eqb class 255) || leb (count_below d.levels (based d c r key T)) 1, Faults.Several)
    -- "another entity has that key at c"
    ∷ (not (used (at d T r c key)) || same (at d T r c key 1) entity, Faults.Taken)
    -- "FROM level does not dominate the key class"
    ∷ (each (λ k a. over d a entity.class) list, Faults.KeyClass)
    -- "non-null reference and no row with that key at c"
    ∷ (borrowed_names d c r entity list T, Faults.Reference)
    -- "a new row is needed and none is empty"
    ∷ (same (at d T r c key 1) entity || has_room d (S c).rows r, Faults.Full)
    ∷ []

-- "For each listed column with FROM a, the cell is (v, a) if that entity's row at a holds (v, a), else (0, a). It never follows a further
-- borrowing." "A borrowed reference whose named row at c is a different entity from the one at a becomes own null at c"
unfoldable pub borrowed : Description → Tables → ℕ → ℕ → Cell → ℕ → ℕ → Cell
borrowed d W c r entity k a =
    let x = lends (W r a entity.value) entity k a in
    if eqb k (foreign_of d r) && (not (eqb x.value 0) && not (agrees d W r c a x.value)) then own_null d r k c else x

-- "The key cell is the entity's; other unlisted columns become own null at c."
unfoldable pub raised : Description → Tables → ℕ → ℕ → Cell → List ℕ → Row
raised d W c r entity list k =
    if eqb k 1 then entity else elim (listed list k) [ none ↦ own_null d r k c | some a ↦ borrowed d W c r entity k a ]

-- "The new row replaces that entity's row at c or takes a new row. Where a row was replaced, that entity's cells of class c above, same
-- column, that differ from the new cell in value or class become null, class kept."
unfoldable pub placed : Description → ℕ → Cell → Row → Rows → Effect
placed d r entity R B =
    let there = same (seek (row_count d r) (B r) entity.value 1) entity in
    let row = if there then place (row_count d r) (B r) entity.value else lowest_empty d B r in
    record {
      own = λ s i. if eqb s r && eqb i row then R else B s i;
      above = record {
        gone = λ s v. false;
        change = λ s v k. if eqb s r && (eqb v entity.value && there) then only (R k) else keep;
      };
    }

unfoldable pub uplevelled : Description → ℕ → ℕ → Cell → List ℕ → Tables → Effect
uplevelled d c r entity list T = placed d r entity (raised d (at d T) c r entity list) (λ s i. T s c i)
