-- What contracts say of the judge's structs.
-- Assumes nothing: these are definitions.
use Rattle.std.specs.Prelude.{Bool, Option, ℕ, suc}
use Rattle.model.specs.declared.Description.{Description}
use Rattle.model.specs.Tables as model
use Rattle.model.specs.Tables.{Cell, cell, at, lends}
use Rattle.model.specs.Buffers.{rows_in}
use Rattle.model.specs.Judge.{row_right}
use Rattle.judge.specs.declared.tables.Tables.{Tables}
use Rattle.judge.specs.declared.tables.Relation.{Relation}
use Rattle.judge.specs.declared.tables.Row.{Row}
use Rattle.judge.specs.declared.tables.KeyedRow.{KeyedRow}
use Rattle.judge.specs.declared.lenders.Lenders.{Lenders}
use Rattle.judge.specs.Facts.{right_row, right_cell, right_reference, lender_of, Known, Fitting, Between}

-- the tables, as the model has them
abbrev pub tables_of : Tables → model.Tables
tables_of t = rows_in t.description.now t.values.now t.classes.now

-- ---- a relation

-- the tables that it is of, and their description
abbrev pub rows_of : Relation → model.Tables
rows_of r = tables_of r.tables.now

abbrev pub description_of : Relation → Description
description_of r = r.tables.now.description.now

-- its row i at level l is right
abbrev pub rows_at : Relation → ℕ → ℕ → Bool
rows_at r l i = row_right (description_of r) (rows_of r) r.area.relation l i

-- ---- a row

-- the row, as the model has it
abbrev pub row_of : Row → model.Row
row_of w = rows_of w.relation.now w.relation.now.area.relation w.level w.i

-- what is asked of column k + 1
abbrev pub cell_of : Row → ℕ → Bool
cell_of w k = right_cell (description_of w.relation.now) w.relation.now.tables.now.values.now w.relation.now.tables.now.classes.now w.relation.now.area w.level w.i k

-- and of its reference
abbrev pub reference_of : Row → Bool
reference_of w = right_reference (description_of w.relation.now) w.relation.now.tables.now.values.now w.relation.now.tables.now.classes.now w.relation.now.area w.level w.i

-- ---- a row with a key

-- what is asked of it besides that no row before it has the key
abbrev pub keyed_of : KeyedRow → Bool
keyed_of e = right_row (description_of e.row.relation.now) (rows_of e.row.relation.now) e.row.relation.now.area.relation e.row.level (row_of e.row)

-- where the row of its entity at level l starts
abbrev pub lender_at : KeyedRow → ℕ → Option ℕ
lender_at e l = lender_of (rows_of e.row.relation.now) e.row.relation.now.area e.key e.class l

-- what that row lends in column k + 1
abbrev pub lent_at : KeyedRow → ℕ → ℕ → Cell
lent_at e k l = lends (at (description_of e.row.relation.now) (rows_of e.row.relation.now) e.row.relation.now.area.relation l e.key) (cell e.key e.class) (suc k) l

-- its cache is right
abbrev pub Knows : KeyedRow → Lenders → Type 0
Knows e cache = Known (description_of e.row.relation.now) (rows_of e.row.relation.now) e.row.relation.now.area e.key e.class cache

-- the set of the classes that fit in column k + 1
abbrev pub FitsColumn : KeyedRow → ℕ → ℕ → Type 0
FitsColumn e k w = Fitting (description_of e.row.relation.now) e.row.relation.now.area.relation e.row.level (suc k) e.class w

-- and of those that the row may have besides
abbrev pub FitsRow : KeyedRow → ℕ → Type 0
FitsRow e w = Between (description_of e.row.relation.now) e.row.level e.class w
