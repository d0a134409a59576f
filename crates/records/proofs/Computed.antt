-- The definitions of records opened, in one place: a claim that says `unfolding decoded` is checked by computation.
-- Assumes nothing.
use Prim.Native.Nat.{ℕ}
use Rattle.bounded.specs.Bounded.{fold_below}
use Rattle.bounded.specs.Lists.{list_below, concat_below, write_at}
use Rattle.model.specs.Description.{between}
use Rattle.records.specs.Bytes.{pair, quad, fields_from, cells_from, tests_from}
use Rattle.records.specs.Kinds.{width, numbers, is_kind, number_of, form_of}
use Rattle.records.specs.Record.{size_of, whole, last_within, follows, kind_after}
use Rattle.records.specs.Statements.{what_of, what_read, statement_of, end_of, entry_at, numbers_of, list_of, list_end, conditions_of, length_asked, is_statement, read_of, list_read, conditions_read}
use Rattle.records.specs.Descriptions.{nothing, is_labels, label_count, label_at, labels_of, labelled, is_related, ends, with_relation, overfull, related}

unfoldable pub decoded : ℕ
unfolding fold_below list_below concat_below write_at between pair quad fields_from cells_from tests_from width numbers is_kind number_of form_of size_of whole last_within follows kind_after what_of what_read statement_of end_of entry_at numbers_of list_of list_end conditions_of length_asked is_statement read_of list_read conditions_read nothing is_labels label_count label_at labels_of labelled is_related ends with_relation overfull related
decoded = 0
