-- The definitions opened, in one place: a claim that says `unfolding computed` is checked by computation. The worked rows and cases use it,
-- and it is the only file outside `level` that opens that crate's definitions.
-- Assumes nothing.
use Prim.Native.Nat.{ℕ}
use lib.Count.{ones, ones_in}
use Rattle.level.specs.Label.{rank_of, compartments_of, contains, dominates, bottom_label, height_of}
use Rattle.level.specs.Order.{level_dominates, up_to, row_of, order_of, entry_of}
use Rattle.bounded.specs.Bounded.{first_below, all_below, any_below, count_below, sum_below, fold_below}
use Rattle.bounded.specs.Lists.{list_below, concat_below, write_at}
use Rattle.model.specs.Numbers.{fault_number, answer_number, count_of, verdict_number}
use Rattle.model.specs.Description.{between, distinct_below, is_level, over, label_of, height_at, is_relation, of_relation, column_count, row_count, foreign_of, refers_of, is_column, low_of, high_of, in_range, size_of, start_of, total_of, labels_sound, foreign_sound, relation_sound, sound}
use Rattle.model.specs.Tables.{same, empty_row, used, seen, place, seek, at, own_null, lends}
use Rattle.model.specs.Buffers.{fitting, inside, position_of, rows_in, state_of, in_order, buffers_of}
use Rattle.model.specs.Ledger.{seen_pages, lent_fits, pages_of, ledger_of}
use Rattle.model.specs.Judge.{fits, cell_right, reference_right, row_right, legal, legal_pages, judge}
use Rattle.model.specs.Listed.{whole, pairs, column_at, second_at, each, listed, lists, columns_once, among, each_level, levels_once}
use Rattle.model.specs.Conditions.{condition_at, condition_count, constant_formed, condition_formed, conditions_formed, passes, meets_test, meets, met}
use Rattle.model.specs.Effect.{agrees, changed, gone_at, reach, carry, applied, lowest_empty, has_room, names_row}
use Rattle.model.specs.Insert.{key_listed, insert_formed, listed_names, insert_tests, new_row, inserted}
use Rattle.model.specs.Delete.{referred, delete_tests, deleted}
use Rattle.model.specs.Update.{update_formed, any_met, update_tests, set_in, take_in, updated}
use Rattle.model.specs.Uplevel.{uplevel_formed, based, entity_of, borrowed_names, uplevel_tests, borrowed, raised, placed, uplevelled}
use Rattle.model.specs.Select.{select_formed, asked, found_at, found, values_shown, owners_shown, select_tests}
use Rattle.model.specs.Run.{empty, formed_as, formed, further, first_fault, tests, refusal, effect_as, left, after, met_count, shown_as, count_as, refused, done, run}

unfoldable pub computed : ℕ
unfolding ones ones_in rank_of compartments_of contains dominates bottom_label height_of level_dominates up_to row_of order_of entry_of first_below all_below any_below count_below sum_below fold_below list_below concat_below write_at fault_number answer_number count_of verdict_number between distinct_below is_level over label_of height_at is_relation of_relation column_count row_count foreign_of refers_of is_column low_of high_of in_range size_of start_of total_of labels_sound foreign_sound relation_sound sound same empty_row used seen place seek at own_null lends fitting inside position_of rows_in state_of in_order buffers_of seen_pages lent_fits pages_of ledger_of fits cell_right reference_right row_right legal legal_pages judge whole pairs column_at second_at each listed lists columns_once among each_level levels_once condition_at condition_count constant_formed condition_formed conditions_formed passes meets_test meets met agrees changed gone_at reach carry applied lowest_empty has_room names_row key_listed insert_formed listed_names insert_tests new_row inserted referred delete_tests deleted update_formed any_met update_tests set_in take_in updated uplevel_formed based entity_of borrowed_names uplevel_tests borrowed raised placed uplevelled select_formed asked found_at found values_shown owners_shown select_tests empty formed_as formed further first_fault tests refusal effect_as left after met_count shown_as count_as refused done run
computed = 0
