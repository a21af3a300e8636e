use Rattle.cove_model.proofs.TableExampleProofs.{blocked_before, data_page_converted, enters, enters_untold, held_yet, host_page_mapped, inside, leaves, live, nobody_inside, not_its_root, not_mapped, not_within, own_page_mapped, page_converted, root_taken_back, rooted_owned, within}
use Rattle.cove_model.proofs.table_examples.worked_tables.Goals as goal

pub returns-clause-owned : goal.returns-clause-owned
returns-clause-owned c = rooted_owned

pub returns-clause-not_its_root : goal.returns-clause-not_its_root
returns-clause-not_its_root c = not_its_root

pub returns-clause-inside : goal.returns-clause-inside
returns-clause-inside c = inside

pub returns-clause-nobody_inside : goal.returns-clause-nobody_inside
returns-clause-nobody_inside c = nobody_inside

pub returns-clause-within : goal.returns-clause-within
returns-clause-within c = within

pub returns-clause-not_within : goal.returns-clause-not_within
returns-clause-not_within c = not_within

pub returns-clause-live : goal.returns-clause-live
returns-clause-live c = live

pub returns-clause-not_mapped : goal.returns-clause-not_mapped
returns-clause-not_mapped c = not_mapped 2

pub returns-clause-nor_by_four_levels : goal.returns-clause-nor_by_four_levels
returns-clause-nor_by_four_levels c = not_mapped 3

pub returns-clause-page_converted : goal.returns-clause-page_converted
returns-clause-page_converted c = page_converted

pub returns-clause-data_page_converted : goal.returns-clause-data_page_converted
returns-clause-data_page_converted c = data_page_converted

pub returns-clause-enters : goal.returns-clause-enters
returns-clause-enters c = enters

pub returns-clause-enters_untold : goal.returns-clause-enters_untold
returns-clause-enters_untold c = enters_untold

pub returns-clause-leaves : goal.returns-clause-leaves
returns-clause-leaves c = leaves

pub returns-clause-root_taken_back : goal.returns-clause-root_taken_back
returns-clause-root_taken_back c = root_taken_back

pub returns-clause-own_page_mapped : goal.returns-clause-own_page_mapped
returns-clause-own_page_mapped c = own_page_mapped

pub returns-clause-host_page_mapped : goal.returns-clause-host_page_mapped
returns-clause-host_page_mapped c = host_page_mapped

pub returns-clause-held_yet : goal.returns-clause-held_yet
returns-clause-held_yet c = held_yet

pub returns-clause-blocked_before : goal.returns-clause-blocked_before
returns-clause-blocked_before c = blocked_before
