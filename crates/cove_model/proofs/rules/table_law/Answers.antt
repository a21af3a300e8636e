use Rattle.cove_model.proofs.GuestStores.{counts_keep_guests, lists_keep_guests, stores_keep_entered, stores_keep_guests, stores_keep_present, zeros_keep_owned}
use Rattle.cove_model.proofs.OwnedStores.{stores_keep_owned}
use Rattle.cove_model.proofs.SharedLeaves.{stores_count_shared}
use Rattle.cove_model.proofs.rules.table_law.Goals as goal

pub returns-clause-guests : goal.returns-clause-guests
returns-clause-guests c = stores_keep_guests

pub returns-clause-lists : goal.returns-clause-lists
returns-clause-lists c = lists_keep_guests

pub returns-clause-count : goal.returns-clause-count
returns-clause-count c = counts_keep_guests

pub returns-clause-owned : goal.returns-clause-owned
returns-clause-owned c = stores_keep_owned

pub returns-clause-entered : goal.returns-clause-entered
returns-clause-entered c = stores_keep_entered

pub returns-clause-present : goal.returns-clause-present
returns-clause-present c = stores_keep_present

pub returns-clause-destroyed : goal.returns-clause-destroyed
returns-clause-destroyed c = zeros_keep_owned

pub returns-clause-shared : goal.returns-clause-shared
returns-clause-shared c = stores_count_shared
