use Rattle.cove_model.proofs.BoardRuleProofs.{counts_keep_rule, lists_keep_rule, stores_keep_rule, stores_keep_walks}
use Rattle.cove_model.proofs.WalkRuleProofs.{walks_keep_rule}
use Rattle.cove_model.proofs.rules.store_law.Goals as goal

pub returns-clause-store : goal.returns-clause-store
returns-clause-store c = stores_keep_rule

pub returns-clause-walks : goal.returns-clause-walks
returns-clause-walks c = stores_keep_walks

pub returns-clause-walk : goal.returns-clause-walk
returns-clause-walk c = walks_keep_rule

pub returns-clause-stores : goal.returns-clause-stores
returns-clause-stores c = lists_keep_rule

pub returns-clause-count : goal.returns-clause-count
returns-clause-count c = counts_keep_rule
