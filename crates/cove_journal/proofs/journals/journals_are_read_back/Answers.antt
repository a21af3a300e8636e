use Rattle.cove_journal.proofs.JournalsRead.{exact, limit_is_read, one, one_limit, whole_is_read}
use Rattle.cove_journal.proofs.journals.journals_are_read_back.Goals as goal

pub returns-clause-whole : goal.returns-clause-whole
returns-clause-whole c = whole_is_read

pub returns-clause-limit : goal.returns-clause-limit
returns-clause-limit c = limit_is_read

pub returns-clause-exact : goal.returns-clause-exact
returns-clause-exact c = exact

pub returns-clause-one : goal.returns-clause-one
returns-clause-one c = one

pub returns-clause-one_limit : goal.returns-clause-one_limit
returns-clause-one_limit c = one_limit
