use Rattle.cove_journal.proofs.JournalsRead.{limit_is_read, whole_is_read}
use Rattle.cove_run.proofs.ReadableEntries.{legal_is_readable}
use Rattle.cove_run.proofs.journals.printed_journals_are_read_back.Goals as goal

pub returns-clause-readable : goal.returns-clause-readable
returns-clause-readable c = λ script within legal. legal_is_readable script within c.args.history.now legal c.entries_fit.ensures

pub returns-clause-done : goal.returns-clause-done
returns-clause-done c = λ script within legal.
    whole_is_read c.args.history.now (legal_is_readable script within c.args.history.now legal c.entries_fit.ensures)

pub returns-clause-limit : goal.returns-clause-limit
returns-clause-limit c = λ script within legal.
    limit_is_read c.args.history.now (legal_is_readable script within c.args.history.now legal c.entries_fit.ensures)
