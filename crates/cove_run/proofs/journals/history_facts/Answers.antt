use Rattle.std.proofs.Common.{IsTrue, subst}
use Rattle.cove_base.specs.Scripts.{ScriptValue, is_within_limits}
use Rattle.cove_run.proofs.HistoryLemmas.{legal_writable}
use Rattle.cove_model.proofs.Beginning.{over_follows}
use Rattle.cove_run.proofs.journals.history_facts.Goals as goal

pub returns-clause-follows : goal.returns-clause-follows
returns-clause-follows c over = over_follows c.args.script.now c.args.history.now c.requires.legal over

pub returns-clause-writable : goal.returns-clause-writable
returns-clause-writable c = legal_writable c.args.script.now c.args.history.now c.requires.legal

pub returns-clause-read_back : goal.returns-clause-read_back
returns-clause-read_back c =
    let within : IsTrue (is_within_limits c.args.script.now) = subst (λ (s : ScriptValue). IsTrue (is_within_limits s)) c.script.view_is c.script.invariant in (
      c.printed_journals_are_read_back.ensures.done c.args.script.now within c.requires.legal,
      c.printed_journals_are_read_back.ensures.limit c.args.script.now within c.requires.legal,
    )
