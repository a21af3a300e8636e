use Rattle.std.proofs.Common.{subst, IsTrue, arith}
use Rattle.cove_base.specs.Scripts.{ScriptValue, is_within_limits}
use Rattle.cove_run.proofs.HistoryLemmas.{is_history, full_else}
use Rattle.cove_run.proofs.top.played_facts.Goals as goal

pub returns-clause-history : goal.returns-clause-history
returns-clause-history c = is_history c.args.script.now (subst (λ (s : ScriptValue). IsTrue (is_within_limits s)) c.script.view_is c.script.invariant)

pub returns-clause-full : goal.returns-clause-full
returns-clause-full c left = let full = full_else c.args.script.now left in omega arith
