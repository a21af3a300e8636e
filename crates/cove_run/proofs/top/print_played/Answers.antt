use Rattle.std.proofs.Common.{List, sym, subst}
use Rattle.cove_base.specs.declared.events.Entry.{Entry}
use Rattle.cove_run.specs.TopCall.{IsHistoryOf}
use Rattle.cove_run.proofs.top.print_played.Goals as goal

pub print_history-requires-clause-history : goal.print_history-requires-clause-history
print_history-requires-clause-history g c = subst (λ (h : List Entry). IsHistoryOf c.args.script.now h) (sym c.requires.history) c.played_facts.ensures.history
