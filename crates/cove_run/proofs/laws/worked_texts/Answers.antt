use Rattle.std.proofs.Common.{sym, refl, inl, inr, ⊎_elim, lit≤, []}
use Rattle.cove_journal.proofs.JournalsRead.{reports_differ}
use Rattle.cove_run.specs.TopCall.{history_of}
use Rattle.cove_run.proofs.WorkedLemmas.{nothing_at_line_two, nothing_spells}
use Rattle.cove_run.proofs.laws.worked_texts.Goals as goal

pub returns-clause-nothing_read : goal.returns-clause-nothing_read
returns-clause-nothing_read c = inl ([], record { consumed = refl; at_end = refl; within = lit≤ tt }, nothing_spells)

pub returns-clause-at_another_line : goal.returns-clause-at_another_line
returns-clause-at_another_line c = nothing_at_line_two

pub returns-clause-prints_the_end : goal.returns-clause-prints_the_end
returns-clause-prints_the_end c = λ script over. (
  inl (over, refl),
  ⊎_elim (λ end. reports_differ (history_of script) (sym end.1)) (λ limit. limit.0 over),
)

pub returns-clause-prints_the_limit : goal.returns-clause-prints_the_limit
returns-clause-prints_the_limit c = λ script left. (
  inr (left, refl),
  ⊎_elim (λ end. left end.0) (λ limit. reports_differ (history_of script) limit.1),
)
