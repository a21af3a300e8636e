use Rattle.std.proofs.Common.{true, false, refl, sym, ◌∙◌, true≢false}
use Rattle.cove_base.proofs.TableLemmas.{below-named}
use Rattle.cove_base.specs.Tables.{entry_in}
use Rattle.cove_map_examples.proofs.TableProofs.{no_page, not_fetched, not_present, not_there, not_while_blocked}
use Rattle.cove_map_examples.proofs.tables.worked_walks.Goals as goal

pub returns-clause-own : goal.returns-clause-own
returns-clause-own c = (false, refl, refl)

pub returns-clause-shared : goal.returns-clause-shared
returns-clause-shared c = (true, refl, refl)

pub returns-clause-fetched : goal.returns-clause-fetched
returns-clause-fetched c = λ walks. not_fetched walks.0 walks.1 walks.2

pub returns-clause-other_page : goal.returns-clause-other_page
returns-clause-other_page c = λ walks. not_there walks.0 walks.1

pub returns-clause-blocked : goal.returns-clause-blocked
returns-clause-blocked c = λ walks. not_while_blocked walks.0 walks.1

pub returns-clause-absent : goal.returns-clause-absent
returns-clause-absent c = (refl, λ page shared e. absurd (not_present page shared e))

pub returns-clause-missed : goal.returns-clause-missed
returns-clause-missed c = λ walks. absurd (true≢false (sym (walks.1 5 true refl)))

pub returns-clause-four_levels : goal.returns-clause-four_levels
returns-clause-four_levels c = λ words named there. (false, below-named 8 words (entry_in 8 4 words 2 0) 3 9 named ∙ there, refl)

pub returns-clause-one_level_less : goal.returns-clause-one_level_less
returns-clause-one_level_less c = λ words named walks. no_page (entry_in 8 4 words 2 0) walks.0 named walks.1
