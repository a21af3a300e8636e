use Rattle.cove_base.proofs.HostWalkLemmas.{is_said, says_so}
use Rattle.cove_base.proofs.walks.walked_to.Goals as goal

pub returns-then-word-eq0-clause-host : goal.returns-then-word-eq0-clause-host
returns-then-word-eq0-clause-host c = (says_so c.args.word, is_said c.args.word)
