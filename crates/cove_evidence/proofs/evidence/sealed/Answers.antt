use Rattle.cove_base.specs.Evidence.{evidence}
use Rattle.cove_evidence.proofs.evidence.sealed.Goals as goal

pub returns-clause-bytes : goal.returns-clause-bytes
unfolding evidence
returns-clause-bytes c = rw (c.append.ensures, c.hmac384-mac.ensures, c.as_slice.ensures.bytes, c.body-quote.ensures.bytes)
