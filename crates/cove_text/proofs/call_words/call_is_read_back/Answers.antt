use Rattle.cove_base.proofs.CallLemmas.{call_of-word_of}
use Rattle.cove_text.proofs.call_words.call_is_read_back.Goals as goal

pub returns : goal.returns
returns c = call_of-word_of c.args.call.now
