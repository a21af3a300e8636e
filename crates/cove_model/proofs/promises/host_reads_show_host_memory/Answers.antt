use Rattle.cove_model.proofs.promises.host_reads_show_host_memory.Goals as goal
use Rattle.cove_model.proofs.HostMemoryProofs.{load_shows, memory_outside, memory_words, returned_zeros}

pub returns-clause-loads : goal.returns-clause-loads
returns-clause-loads c = load_shows

pub returns-clause-words : goal.returns-clause-words
returns-clause-words c = memory_words

pub returns-clause-outside : goal.returns-clause-outside
returns-clause-outside c = memory_outside

pub returns-clause-returned : goal.returns-clause-returned
returns-clause-returned c = returned_zeros
