use Rattle.cove_model.proofs.ToldProofs.{words_tell_host, words_tell_shared, words_tell_free, words_tell_answered, words_tell_lowest, words_are_words}
use Rattle.cove_model.proofs.standing.telling_law.Goals as goal

pub returns-clause-host : goal.returns-clause-host
returns-clause-host c = words_tell_host

pub returns-clause-free : goal.returns-clause-free
returns-clause-free c = words_tell_free

pub returns-clause-answered : goal.returns-clause-answered
returns-clause-answered c = words_tell_answered

pub returns-clause-lowest : goal.returns-clause-lowest
returns-clause-lowest c = words_tell_lowest

pub returns-clause-words : goal.returns-clause-words
returns-clause-words c = words_are_words

pub returns-clause-shared : goal.returns-clause-shared
returns-clause-shared c = words_tell_shared
