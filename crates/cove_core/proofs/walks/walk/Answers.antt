use Rattle.cove_core.proofs.walks.walk.Goals as goal

pub decode-requires : goal.decode-requires
decode-requires g c = rw (c.get-word.ensures.value, c.page_word.ensures) c.requires.word
