use Rattle.cove_owner.proofs.owners.state.Goals as goal

pub decode-requires : goal.decode-requires
decode-requires g c = rw (c.get.ensures.value, c.page_word.ensures) c.requires.word
