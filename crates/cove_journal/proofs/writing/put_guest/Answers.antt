use Rattle.std.proofs.Common.{◌++◌, codes, sym}
use Rattle.cove_base.specs.EventWords.{act_words, reply_words}
use Rattle.cove_base.specs.Text.{spaced}
use Rattle.cove_journal.proofs.WordsAfter.{words_after-append}
use Rattle.cove_journal.proofs.writing.put_guest.Goals as goal

pub returns-clause-text : goal.returns-clause-text
returns-clause-text c = rw (c.put_reply.ensures.text, c.put_act.ensures.text, c.put_word.ensures.text)
    (sym (words_after-append (c.args.out.now ++ spaced (codes "guest")) (act_words c.args.act) (reply_words c.args.reply)))
