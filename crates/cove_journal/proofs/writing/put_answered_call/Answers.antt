use Rattle.std.proofs.Common.{ℕ, List, map, ap, sym, ◌∙◌}
use Rattle.cove_base.specs.CallWords.{arguments, call_words, word_of}
use Rattle.cove_base.specs.EventWords.{reply_words}
use Rattle.cove_base.specs.Numbers.{number_text}
use Rattle.cove_journal.specs.Lines.{words_after}
use Rattle.cove_journal.proofs.WordsAfter.{words_after-append, words_after-joined}
use Rattle.cove_journal.proofs.writing.put_answered_call.Goals as goal

pub returns-clause-text : goal.returns-clause-text
returns-clause-text c =
    rw (c.put_reply.ensures.text, c.put_call.ensures.text, c.push.ensures)
    (ap (λ (text : List ℕ). words_after text (reply_words c.args.reply)) (words_after-joined c.args.out.now (word_of c.args.call.now) (map number_text (arguments c.args.call.now)))
    ∙ sym (words_after-append c.args.out.now (call_words c.args.call.now) (reply_words c.args.reply)))
