use Rattle.std.proofs.lemmas.List.{take_rest}
use Rattle.std.proofs.lemmas.List.Sums.{prefix_len-le-length}
use Rattle.cove_text.proofs.Splits.{text_words-first, text_words-none, unwrap_or-position}
use Rattle.cove_text.proofs.words.first_word.Goals as goal

pub returns-in_err-start : goal.returns-in_err-start
returns-in_err-start c = rw c.from_residual.ensures (text_words-none c.args.line.now c.in_err-start.ensures)

pub split_at-requires : goal.split_at-requires
split_at-requires c = rw (c.unwrap_or.ensures, c.word_end.ensures, unwrap_or-position) (prefix_len-le-length _ _)

pub returns : goal.returns
returns c =
    rw (c.split_at.ensures.front, c.split_at.ensures.back, c.unwrap_or.ensures, c.word_end.ensures, unwrap_or-position, take_rest)
    (text_words-first c.args.line.now c.in_ok-start.start c.in_ok-start.ensures)
