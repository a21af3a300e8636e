use Rattle.std.proofs.Common.{refl}
use Rattle.cove_clear.proofs.Going.{count_fits, count_less, lower_lawful, shared_fits, shared_goes, shared_lawful}
use Rattle.cove_clear.proofs.clearing.unmap_shared.Goals as goal

pub set-requires-clause-place : goal.set-requires-clause-place
set-requires-clause-place g c =
    shared_fits _ _ _ _ _ c.args.place c.args.page.0 c.requires.shared _ _ c.requires.leaving.4

pub set-requires-clause-allowed : goal.set-requires-clause-allowed
set-requires-clause-allowed g c =
    let may = c.requires.leaving in
    may.5 _ c.args.place 0
    (shared_lawful _ _ _ _ _ c.args.place c.args.page.0 c.requires.shared _ _ may.4 may.2 may.3)

pub get-count-requires : goal.get-count-requires
get-count-requires g c =
    rw (c.page_word.ensures, c.set.ensures.words)
    (count_fits _ _ _ _ _ c.args.place c.args.page.0 c.requires.shared _ _ c.requires.leaving.4)

pub overflow_sub-count : goal.overflow_sub-count
overflow_sub-count g c =
    (count_less _ _ _ _ _ c.args.place c.args.page.0 c.requires.shared _ _ c.requires.leaving.4 c.get-count.result
    (rw (c.page_word.ensures, c.set.ensures.words) at c.get-count.ensures.value)).0

pub set-requires-2-clause-place : goal.set-requires-2-clause-place
set-requires-2-clause-place g c =
    rw (c.page_word-2.ensures, c.get-count.ensures.words, c.set.ensures.words)
    (count_fits _ _ _ _ _ c.args.place c.args.page.0 c.requires.shared _ _ c.requires.leaving.4)

pub set-requires-2-clause-allowed : goal.set-requires-2-clause-allowed
set-requires-2-clause-allowed g c =
    let may = c.requires.leaving in
    let less = (count_less _ _ _ _ _ c.args.place c.args.page.0 c.requires.shared _ _ may.4 c.get-count.result
    (rw (c.page_word.ensures, c.set.ensures.words) at c.get-count.ensures.value)).1 in
    rw (less, c.page_word-2.ensures, c.get-count.ensures.guard, c.get-count.ensures.words, c.set.ensures.guard, c.set.ensures.words)
    (may.5 _ c.args.page.0 _
    (lower_lawful _ _ _ _ _ c.args.place c.args.page.0 c.requires.shared _ _ may.4 may.2 may.3))

pub returns-clause-proceeds : goal.returns-clause-proceeds
returns-clause-proceeds g c = λ harts t leaving.
    let less = (count_less _ _ _ _ _ c.args.place c.args.page.0 c.requires.shared harts t leaving c.get-count.result
    (rw (c.page_word.ensures, c.set.ensures.words) at c.get-count.ensures.value)).1 in
    rw (c.set-2.ensures.words, less, c.page_word-2.ensures, c.get-count.ensures.words, c.set.ensures.words)
    (shared_goes _ _ _ _ _ c.args.place c.args.page.0 c.requires.shared harts t leaving)

pub returns-clause-words : goal.returns-clause-words
returns-clause-words g c =
    let may = c.requires.leaving in
    let less = (count_less _ _ _ _ _ c.args.place c.args.page.0 c.requires.shared _ _ may.4 c.get-count.result
    (rw (c.page_word.ensures, c.set.ensures.words) at c.get-count.ensures.value)).1 in
    rw (c.set-2.ensures.words, less, c.page_word-2.ensures, c.get-count.ensures.words, c.set.ensures.words) refl
