use Rattle.std.proofs.Common.{◌≡◌, ◌<◌, ℕ, List, get_or, replicate, refl, lit<, ◌∙◌, arith}
use Rattle.std.proofs.lemmas.List.{get_or-replicate}
use Rattle.cove_base.specs.PageWords.{IsPageWord, OfHost}
use Rattle.cove_tests.proofs.owner_tests.pages_of_zeros_are_the_hosts.Goals as goal

-- each word of a list of zeros is a page word
zero_pages : (words : List ℕ) → words ≡ replicate 4 0 → (page : ℕ) → page < 4 → IsPageWord (get_or words page 0)
zero_pages words is page small = rw (is, get_or-replicate {A = ℕ} 4 page 0 0 small) (OfHost 0 (lit< tt) refl)

pub state-requires-clause-word : goal.state-requires-clause-word
state-requires-clause-word g c = zero_pages _ c.in_ok-words.ensures 2 (omega arith)

pub all_host-requires-clause-page_words : goal.all_host-requires-clause-page_words
all_host-requires-clause-page_words g c page low high = zero_pages _ (c.state.ensures.unchanged.words ∙ c.in_ok-words.ensures) page (omega arith)

pub any_mapped-requires-clause-page_words : goal.any_mapped-requires-clause-page_words
any_mapped-requires-clause-page_words g c page low high =
    zero_pages _ (c.all_host.ensures.unchanged.words ∙ c.state.ensures.unchanged.words ∙ c.in_ok-words.ensures) page (omega arith)

pub all_free-requires-clause-page_words : goal.all_free-requires-clause-page_words
all_free-requires-clause-page_words g c page low high =
    zero_pages _ (c.any_mapped.ensures.unchanged.words ∙ c.all_host.ensures.unchanged.words ∙ c.state.ensures.unchanged.words ∙ c.in_ok-words.ensures) page
    (omega arith)
