-- The memory that the host sees: a page that it holds has words, and no other page has.
use Rattle.std.specs.Prelude.{ℕ, List, Option, Some, None, slice_get, option_and_then}
use Rattle.cove_model.specs.Owners.{Owner, Host, Converting, Free, Given, page_at}
use Rattle.cove_model.specs.States.{State, page_of, word_place}

-- the words of a page that the host holds, be it on its way from it
abbrev pub seen_words : Owner → Option (List ℕ)
seen_words (Host words) = Some words
seen_words (Converting held waiting words) = Some words
seen_words Free = None
seen_words (Given tvm purpose) = None

-- host memory: the words of each page that has some
abbrev pub host_memory : State → (p : ℕ) → Option (List ℕ)
host_memory S p = seen_words (page_at S.pages p)

-- the word of host memory at a byte address, if its page has words
abbrev pub host_word : State → (addr : ℕ) → Option ℕ
host_word S addr = option_and_then (λ words. slice_get words (word_place addr)) (host_memory S (page_of addr))
