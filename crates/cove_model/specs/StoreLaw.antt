-- What a lawful store of one hart leaves of the pages that each hart may use.
use Rattle.std.specs.Prelude.{◌≡◌, ◌≢◌, ℕ, ◌<◌, ◌≤◌, ◌⊎◌, List, length, slice_index, slice_set}
use Rattle.cove_base.specs.PageWords.{host, converting, IsHostWord}
use Rattle.cove_base.specs.Places.{page_word, answered_word, all_words}
use Rattle.cove_base.specs.declared.limits.TheConstants.{ENTRY_LIMIT}
use Rattle.cove_model.specs.LawfulStores.{IsLawful}
use Rattle.cove_model.specs.WordLaws.{AnswersWithin}
use Rattle.cove_model.specs.WordsStand.{FencesWithin, answered_in}

-- a hart that has answered a number may use the page with this word: it is the host's, or in conversion since no earlier epoch
abbrev pub IsUsableWord : (answered word : ℕ) → Type 0
IsUsableWord answered word = IsHostWord word ⊎ ((since : ℕ) × (word ≡ converting since) × (answered ≤ since))

-- a hart may use a page, by the words
abbrev pub MayUse : (pages : ℕ) (words : List ℕ) (hart p : ℕ) → Type 0
MayUse pages words hart p = IsUsableWord (answered_in pages words hart) (slice_index words (page_word p))

-- a lawful store leaves the pages that a hart may use, also the hart that stores, unless it is one of that hart's answered number
abbrev pub StoresKeepUsable : Type 0
StoresKeepUsable =
    (pages harts : ℕ) (hart other : ℕ) (old words : List ℕ) (place word p : ℕ)
    → length words ≡ all_words pages harts → AnswersWithin pages harts words
    → other < harts → answered_word pages other ≢ place → p < pages
    → IsLawful pages harts hart old words place word
    → MayUse pages words other p → MayUse pages (slice_set words place word) other p

-- A page of the host's is the host's after a lawful store, or it was at the last entry, and not mapped.
abbrev pub StoresKeepHost : Type 0
StoresKeepHost =
    (pages harts : ℕ) (hart : ℕ) (old words : List ℕ) (place word p : ℕ)
    → length words ≡ all_words pages harts → p < pages
    → IsLawful pages harts hart old words place word
    → IsHostWord (slice_index words (page_word p))
    → IsHostWord (slice_index (slice_set words place word) (page_word p)) ⊎ (slice_index old (page_word p) ≡ host 0)

-- after a lawful store no hart has answered a later epoch than the last
abbrev pub StoresKeepAnswers : Type 0
StoresKeepAnswers =
    (pages harts : ℕ) (hart : ℕ) (old words : List ℕ) (place word : ℕ)
    → length words ≡ all_words pages harts → AnswersWithin pages harts words
    → IsLawful pages harts hart old words place word
    → AnswersWithin pages harts (slice_set words place word)

-- after a lawful store the epoch and the numbers of TVMs are within the number of entries that a history may have
abbrev pub StoresKeepFences : Type 0
StoresKeepFences =
    (pages harts : ℕ) (hart : ℕ) (old words : List ℕ) (place word : ℕ)
    → length words ≡ all_words pages harts → FencesWithin pages harts words ENTRY_LIMIT
    → IsLawful pages harts hart old words place word
    → FencesWithin pages harts (slice_set words place word) ENTRY_LIMIT
