-- What the accepted calls on owners store, and that the words then stand for the state of the definition.
use Rattle.std.specs.Prelude.{◌≡◌, ◌↔◌, ℕ, zero, suc, ◌+◌, ◌/◌, ◌^◌, ◌<◌, ◌≤◌, true, false, List, [], ◌∷◌, length, replicate, slice_index, slice_set}
use Rattle.cove_base.specs.PageWords.{host, converting, IsHostWord, IsFreeWord, IsPageWord}
use Rattle.cove_base.specs.Places.{Place, PageWord, TableWord, EpochWord, AnsweredWord, TvmWord, HartWord, CountWord, IsPlace, place_of, page_word, epoch_word, answered_word, all_words}
use Rattle.cove_base.specs.Scripts.{ScriptValue}
use Rattle.cove_base.specs.Stores.{AllAllowed, fills, stored}
use Rattle.cove_base.specs.declared.calls.HostCall.TheVariants.{Convert, GlobalFence, LocalFence, Reclaim}
use Rattle.cove_base.specs.declared.limits.TheConstants.{ENTRY_LIMIT}
use Rattle.cove_model.specs.Owners.{every, has, is_host, is_free, page_at, zeros}
use Rattle.cove_model.specs.States.{State, opening, shared_pages}
use Rattle.cove_model.specs.Answers.{effect}
use Rattle.cove_model.specs.Sound.{IsSound}
use Rattle.cove_model.specs.WordsStand.{OwnersStand, WordsStand, FramesStand, epoch_in, answered_in, maps_of}
use Rattle.cove_model.specs.LawfulStores.{IsLawful, IsFreeIn}

-- no hart has answered a later epoch than the last
abbrev pub AnswersWithin : (pages harts : ℕ) (words : List ℕ) → Type 0
AnswersWithin pages harts words = (hart : ℕ) → hart < harts → answered_in pages words hart ≤ epoch_in pages words

-- every hart has answered the last epoch
abbrev pub AllAnswer : (pages harts : ℕ) (words : List ℕ) → Type 0
AllAnswer pages harts words = (hart : ℕ) → hart < harts → epoch_in pages words ≤ answered_in pages words hart

-- the pages of a call go into conversion
abbrev pub convert_stores : (pages : ℕ) (words : List ℕ) (base n : ℕ) → List (ℕ × ℕ)
convert_stores pages words base n = fills (page_word (base / 4096)) n (converting (epoch_in pages words))

-- a new global fence begins, and its hart answers it
abbrev pub global_fence_stores : (pages : ℕ) (words : List ℕ) (hart : ℕ) → List (ℕ × ℕ)
global_fence_stores pages words hart =
    (epoch_word pages, epoch_in pages words + 1) ∷ (answered_word pages hart, epoch_in pages words + 1) ∷ []

-- a hart answers the last global fence
abbrev pub local_fence_stores : (pages : ℕ) (words : List ℕ) (hart : ℕ) → List (ℕ × ℕ)
local_fence_stores pages words hart = (answered_word pages hart, epoch_in pages words) ∷ []

-- the pages of a call go back to the host
abbrev pub reclaim_stores : (base n : ℕ) → List (ℕ × ℕ)
reclaim_stores base n = fills (page_word (base / 4096)) n (host 0)

-- the words stand for the state, and no hart has answered a later epoch
pub record Stand (pages harts : ℕ) (words : List ℕ) (S : State) : Type 0 where
  pub stands : WordsStand pages harts words S
  pub within : AnswersWithin pages harts words

-- an accepted convert
abbrev pub ConvertWordsStand : Type 0
ConvertWordsStand =
    (pages harts : ℕ) (words : List ℕ) (S : State) (hart base n : ℕ)
    → 0 < harts → base / 4096 + n ≤ pages → every is_host (base / 4096) n S.pages ≡ true
    → Stand pages harts words S
    → Stand pages harts (stored words (convert_stores pages words base n)) (effect S hart (Convert base n))

-- an accepted global fence
abbrev pub GlobalFenceWordsStand : Type 0
GlobalFenceWordsStand =
    (pages harts : ℕ) (words : List ℕ) (S : State) (hart : ℕ)
    → hart < harts → AllAnswer pages harts words
    → Stand pages harts words S
    → Stand pages harts (stored words (global_fence_stores pages words hart)) (effect S hart GlobalFence)

-- a local fence
abbrev pub LocalFenceWordsStand : Type 0
LocalFenceWordsStand =
    (pages harts : ℕ) (words : List ℕ) (S : State) (hart : ℕ)
    → hart < harts
    → Stand pages harts words S
    → Stand pages harts (stored words (local_fence_stores pages words hart)) (effect S hart LocalFence)

-- an accepted reclaim
abbrev pub ReclaimWordsStand : Type 0
ReclaimWordsStand =
    (pages harts : ℕ) (words : List ℕ) (S : State) (hart base n : ℕ)
    → base / 4096 + n ≤ pages → every is_free (base / 4096) n S.pages ≡ true
    → IsSound S → Stand pages harts words S
    → Stand pages harts (stored words (reclaim_stores base n)) (effect S hart (Reclaim base n))

-- a word that says nothing of the owners of pages
abbrev pub IsBeside : Place → Type 0
IsBeside (PageWord page) = ⊥
IsBeside (TableWord page i) = Unit {0}
IsBeside EpochWord = ⊥
IsBeside (AnsweredWord hart) = ⊥
IsBeside (TvmWord tvm) = Unit {0}
IsBeside (HartWord hart) = Unit {0}
IsBeside CountWord = Unit {0}

-- a store of a table word, of a TVM's number, of a hart's word or of the count leaves the owners standing
abbrev pub OthersLeaveOwners : Type 0
OthersLeaveOwners =
    (pages harts : ℕ) (words : List ℕ) (S : State) (place : Place) (word : ℕ)
    → IsPlace pages harts place → IsBeside place
    → OwnersStand pages harts words S
    → OwnersStand pages harts (slice_set words (place_of pages harts place) word) S

-- a store of the count leaves all words standing
abbrev pub CountLeavesWords : Type 0
CountLeavesWords =
    (pages harts : ℕ) (words : List ℕ) (S : State) (word : ℕ)
    → Stand pages harts words S
    → Stand pages harts (slice_set words (place_of pages harts CountWord) word) S

-- at the opening every word is 0
abbrev pub OpeningWordsStand : Type 0
OpeningWordsStand =
    (script : ScriptValue)
    → Stand script.pages script.harts (replicate (all_words script.pages script.harts) 0) (opening script)

-- frames after a page of each run was filled with zeros
abbrev pub zeroed : (frames : List (List ℕ)) (first n : ℕ) → List (List ℕ)
zeroed frames first zero = frames
zeroed frames first (suc n) = zeroed (slice_set frames first zeros) (first + 1) n

-- an accepted convert changes no frame
abbrev pub ConvertKeepsFrames : Type 0
ConvertKeepsFrames =
    (frames : List (List ℕ)) (S : State) (hart base n : ℕ)
    → FramesStand frames S → FramesStand frames (effect S hart (Convert base n))

-- a global fence changes no frame
abbrev pub GlobalFenceKeepsFrames : Type 0
GlobalFenceKeepsFrames =
    (frames : List (List ℕ)) (S : State) (hart : ℕ)
    → FramesStand frames S → FramesStand frames (effect S hart GlobalFence)

-- a local fence changes no frame
abbrev pub LocalFenceKeepsFrames : Type 0
LocalFenceKeepsFrames =
    (frames : List (List ℕ)) (S : State) (hart : ℕ)
    → FramesStand frames S → FramesStand frames (effect S hart LocalFence)

-- an accepted reclaim fills the frames of its pages with zeros
abbrev pub ReclaimZeroesFrames : Type 0
ReclaimZeroesFrames =
    (frames : List (List ℕ)) (S : State) (hart base n : ℕ)
    → every is_free (base / 4096) n S.pages ≡ true
    → FramesStand frames S
    → FramesStand (zeroed frames (base / 4096) n) (effect S hart (Reclaim base n))

-- The stores of an accepted convert are lawful: its pages were the host's, and not mapped.
abbrev pub ConvertIsLawful : Type 0
ConvertIsLawful =
    (pages harts : ℕ) (words : List ℕ) (hart base n : ℕ)
    → base / 4096 + n ≤ pages
    → ((p : ℕ) → base / 4096 ≤ p → p < base / 4096 + n → slice_index words (page_word p) ≡ host 0)
    → AllAllowed (IsLawful pages harts hart words) words (convert_stores pages words base n)

-- the stores of an accepted global fence are lawful: every hart had answered
abbrev pub GlobalFenceIsLawful : Type 0
GlobalFenceIsLawful =
    (pages harts : ℕ) (words : List ℕ) (hart : ℕ)
    → hart < harts → epoch_word pages < length words → epoch_in pages words < ENTRY_LIMIT
    → AllAnswer pages harts words
    → AllAllowed (IsLawful pages harts hart words) words (global_fence_stores pages words hart)

-- the store of a local fence is lawful
abbrev pub LocalFenceIsLawful : Type 0
LocalFenceIsLawful =
    (pages harts : ℕ) (words : List ℕ) (hart : ℕ)
    → hart < harts
    → AllAllowed (IsLawful pages harts hart words) words (local_fence_stores pages words hart)

-- the stores of an accepted reclaim are lawful: its pages were free
abbrev pub ReclaimIsLawful : Type 0
ReclaimIsLawful =
    (pages harts : ℕ) (words : List ℕ) (hart base n : ℕ)
    → base / 4096 + n ≤ pages
    → ((p : ℕ) → base / 4096 ≤ p → p < base / 4096 + n → IsFreeIn pages harts words p)
    → AllAllowed (IsLawful pages harts hart words) words (reclaim_stores base n)

-- the least number that a hart has answered
abbrev pub IsFloor : (pages harts : ℕ) (words : List ℕ) (floor : ℕ) → Type 0
IsFloor pages harts words floor =
    ((hart : ℕ) → hart < harts → floor ≤ answered_in pages words hart)
    × ((hart : ℕ) × (hart < harts) × (floor ≡ answered_in pages words hart))

-- the lowest hart that hasn't answered the last epoch
abbrev pub IsLowestBehind : (pages harts : ℕ) (words : List ℕ) (hart : ℕ) → Type 0
IsLowestBehind pages harts words hart =
    (hart < harts) × (answered_in pages words hart < epoch_in pages words)
    × ((k : ℕ) → k < hart → epoch_in pages words ≤ answered_in pages words k)

-- a page is the host's exactly where its word says so
abbrev pub WordsTellHost : Type 0
WordsTellHost =
    (pages harts : ℕ) (words : List ℕ) (S : State) (p : ℕ) → p < pages → OwnersStand pages harts words S
    → (is_host (page_at S.pages p) ≡ true) ↔ IsHostWord (slice_index words (page_word p))

-- a page is free exactly where its word says so, by the least number that a hart has answered
abbrev pub WordsTellFree : Type 0
WordsTellFree =
    (pages harts : ℕ) (words : List ℕ) (S : State) (p floor : ℕ) → p < pages → OwnersStand pages harts words S
    → IsFloor pages harts words floor
    → (is_free (page_at S.pages p) ≡ true) ↔ IsFreeWord floor (slice_index words (page_word p))

-- where every hart has answered, none is unanswered
abbrev pub WordsTellAnswered : Type 0
WordsTellAnswered =
    (pages harts : ℕ) (words : List ℕ) (S : State) → OwnersStand pages harts words S
    → AllAnswer pages harts words → S.unanswered ≡ []

-- the lowest hart behind is the first that is unanswered
abbrev pub WordsTellLowest : Type 0
WordsTellLowest =
    (pages harts : ℕ) (words : List ℕ) (S : State) (hart : ℕ) → OwnersStand pages harts words S
    → IsLowestBehind pages harts words hart
    → (0 < length S.unanswered) × (slice_index S.unanswered 0 ≡ hart)

-- a page of the host's is mapped shared exactly where its word counts mappings
abbrev pub WordsTellShared : Type 0
WordsTellShared =
    (pages harts : ℕ) (words : List ℕ) (S : State) (p : ℕ) → p < pages → OwnersStand pages harts words S
    → is_host (page_at S.pages p) ≡ true
    → (has p (shared_pages S) ≡ false) ↔ (slice_index words (page_word p) ≡ host 0)

-- words that stand have a page word for each page, where the epoch and the mappings of the page are within the limits
abbrev pub WordsAreWords : Type 0
WordsAreWords =
    (pages harts : ℕ) (words : List ℕ) (S : State) (p : ℕ) → p < pages → Stand pages harts words S → 0 < harts
    → epoch_in pages words < 2 ^ 32 → maps_of S p < 2 ^ 32
    → IsPageWord (slice_index words (page_word p))
