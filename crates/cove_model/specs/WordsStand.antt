-- Which shared words and frames stand for a state of the monitor.
use Rattle.std.specs.Prelude.{◌≡◌, ℕ, ◌+◌, ◌*◌, ◌^◌, ◌<◌, ◌≤◌, ◌⊎◌, ◌==◌, Bool, true, false, nat_lt, List, [], filter, count_by, length, slice_index, slice_index_or, Option, Some, None, option_and_then}
use Rattle.cove_base.specs.PageWords.{host, converting, given, released}
use Rattle.cove_base.specs.Places.{page_word, table_word, epoch_word, answered_word, tvm_word, hart_word, all_words}
use Rattle.cove_base.specs.declared.limits.TheConstants.{TVM_LIMIT}
use Rattle.cove_base.specs.declared.numbers.Role.{Role}
use Rattle.cove_base.specs.declared.numbers.Role.TheVariants as role
use Rattle.cove_model.specs.Owners.{Purpose, AsRoot, AsState, AsTable, AsVcpu, AsData, Owner, Host, Converting, Free, Given, has, page_at}
use Rattle.cove_model.specs.States.{Seat, State, harts_below, shared_pages, tvm_at}
use Rattle.cove_model.specs.Mappings.{mapping_of, own_words}

-- the global epoch in the words of a board
abbrev pub epoch_in : (pages : ℕ) (words : List ℕ) → ℕ
epoch_in pages words = slice_index words (epoch_word pages)

-- the number that each hart has answered
abbrev pub answered_in : (pages : ℕ) (words : List ℕ) (hart : ℕ) → ℕ
answered_in pages words hart = slice_index words (answered_word pages hart)

-- the number of a TVM: that of its last fence
abbrev pub number_in : (pages harts : ℕ) (words : List ℕ) (tvm : ℕ) → ℕ
number_in pages harts words tvm = slice_index words (tvm_word pages harts tvm)

-- neither the epoch nor the number of a TVM is above this
pub record FencesWithin (pages harts : ℕ) (words : List ℕ) (most : ℕ) : Type 0 where
  pub epoch : epoch_in pages words ≤ most
  pub numbers : (tvm : ℕ) → 1 ≤ tvm → tvm ≤ TVM_LIMIT → number_in pages harts words tvm ≤ most

-- the role that a page word has for a purpose
abbrev pub role_of : Purpose → Role
role_of AsRoot = role.Root
role_of AsState = role.State
role_of AsTable = role.Table
role_of AsVcpu = role.Vcpu
role_of (AsData guest) = role.Data

-- how often a page is mapped shared
abbrev pub maps_of : State → (p : ℕ) → ℕ
maps_of S p = count_by (λ q. q == p) (shared_pages S)

-- the harts that have answered less than a number, rising
abbrev pub harts_behind : (harts : ℕ) (answered : ℕ → ℕ) (number : ℕ) → List ℕ
harts_behind harts answered number = filter (λ hart. nat_lt (answered hart) number) (harts_below harts)

-- every hart has answered more than the epoch at a convert
abbrev pub IsAnsweredByAll : (harts : ℕ) (answered : ℕ → ℕ) (since : ℕ) → Type 0
IsAnsweredByAll harts answered since = (hart : ℕ) → hart < harts → since < answered hart

-- The harts that a page in conversion since an epoch waits for: none is known before a later global fence, and then
-- those that have answered no later epoch.
abbrev pub WaitsFor : (harts epoch : ℕ) (answered : ℕ → ℕ) (since : ℕ) → Option (List ℕ) → Type 0
WaitsFor harts epoch answered since None = epoch ≤ since
WaitsFor harts epoch answered since (Some waiting) =
    (since < epoch) × (waiting ≡ harts_behind harts answered (since + 1))

-- the word of a page in conversion that some hart may still use
pub record Pends (harts epoch : ℕ) (answered : ℕ → ℕ) (word : ℕ) (held : List ℕ) (waiting : Option (List ℕ)) : Type 0 where
  pub since : ℕ
  pub is : word ≡ converting since
  pub begun : since ≤ epoch
  -- a hart that may still use it is of the board, and has answered no later epoch
  pub holds : (hart : ℕ) → has hart held ≡ true → (hart < harts) × (answered hart ≤ since)
  pub waits : WaitsFor harts epoch answered since waiting
  pub pending : (hart : ℕ) × (hart < harts) × (answered hart ≤ since)

-- the word of a free page
abbrev pub FreeStands : (harts : ℕ) (answered : ℕ → ℕ) (word : ℕ) → Type 0
FreeStands harts answered word =
    (word ≡ released) ⊎ ((since : ℕ) × (word ≡ converting since) × IsAnsweredByAll harts answered since)

-- a page word stands for an owner, by the epoch, the answered numbers and the number of shared mappings
abbrev pub PageStands : (harts epoch : ℕ) (answered : ℕ → ℕ) (maps word : ℕ) → Owner → Type 0
PageStands harts epoch answered maps word (Host words) = word ≡ host maps
PageStands harts epoch answered maps word (Converting held waiting words) =
    Pends harts epoch answered word held waiting
PageStands harts epoch answered maps word Free = FreeStands harts answered word
PageStands harts epoch answered maps word (Given tvm purpose) =
    (1 ≤ tvm) × (tvm ≤ TVM_LIMIT) × (word ≡ given tvm (role_of purpose))

-- the page words, the epoch and the answered numbers stand for the owners and the harts that haven't answered
pub record OwnersStand (pages harts : ℕ) (words : List ℕ) (S : State) : Type 0 where
  pub page_count : length S.pages ≡ pages
  pub hart_count : S.harts ≡ harts
  pub page :
      (p : ℕ) → p < pages
      → PageStands harts (epoch_in pages words) (answered_in pages words) (maps_of S p) (slice_index words (page_word p)) (page_at S.pages p)
  pub unanswered : S.unanswered ≡ harts_behind harts (answered_in pages words) (epoch_in pages words)

-- a page that a TVM has as a root or a table page
abbrev pub is_table : Owner → Bool
is_table (Host words) = false
is_table (Converting held waiting words) = false
is_table Free = false
is_table (Given tvm AsRoot) = true
is_table (Given tvm AsState) = false
is_table (Given tvm AsTable) = true
is_table (Given tvm AsVcpu) = false
is_table (Given tvm (AsData guest)) = false

-- the word of a hart that is inside: its TVM, and the number that it entered with
pub record SitsByWord (pages harts : ℕ) (words : List ℕ) (word : ℕ) (seat : Seat) : Type 0 where
  pub low : 1 ≤ seat.tvm
  pub high : seat.tvm ≤ TVM_LIMIT
  pub number : ℕ
  pub begun : number ≤ number_in pages harts words seat.tvm
  pub is : word ≡ 2 ^ 32 * seat.tvm + number

-- the word of a hart stands for where it is
abbrev pub SeatStands : (pages harts : ℕ) (words : List ℕ) (word : ℕ) → Option Seat → Type 0
SeatStands pages harts words word None = word ≡ 0
SeatStands pages harts words word (Some seat) = SitsByWord pages harts words word seat

-- all words stand for a state
pub record WordsStand (pages harts : ℕ) (words : List ℕ) (S : State) : Type 0 where
  pub size : length words ≡ all_words pages harts
  pub owners : OwnersStand pages harts words S
  pub tables :
      (p i : ℕ) → p < pages → i < 512 → is_table (page_at S.pages p) ≡ false
      → slice_index words (table_word pages p i) ≡ 0
  pub unused : number_in pages harts words 0 ≡ 0
  pub seats :
      (hart : ℕ) → hart < harts
      → SeatStands pages harts words (slice_index words (hart_word pages harts hart)) (S.seats hart)

-- the words of a TVM's own at one of its guest pages
abbrev pub words_at : State → (tvm guest : ℕ) → Option (List ℕ)
words_at S tvm guest = option_and_then (λ mapping. own_words mapping.backing) (mapping_of (tvm_at S tvm) guest)

-- the frame of a page of a TVM has the words of its guest page; of other pages of TVMs nothing is said
abbrev pub GivenStands : State → (frame : List ℕ) (tvm : ℕ) → Purpose → Type 0
GivenStands S frame tvm (AsData guest) = words_at S tvm guest ≡ Some frame
GivenStands S frame tvm AsRoot = Unit {0}
GivenStands S frame tvm AsState = Unit {0}
GivenStands S frame tvm AsTable = Unit {0}
GivenStands S frame tvm AsVcpu = Unit {0}

-- the frame of a page of the host's, or on its way from the host, has the words that the host sees
abbrev pub FrameStands : State → (frame : List ℕ) → Owner → Type 0
FrameStands S frame (Host words) = frame ≡ words
FrameStands S frame (Converting held waiting words) = frame ≡ words
FrameStands S frame Free = Unit {0}
FrameStands S frame (Given tvm purpose) = GivenStands S frame tvm purpose

-- the frames stand for the memory of the host and of the TVMs
pub record FramesStand (frames : List (List ℕ)) (S : State) : Type 0 where
  pub count : length frames ≡ length S.pages
  pub frame : (p : ℕ) → p < length frames → FrameStands S (slice_index_or frames p []) (page_at S.pages p)
