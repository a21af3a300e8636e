use Rattle.std.specs.Prelude.{◌≡◌, ℕ, ◌+◌, ◌^◌, ◌<◌, ◌≤◌, List, slice_index}
use Rattle.cove_base.specs.PageWords.{host, converting, given, released, IsPageWord}
use Rattle.cove_base.specs.declared.limits.TheConstants.{TVM_LIMIT}
use Rattle.cove_owner.specs.declared.states.PageState.{PageState}
use Rattle.cove_owner.specs.declared.states.PageState.TheVariants.{Host, Converting, Given, Released}

-- the page word of a state
abbrev pub state_word : PageState → ℕ
state_word (Host maps) = host maps
state_word (Converting since) = converting since
state_word (Given tvm role) = given tvm.0 role
state_word Released = released

-- the numbers of a state are within their limits
abbrev pub IsBoundedState : PageState → Type 0
IsBoundedState (Host maps) = maps < 2 ^ 32
IsBoundedState (Converting since) = since < 2 ^ 32
IsBoundedState (Given tvm role) = (1 ≤ tvm.0) × (tvm.0 ≤ TVM_LIMIT)
IsBoundedState Released = Unit {0}

-- a fact of the page word of each of n pages
abbrev pub EveryPage : (P : ℕ → Type 0) (words : List ℕ) (first n : ℕ) → Type 0
EveryPage P words first n = (page : ℕ) → first ≤ page → page < first + n → P (slice_index words page)

-- a fact of the page word of one of n pages
abbrev pub SomePage : (P : ℕ → Type 0) (words : List ℕ) (first n : ℕ) → Type 0
SomePage P words first n = (page : ℕ) × (first ≤ page) × (page < first + n) × P (slice_index words page)

-- a word is the word of one state at most
abbrev pub WordsTellStates : Type 0
WordsTellStates = (s t : PageState) → state_word s ≡ state_word t → s ≡ t

-- the words of states within the limits are the page words
abbrev pub StatesHaveWords : Type 0
StatesHaveWords = (s : PageState) → IsBoundedState s → IsPageWord (state_word s)
