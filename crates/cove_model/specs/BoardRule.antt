-- What holds of the shared words, the history and what each hart holds, also while a hart that is held stores. It is
-- said of host pages, of the moment of each walk, and of the root, the mode and the table pages that a hart inside goes by;
-- the words of tables have no part in it yet.
use Rattle.std.specs.Prelude.{◌≡◌, ◌≢◌, ℕ, ◌<◌, ◌⊎◌, List, [], ◌∷◌, ◌++◌, IsSome, IsTrue, Option, Some, None, length, replicate, slice_index, slice_set}
use Rattle.cove_base.specs.HartValues.{HartValue, Holding, holding, rings_after}
use Rattle.cove_base.specs.HostWalks.{walked_to}
use Rattle.cove_base.specs.PageWords.{IsHostWord}
use Rattle.cove_base.specs.Places.{page_word, answered_word, count_word, all_words}
use Rattle.cove_base.specs.Rings.{found}
use Rattle.cove_base.specs.Scripts.{ScriptValue, is_within_limits}
use Rattle.cove_base.specs.declared.events.Entry.{Entry}
use Rattle.cove_base.specs.declared.events.Walked.{Walked}
use Rattle.cove_base.specs.declared.events.Walked.TheVariants.{Found, Missing}
use Rattle.cove_base.specs.declared.limits.TheConstants.{ENTRY_LIMIT}
use Rattle.cove_base.specs.declared.numbers.Page.{Page}
use Rattle.cove_base.specs.declared.walks.Noted.{Noted}
use Rattle.cove_base.specs.declared.walks.Target.{Target}
use Rattle.cove_base.specs.declared.walks.Target.TheVariants.{Host, Fetch, Access}
use Rattle.cove_model.specs.Cached.{IsCached, WasFound}
use Rattle.cove_model.specs.Fits.{Fits, WasLed, WayFits, rings_of, walked_rings, way_in}
use Rattle.cove_model.specs.Histories.{Legal, after}
use Rattle.cove_model.specs.LawfulCounts.{IsCountable, counted}
use Rattle.cove_model.specs.LawfulStores.{IsLawful, MakesLawful}
use Rattle.cove_model.specs.StoreLaw.{MayUse}
use Rattle.cove_model.specs.Translations.{tlb}
use Rattle.cove_model.specs.WordLaws.{AnswersWithin}
use Rattle.cove_model.specs.WordsStand.{FencesWithin, WordsStand}

-- The monitor's part. The history is legal and cached; the words as they were at its last entry stand for the state
-- after it, and no more fences had begun than it has entries; the count is the number of its entries.
pub record IsMonitored (script : ScriptValue) (history : List Entry) (old now : List ℕ) : Type 0 where
  pub legal : Legal script history
  pub cached : IsCached script history
  pub stands : WordsStand script.pages script.harts old (after script history)
  pub fences : FencesWithin script.pages script.harts old (length history)
  pub count : slice_index now (count_word script.pages script.harts) ≡ length history
  pub size : length now ≡ all_words script.pages script.harts

-- no hart has answered a later epoch than the last, and no more fences began than a history may have entries
pub record AreBounded (pages harts : ℕ) (words : List ℕ) : Type 0 where
  pub within : AnswersWithin pages harts words
  pub fences : FencesWithin pages harts words ENTRY_LIMIT

-- a host page that an unused walk found has the word of a page of the host's, or was the host's at a moment since the
-- hart's last entry; a walk to a guest page found it then
abbrev pub WalkLives : ScriptValue → (history : List Entry) (words : List ℕ) (hart : ℕ) → Target → Walked → Type 0
WalkLives script history words hart (Host p) (Found page) =
    (page ≡ p) × (p.0 < script.pages)
    × (IsHostWord (slice_index words (page_word p.0)) ⊎ WasFound script history hart (Host p))
WalkLives script history words hart (Fetch g) (Found page) = WasLed script history hart (Fetch g) page
WalkLives script history words hart (Access g) (Found page) = WasLed script history hart (Access g) page
WalkLives script history words hart target (Missing word) = Unit {0}

abbrev pub UnusedLives : ScriptValue → (history : List Entry) (words : List ℕ) (hart : ℕ) → Option Noted → Type 0
UnusedLives script history words hart None = Unit {0}
UnusedLives script history words hart (Some noted) = WalkLives script history words hart noted.target noted.walked

-- a walk that was not used yet found this host page
abbrev pub FindsPage : Target → Walked → (p : ℕ) → Type 0
FindsPage (Host q) (Found page) p = q.0 ≡ p
FindsPage (Host q) (Missing word) p = ⊥
FindsPage (Fetch g) walked p = ⊥
FindsPage (Access g) walked p = ⊥

abbrev pub HasFound : Option Noted → (p : ℕ) → Type 0
HasFound None p = ⊥
HasFound (Some noted) p = FindsPage noted.target noted.walked p

-- a hart names a host page by its ring, or by a walk that it has not used yet
abbrev pub HoldingNames : Holding → (p : ℕ) → Type 0
HoldingNames held p = IsSome (found p held.rings.hosts) ⊎ HasFound held.walked p

-- The part of a hart of the board, by what it holds. Each page that its ring of host pages names is one of the board that
-- the hart may use by the words: it is the host's, or in conversion, and the hart has answered no later epoch. Its rings
-- are its translations with the page of an unused walk, and the way of its guest walks is that of its TVM.
pub record IsLive (script : ScriptValue) (history : List Entry) (words : List ℕ) (held : Holding) : Type 0 where
  pub on_board : held.hart < script.harts
  pub usable : (p : ℕ) → IsSome (found p held.rings.hosts) → (p < script.pages) × MayUse script.pages words held.hart p
  pub walk : UnusedLives script history words held.hart held.walked
  pub rings : held.rings ≡ walked_rings (rings_of (tlb script history held.hart)) held.walked
  pub way : WayFits (after script history) held.hart held.way

-- A lawful store of one hart keeps the rule of each hart, whatever that one does meanwhile: of the hart that stores too,
-- unless it stores its answered number.
abbrev pub StoresKeepRule : Type 0
StoresKeepRule =
    (script : ScriptValue) (history : List Entry) (old now : List ℕ) (hart place word : ℕ)
    → IsMonitored script history old now → AreBounded script.pages script.harts now
    → IsLawful script.pages script.harts hart old now place word
    → IsMonitored script history old (slice_set now place word)
    × AreBounded script.pages script.harts (slice_set now place word)
    × ((other : Holding) → answered_word script.pages other.hart ≢ place
    → IsLive script history now other → IsLive script history (slice_set now place word) other)

-- And it keeps an unused walk of each hart right.
abbrev pub StoresKeepWalks : Type 0
StoresKeepWalks =
    (script : ScriptValue) (history : List Entry) (old now : List ℕ) (hart place word : ℕ)
    → IsMonitored script history old now → AreBounded script.pages script.harts now
    → IsLawful script.pages script.harts hart old now place word
    → (other : ℕ) (noted : Option Noted)
    → UnusedLives script history now other noted → UnusedLives script history (slice_set now place word) other noted

-- A list of lawful stores keeps the rule of every other hart.
abbrev pub ListsKeepRule : Type 0
ListsKeepRule =
    (script : ScriptValue) (history : List Entry) (old now new : List ℕ) (hart : ℕ)
    → IsMonitored script history old now → AreBounded script.pages script.harts now
    → MakesLawful script.pages script.harts hart old now new
    → IsMonitored script history old new
    × AreBounded script.pages script.harts new
    × ((other : Holding) → other.hart ≢ hart → IsLive script history now other → IsLive script history new other)

-- And so does the store of the count, for an entry of that hart; the words are then those at the last entry.
abbrev pub CountsKeepRule : Type 0
CountsKeepRule =
    (script : ScriptValue) (history : List Entry) (old now : List ℕ) (hart : ℕ) (entry : Entry)
    → IsTrue (is_within_limits script) → IsMonitored script history old now → AreBounded script.pages script.harts now
    → IsCountable script history hart now entry
    → let new = counted script.pages script.harts now in
    IsMonitored script (history ++ entry ∷ []) new new
    × AreBounded script.pages script.harts new
    × ((other : Holding) → other.hart ≢ hart
    → IsLive script history now other → IsLive script (history ++ entry ∷ []) new other)

-- what a hart holds after a walk, which it has not used yet
abbrev pub walked_holding : Holding → Target → Walked → Holding
walked_holding held target walked = record held {
  rings = rings_after held.rings target walked;
  walked = Some (record { target = target; walked = walked });
}

-- A walk to a host page keeps the rule of its hart, which had no unused walk: one load of the page's word between any two
-- stores of other harts.
abbrev pub WalksKeepRule : Type 0
WalksKeepRule =
    (script : ScriptValue) (history : List Entry) (words : List ℕ) (held : Holding) (page : Page)
    → page.0 < script.pages → held.walked ≡ None → IsLive script history words held
    → IsLive script history words (walked_holding held (Host page) (walked_to page (slice_index words (page_word page.0))))

-- what a hart holds that has just its translations, and makes no walk
abbrev pub resting : ScriptValue → (history : List Entry) (hart : ℕ) → Holding
resting script history hart = record {
  hart = hart;
  rings = rings_of (tlb script history hart);
  walked = None;
  way = way_in (after script history) hart;
}

-- Where no store is pending, the rule holds of each hart that has just its translations: after the count of its entry,
-- and at the opening.
abbrev pub RestingHartsLive : Type 0
RestingHartsLive =
    (script : ScriptValue) (history : List Entry) (words : List ℕ) (hart : ℕ)
    → IsTrue (is_within_limits script) → IsMonitored script history words words
    → hart < script.harts → IsLive script history words (resting script history hart)

-- At the opening, where every word is 0, the monitor's part of the rule holds, and the numbers are bounded.
abbrev pub OpeningKeepsRule : Type 0
OpeningKeepsRule =
    (script : ScriptValue)
    → let zeros = replicate (all_words script.pages script.harts) 0 in
    IsMonitored script [] zeros zeros × AreBounded script.pages script.harts zeros

-- Where no store is pending, the rule holds of each hart that fits the history.
abbrev pub FittingHartsLive : Type 0
FittingHartsLive =
    (script : ScriptValue) (history : List Entry) (words : List ℕ) (held : HartValue)
    → IsTrue (is_within_limits script) → IsMonitored script history words words
    → Fits script history held → IsLive script history words (holding held)

-- So each host page that such a hart names, by its ring of host pages or by an unused walk, is one of the board that it may use.
abbrev pub FittingHartsUse : Type 0
FittingHartsUse =
    (script : ScriptValue) (history : List Entry) (words : List ℕ) (held : HartValue) (p : ℕ)
    → IsTrue (is_within_limits script) → IsMonitored script history words words
    → Fits script history held → HoldingNames (holding held) p → (p < script.pages) × MayUse script.pages words held.hart p

-- And a walk of a hart of which it holds was right: the page that it found was the host's at a moment since the
-- hart's last entry, also where it was made while another hart stored.
abbrev pub LiveWalksWereRight : Type 0
LiveWalksWereRight =
    (script : ScriptValue) (history : List Entry) (words : List ℕ) (held : Holding) (p page : Page)
    → IsMonitored script history words words → IsLive script history words held
    → held.walked ≡ Some (record { target = Host p; walked = Found page })
    → WasFound script history held.hart (Host p)
