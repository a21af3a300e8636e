-- What a walk of a hart needs, and what it leaves.
use Rattle.std.specs.Prelude.{◌≡◌, ℕ, ◌<◌, List, length, slice_index}
use Rattle.cove_base.specs.HartValues.{HartValue, after_walk}
use Rattle.cove_base.specs.PageWords.{IsHostWord, IsPageWord}
use Rattle.cove_base.specs.Places.{page_word}
use Rattle.cove_base.specs.Scripts.{ScriptValue}
use Rattle.cove_base.specs.declared.events.Walked.{Walked}
use Rattle.cove_base.specs.declared.events.Walked.TheVariants.{Found, Missing}
use Rattle.cove_base.specs.declared.numbers.Page.{Page}
use Rattle.cove_base.specs.declared.walks.Target.TheVariants.{Host}
use Rattle.cove_core.specs.Kept.{IsKept}
use Rattle.cove_core.specs.declared.monitors.Mon.{Mon}
use Rattle.cove_hart.specs.Needs.{next_need}
use Rattle.cove_hart.specs.declared.needs.Need.TheVariants.{Walk}
use Rattle.cove_model.specs.Fits.{Fits}

-- each page of the board has a page word among the words
abbrev pub HavePageWords : (pages : ℕ) (words : List ℕ) → Type 0
HavePageWords pages words = (p : ℕ) → p < pages → (p < length words) × IsPageWord (slice_index words (page_word p))

-- a walk found its page exactly where the words have it as the host's, and was stopped by the page's word elsewhere
abbrev pub IsFoundIn : (words : List ℕ) (p : ℕ) → Walked → Type 0
IsFoundIn words p (Found page) = (page.0 ≡ p) × IsHostWord (slice_index words (page_word p))
IsFoundIn words p (Missing word) =
    (word ≡ slice_index words (page_word p)) × (IsHostWord (slice_index words (page_word p)) → ⊥)

-- The walk that a hart needed. It keeps it, and goes on fitting each history that was kept and that it fitted.
pub record IsWalked (script : ScriptValue) (words : List ℕ) (phase : ℕ) (held left : HartValue) : Type 0 where
  pub page : Page
  pub needed : next_need script held phase ≡ Walk (Host page)
  pub walked : Walked
  pub finds : IsFoundIn words page.0 walked
  pub left_is : left ≡ after_walk held (Host page) walked
  pub fits : (mon : Mon) → IsKept script words mon → Fits script mon.history held → Fits script mon.history left
