-- What the monitor keeps true of its history between two entries.
use Rattle.std.specs.Prelude.{◌≡◌, ℕ, ◌<◌, List, length, slice_index}
use Rattle.cove_base.specs.HartPlaces.{IsNextPlace}
use Rattle.cove_base.specs.Places.{count_word}
use Rattle.cove_base.specs.Scripts.{ScriptValue}
use Rattle.cove_core.specs.declared.monitors.Mon.{Mon}
use Rattle.cove_model.specs.Cached.{IsCached}
use Rattle.cove_model.specs.Histories.{Legal, after}
use Rattle.cove_model.specs.States.{State, ended_by}
use Rattle.cove_model.specs.WordsStand.{FencesWithin}
use Rattle.cove_tvm.specs.Stands.{Stands}
use Rattle.cove_tvm.specs.declared.ground.Ground.{Ground}

-- the board of the monitor is the script's
pub record IsBoard (script : ScriptValue) (ground : Ground) : Type 0 where
  pub pages : ground.pages ≡ script.pages
  pub harts : ground.harts ≡ script.harts

-- a place for each hart of the board: that of its next line in a state
pub record ProgressStands (script : ScriptValue) (S : State) (places : List ℕ) : Type 0 where
  pub count : length places ≡ script.harts
  pub each : (hart : ℕ) → hart < script.harts → IsNextPlace script hart (ended_by S hart) (slice_index places hart)

-- The history is legal and cached, and the words, the ground and the progress of the harts stand for the state after
-- it. The count word is its length, and no fence has a greater number.
pub record IsKept (script : ScriptValue) (words : List ℕ) (mon : Mon) : Type 0 where
  pub board : IsBoard script mon.ground
  pub legal : Legal script mon.history
  pub cached : IsCached script mon.history
  pub stands : Stands words mon.ground (after script mon.history)
  pub progress : ProgressStands script (after script mon.history) mon.progress
  pub count : slice_index words (count_word script.pages script.harts) ≡ length mon.history
  pub fences : FencesWithin script.pages script.harts words (length mon.history)
