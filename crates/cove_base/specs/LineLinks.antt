-- How the lines of a script are linked: each to the next line of its hart.
use Rattle.std.specs.Prelude.{◌≡◌, ◌≢◌, ℕ, zero, suc, ◌+◌, ◌<◌, ◌≤◌, List, map, length, get_or, set}
use Rattle.cove_base.specs.declared.scripts.ScriptLine.{ScriptLine}

-- the hart of each line
abbrev pub harts_of : List ScriptLine → List ℕ
harts_of lines = map (λ line. line.hart.0) lines

-- the link of the line at a place: the place of the next line of its hart, or 0 where there is none
pub record IsLineLink (harts : List ℕ) (place link : ℕ) : Type 0 where
  pub later : 0 < link → place < link
  pub within : 0 < link → link < length harts
  pub same : 0 < link → get_or harts link 0 ≡ get_or harts place 0
  pub first : (i : ℕ) → place < i → i < link → get_or harts i 0 ≢ get_or harts place 0
  pub none : link ≡ 0 → (i : ℕ) → place < i → i < length harts → get_or harts i 0 ≢ get_or harts place 0

-- the place one after a hart's last line, or 0 where it has none
pub record IsEnd (harts : List ℕ) (hart end : ℕ) : Type 0 where
  pub within : end ≤ length harts
  pub own : (i : ℕ) → end ≡ i + 1 → get_or harts i 0 ≡ hart
  pub last : (i : ℕ) → end ≤ i → i < length harts → get_or harts i 0 ≢ hart

-- each line is linked, and the end of each hart is kept
pub record IsLinked (harts links ends : List ℕ) : Type 0 where
  pub lengths : length links ≡ length harts
  pub all : length ends ≡ 256
  pub each : (place : ℕ) → place < length harts → IsLineLink harts place (get_or links place 0)
  pub kept : (hart : ℕ) → hart < 256 → IsEnd harts hart (get_or ends hart 0)

-- the links once the line before an end is linked to a place
abbrev pub linked : (links : List ℕ) (end place : ℕ) → List ℕ
linked links zero place = links
linked links (suc before) place = set links before place
