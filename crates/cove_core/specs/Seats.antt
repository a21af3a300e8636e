-- The harts of a board before any entry.
use Rattle.std.specs.Prelude.{◌≡◌, ℕ, ◌<◌, List, length, IfSome, None, slice_get, slice_index}
use Rattle.cove_base.specs.HartPlaces.{IsNextPlace}
use Rattle.cove_base.specs.HartValues.{no_rings}
use Rattle.cove_base.specs.Scripts.{ScriptValue}
use Rattle.cove_hart.specs.HartStates.{hart_value}
use Rattle.cove_hart.specs.declared.states.HartState.{HartState}

-- the first n harts are at the places of their first lines
abbrev pub AtFirstLines : ScriptValue → (n : ℕ) → (places : List ℕ) → Type 0
AtFirstLines script n places = (length places ≡ n) × ((hart : ℕ) → hart < n → IsNextPlace script hart 0 (slice_index places hart))

-- a hart has ended no line, found no page and made no walk
pub record IsNew (script : ScriptValue) (number : ℕ) (hart : HartState) : Type 0 where
  pub fresh : hart_value hart ≡ record { hart = number; ended = 0; place = hart.place; rings = no_rings; walked = None; inside = None }
  pub place : IsNextPlace script number 0 hart.place

-- each of the first n harts is new, in order
abbrev pub AreNew : ScriptValue → (n : ℕ) → List HartState → Type 0
AreNew script n harts = (length harts ≡ n) × ((k : ℕ) → k < n → IfSome (slice_get harts k) (IsNew script k))
