-- Each printed hit and walk is right, and no page changes hands while a hart may still use it.
use Rattle.std.specs.Prelude.{◌≡◌, ◌≢◌, ℕ, true, false, List, [], ◌∷◌, ◌++◌, Some, None}
use Rattle.cove_base.specs.declared.walks.Target.{Target}
use Rattle.cove_model.specs.Owners.{holder, page_at}
use Rattle.cove_model.specs.Types.{ScriptValue, Entry, Event, Hit, Walk}
use Rattle.cove_model.specs.Histories.{EachEntry, after, own}
use Rattle.cove_model.specs.Offers.{is_found}
use Rattle.cove_model.specs.Translations.{Touched, Arrival, Came, Failed, holds_target, names, tlb, touched}

-- a walk found the target at a moment since the hart's last entry
pub record WasFound (script : ScriptValue) (history : List Entry) (hart : ℕ) (target : Target) : Type 0 where
  pub earlier : List Entry
  pub since : List Entry
  pub split : history ≡ earlier ++ since
  pub silent : own since hart ≡ []
  pub found : is_found (after script earlier) hart target ≡ true

-- an access of a hart to a target comes by a hit, by a walk or not at all: a hit exactly where the hart holds the target
abbrev pub Reaches : ScriptValue → (history : List Entry) (hart : ℕ) → Target → Arrival → Type 0
Reaches script history h target (Came Hit) = holds_target (tlb script history h) target ≡ true
Reaches script history h target (Came Walk) =
    (holds_target (tlb script history h) target ≡ false) × WasFound script history h target
Reaches script history h target Failed = holds_target (tlb script history h) target ≡ false

-- what an event looked for is right
abbrev pub ReachesWhere : ScriptValue → (history : List Entry) (hart : ℕ) → Touched → Type 0
ReachesWhere script history h None = Unit {0}
ReachesWhere script history h (Some (target, way)) = Reaches script history h target way

-- what an event of a hart shows of its translations is right
abbrev pub IsReached : ScriptValue → (history : List Entry) (hart : ℕ) → Event → Type 0
IsReached script history h event = ReachesWhere script history h (touched (after script history) h event)

-- every hit, walk and fault of a history is right
abbrev pub IsCached : ScriptValue → List Entry → Type 0
IsCached script history = EachEntry (λ before entry. IsReached script before entry.hart.0 entry.event) [] history

-- a page that an entry gave to another is named by no translation of any hart afterwards
abbrev pub IsQuietAt : ScriptValue → (before : List Entry) → Entry → Type 0
IsQuietAt script before entry =
    (p hart : ℕ)
    → holder (page_at (after script (before ++ entry ∷ [])).pages p) ≢ holder (page_at (after script before).pages p)
    → names (tlb script (before ++ entry ∷ []) hart) p ≡ false

-- no page changes hands while a translation names it
abbrev pub IsQuiet : ScriptValue → List Entry → Type 0
IsQuiet script history = EachEntry (IsQuietAt script) [] history
