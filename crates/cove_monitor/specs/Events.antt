-- What a walk and an event of a hart leave.
use Rattle.std.specs.Prelude.{◌≡◌, ℕ, List, [], ◌∷◌, ◌++◌, None, length}
use Rattle.cove_base.specs.HartValues.{HartRings, HartValue, after_walk}
use Rattle.cove_base.specs.HostWalks.{walked_to}
use Rattle.cove_base.specs.Rings.{found}
use Rattle.cove_base.specs.Scripts.{ScriptValue}
use Rattle.cove_base.specs.declared.events.Entry.{Entry}
use Rattle.cove_base.specs.declared.events.Event.{Event}
use Rattle.cove_base.specs.declared.events.Event.TheVariants.{LoadFault, StoreFault}
use Rattle.cove_base.specs.declared.limits.TheConstants.{ENTRY_LIMIT}
use Rattle.cove_base.specs.declared.numbers.Page.{Page}
use Rattle.cove_base.specs.declared.walks.Target.TheVariants.{Host}
use Rattle.cove_board.specs.Parts.{HartPart, walked_part}
use Rattle.cove_core.specs.Stepped.{IfNoEntry, IsFirstBehind, IsLimit, OnAhead, OnDid}
use Rattle.cove_core.specs.declared.steps.Stepped.{Stepped}
use Rattle.cove_hart.specs.Needs.{next_need}
use Rattle.cove_hart.specs.declared.needs.Need.TheVariants.{Walk}
use Rattle.cove_model.specs.States.{page_of}

-- A hart made the walk that it needed in this phase, by one load of the page's word, and it and its part know it.
pub record HasWalked (script : ScriptValue) (phase : ℕ) (held left : HartValue) (before now : HartPart) : Type 0 where
  pub page : Page
  pub word : ℕ
  pub needed : next_need script held phase ≡ Walk (Host page)
  pub noted : left ≡ after_walk held (Host page) (walked_to page word)
  pub loaded : now ≡ walked_part page word before

-- where an access failed, no ring named its page
abbrev pub NamesNone : HartRings → Event → Type 0
NamesNone rings (LoadFault addr) = found (page_of addr) rings.hosts ≡ None
NamesNone rings (StoreFault addr value) = found (page_of addr) rings.hosts ≡ None
NamesNone rings event = Unit {0}

-- A hart made one entry, and no other, for which it used up its walk or dropped it. The history that it saw begins with
-- the one that it had seen, and ends with the entry, which stands at this place.
pub record HasMadeEntry (held : HartValue) (before now : HartPart) (place : ℕ) : Type 0 where
  pub entry : Entry
  pub between : List Entry
  pub mine : now.mine ≡ before.mine ++ entry ∷ []
  pub seen : now.seen ≡ (before.seen ++ between) ++ entry ∷ []
  pub place_is : place ≡ length (before.seen ++ between)
  pub missed : NamesNone held.rings entry.event
  pub used : now.walked ≡ None

-- a hart made no entry, and saw a history that begins with the one that it had seen
pub record HasLooked (before now : HartPart) : Type 0 where
  pub mine : now.mine ≡ before.mine
  pub seen : (more : List Entry) × (now.seen ≡ before.seen ++ more)

-- What an event of a hart came to: the hart made an entry; or it made none, and then it holds what it held and has seen a
-- history that is full, or in which another hart is behind.
pub record HasStepped (script : ScriptValue) (stepped : Stepped) (held left : HartValue) (before now : HartPart) : Type 0 where
  pub entered : OnDid stepped (HasMadeEntry held before now)
  pub looked : IfNoEntry stepped (HasLooked before now × (left ≡ held))
  pub limit : IsLimit stepped → length now.seen ≡ ENTRY_LIMIT
  pub ahead : OnAhead stepped (λ other. IsFirstBehind script now.seen left other.0)
  pub same_hart : left.hart ≡ held.hart
