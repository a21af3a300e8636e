-- What one hart holds fits a history. Neither the shared words nor any other hart is looked at.
use Rattle.std.specs.Prelude.{◌≡◌, ◌<◌, ℕ, false, List, [], Contains, map, Option, Some, None}
use Rattle.std.specs.Option.{option_map}
use Rattle.cove_base.specs.HartPlaces.{IsNextPlace}
use Rattle.cove_base.specs.HartValues.{HartRings, HartValue, Inside, Way, rings_after}
use Rattle.cove_base.specs.Scripts.{ScriptValue}
use Rattle.cove_base.specs.declared.events.Entry.{Entry}
use Rattle.cove_base.specs.declared.events.Walked.{Walked}
use Rattle.cove_base.specs.declared.events.Walked.TheVariants.{Found, Missing}
use Rattle.cove_base.specs.declared.numbers.Page.{Page}
use Rattle.cove_base.specs.declared.walks.Noted.{Noted}
use Rattle.cove_base.specs.declared.walks.Target.{Target}
use Rattle.cove_base.specs.declared.walks.Target.TheVariants.{Host, Fetch, Access}
use Rattle.cove_model.specs.Aims.{aimed_at}
use Rattle.cove_model.specs.Cached.{WasFound}
use Rattle.cove_model.specs.Histories.{after}
use Rattle.cove_model.specs.Offers.{cpu_of}
use Rattle.cove_model.specs.Owners.{Given, AsTable, page_at}
use Rattle.cove_model.specs.Pages.{root_of}
use Rattle.cove_model.specs.States.{Seat, State, ended_by, mode_in}
use Rattle.cove_model.specs.Translations.{Tlb, holds_target, pair_of, tlb}

-- ---- rings

-- host pages as a ring has them, each under its own number; and guest pages, each with its page
abbrev pub ring_of : List ℕ → List (ℕ × Page)
ring_of pages = map (λ p. (p, record { 0 = p })) pages

abbrev pub pairs_of : List (ℕ × ℕ) → List (ℕ × Page)
pairs_of pairs = map (λ pair. (pair.0, record { 0 = pair.1 })) pairs

-- translations as rings have them
abbrev pub rings_of : Tlb → HartRings
rings_of held =
    record { hosts = ring_of held.pages; fetches = pairs_of held.fetches; accesses = pairs_of held.accesses }

-- rings with the page of a walk that found one and was not used yet
abbrev pub walked_rings : HartRings → Option Noted → HartRings
walked_rings rings None = rings
walked_rings rings (Some noted) = rings_after rings noted.target noted.walked

-- ---- walks that were not used yet

-- a walk looks for what the hart looks for next, which no translation of the hart names
pub record IsSought (script : ScriptValue) (history : List Entry) (hart : ℕ) (target : Target) : Type 0 where
  pub aims : aimed_at script (after script history) hart ((after script history).seats hart) ≡ Some target
  pub absent : holds_target (tlb script history hart) target ≡ false

-- the page that a walk of a hart comes to in a state
abbrev pub page_for : State → (hart : ℕ) → Target → ℕ
page_for S h (Host p) = p.0
page_for S h (Fetch g) = (pair_of S h g.0).1
page_for S h (Access g) = (pair_of S h g.0).1

-- a walk found the target, and came to this page, at a moment since the hart's last entry
pub record WasLed (script : ScriptValue) (history : List Entry) (hart : ℕ) (target : Target) (page : Page) : Type 0 where
  pub was : WasFound script history hart target
  pub led : page.0 ≡ page_for (after script was.earlier) hart target

-- what a walk came to is right
abbrev pub WalkFits : ScriptValue → (history : List Entry) (hart : ℕ) → Target → Walked → Type 0
WalkFits script history hart target (Found page) =
    IsSought script history hart target × WasLed script history hart target page
WalkFits script history hart target (Missing word) = IsSought script history hart target

abbrev pub UnusedFits : ScriptValue → (history : List Entry) (hart : ℕ) → Option Noted → Type 0
UnusedFits script history hart None = Unit {0}
UnusedFits script history hart (Some noted) = WalkFits script history hart noted.target noted.walked

-- ---- where a hart is

abbrev pub seat_of : Inside → Seat
seat_of here = record { tvm = here.tvm; cpu = here.cpu }

-- a hart runs this vCPU, of which it knows the registers, the place, the latched word and the fuel, and the root and the mode
-- of its TVM's tables
pub record RunsThere (S : State) (hart : ℕ) (here : Inside) : Type 0 where
  pub sits : S.seats hart ≡ Some (seat_of here)
  pub root : root_of S.pages here.tvm ≡ here.root
  pub mode : mode_in S here.tvm ≡ here.mode
  pub x : (cpu_of S (seat_of here)).x ≡ here.x
  pub pc : (cpu_of S (seat_of here)).pc ≡ here.pc
  pub latched : (cpu_of S (seat_of here)).latched ≡ here.latched
  pub fuel : (cpu_of S (seat_of here)).fuel ≡ here.fuel

abbrev pub InsideFits : State → (hart : ℕ) → Option Inside → Type 0
InsideFits S hart None = S.seats hart ≡ None
InsideFits S hart (Some here) = RunsThere S hart here

-- ---- the way of guest walks

-- a hart is inside a TVM: the way begins at the root of its tables, goes by their mode, and came by pages that are given to it
-- for tables
pub record IsWay (S : State) (hart : ℕ) (way : Way) : Type 0 where
  pub seat : Seat
  pub sits : S.seats hart ≡ Some seat
  pub root : root_of S.pages seat.tvm ≡ way.root
  pub mode : mode_in S seat.tvm ≡ way.mode
  pub tables : (p : ℕ) → Contains way.tables p → page_at S.pages p ≡ Given seat.tvm AsTable

-- a hart has a way where it is inside, and none outside
abbrev pub WayFits : State → (hart : ℕ) → Option Way → Type 0
WayFits S hart None = S.seats hart ≡ None
WayFits S hart (Some way) = IsWay S hart way

-- the way of a hart that makes no walk, by the state
abbrev pub way_in : State → (hart : ℕ) → Option Way
way_in S hart =
    option_map (λ seat. record { root = root_of S.pages seat.tvm; mode = mode_in S seat.tvm; tables = [] }) (S.seats hart)

-- ---- the whole

-- a hart of the board knows where it stands in its lines and where it is, its rings are its translations with the page
-- of an unused walk, and that walk is right
pub record Fits (script : ScriptValue) (history : List Entry) (held : HartValue) : Type 0 where
  pub on_board : held.hart < script.harts
  pub counts : held.ended ≡ ended_by (after script history) held.hart
  pub stands : IsNextPlace script held.hart held.ended held.place
  pub rings : held.rings ≡ walked_rings (rings_of (tlb script history held.hart)) held.walked
  pub walk : UnusedFits script history held.hart held.walked
  pub inside : InsideFits (after script history) held.hart held.inside
