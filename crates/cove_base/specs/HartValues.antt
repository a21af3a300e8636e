-- What one hart holds beside the shared words.
use Rattle.std.specs.Prelude.{ℕ, ◌/◌, ◌==◌, Bool, false, List, [], Option, Some, None}
use Rattle.std.specs.Option.{option_map}
use Rattle.cove_base.specs.declared.events.Walked.{Walked}
use Rattle.cove_base.specs.declared.events.Walked.TheVariants.{Found, Missing}
use Rattle.cove_base.specs.declared.modes.Mode.{Mode}
use Rattle.cove_base.specs.declared.numbers.Page.{Page}
use Rattle.cove_base.specs.declared.scripts.Line.{Line}
use Rattle.cove_base.specs.declared.scripts.Line.TheVariants.{Call, Load, Store}
use Rattle.cove_base.specs.declared.walks.Noted.{Noted}
use Rattle.cove_base.specs.declared.walks.Target.{Target}
use Rattle.cove_base.specs.declared.walks.Target.TheVariants.{Host, Fetch, Access}
use Rattle.cove_base.specs.Rings.{ring_with, found}

-- the rings of a hart's TLB: host pages, and guest pages for fetches and for data, each page under the key that finds it
pub record HartRings : Type 0 where
  pub hosts : List (ℕ × Page)
  pub fetches : List (ℕ × Page)
  pub accesses : List (ℕ × Page)

-- the vCPU that a hart runs, the root and the mode of its TVM's tables, and what the hart keeps of the vCPU between two of
-- its entries
pub record Inside : Type 0 where
  pub tvm : ℕ
  pub cpu : ℕ
  pub root : ℕ
  pub mode : Mode
  pub x : List ℕ
  pub pc : ℕ
  pub latched : Option ℕ
  pub fuel : ℕ

-- a hart: its number, how many of its lines it has ended and the place of the next one, its rings, a walk that it has
-- not used yet, and where it is inside, if it is
pub record HartValue : Type 0 where
  pub hart : ℕ
  pub ended : ℕ
  pub place : ℕ
  pub rings : HartRings
  pub walked : Option Noted
  pub inside : Option Inside

-- where the guest walks of a hart that is inside begin, and what they came by: the root and the mode of its TVM's tables,
-- and table pages
pub record Way : Type 0 where
  pub root : ℕ
  pub mode : Mode
  pub tables : List ℕ

-- what the board's rule speaks of: the hart's number, its rings, the walk that it has not used yet, and the way of its guest
-- walks, where it is inside
pub record Holding : Type 0 where
  pub hart : ℕ
  pub rings : HartRings
  pub walked : Option Noted
  pub way : Option Way

-- the way of a hart that makes no walk
abbrev pub way_of : Inside → Way
way_of here = record { root = here.root; mode = here.mode; tables = [] }

abbrev pub holding : HartValue → Holding
holding held = record { hart = held.hart; rings = held.rings; walked = held.walked; way = option_map way_of held.inside }

-- rings that name nothing
abbrev pub no_rings : HartRings
no_rings = record { hosts = []; fetches = []; accesses = [] }

-- the page that a line reads or writes, if it is an access
abbrev pub accessed_page : Line → Option ℕ
accessed_page (Call call) = None
accessed_page (Load addr) = Some (addr / 4096)
accessed_page (Store addr value) = Some (addr / 4096)

-- a target is this host page
abbrev pub is_host_page : Target → (page : ℕ) → Bool
is_host_page (Host p) page = p.0 == page
is_host_page (Fetch g) page = false
is_host_page (Access g) page = false

-- the walk that was not used yet looked for this host page
abbrev pub has_walked_to : Option Noted → (page : ℕ) → Bool
has_walked_to None page = false
has_walked_to (Some noted) page = is_host_page noted.target page

-- the page that the rings find for a target
abbrev pub rings_find : HartRings → Target → Option Page
rings_find rings (Host p) = found p.0 rings.hosts
rings_find rings (Fetch g) = found g.0 rings.fetches
rings_find rings (Access g) = found g.0 rings.accesses

-- the rings after a page came in for a target
abbrev pub rings_with : HartRings → Target → Page → HartRings
rings_with rings (Host p) page = record rings { hosts = ring_with rings.hosts p.0 page }
rings_with rings (Fetch g) page = record rings { fetches = ring_with rings.fetches g.0 page }
rings_with rings (Access g) page = record rings { accesses = ring_with rings.accesses g.0 page }

-- the rings after a walk to a target
abbrev pub rings_after : HartRings → Target → Walked → HartRings
rings_after rings target (Found page) = rings_with rings target page
rings_after rings target (Missing word) = rings

-- a hart after a walk, which it keeps until it uses it
abbrev pub after_walk : HartValue → Target → Walked → HartValue
after_walk hart target walked = record hart {
  rings = rings_after hart.rings target walked;
  walked = Some (record { target = target; walked = walked });
}
