-- Which words and which TVM of the monitor's stand for a TVM of the definitions.
use Rattle.std.specs.Prelude.{◌≡◌, ℕ, ◌+◌, ◌-◌, ◌<◌, ◌≤◌, ◌==◌, ◌⊎◌, Bool, false, not, IsTrue, List, Contains, length, slice_index, Option, Some, None}
use Rattle.std.specs.Int.{bit_at}
use Rattle.cove_base.specs.Measurement.{registers_of}
use Rattle.cove_base.specs.Modes.{guest_limit, leaves_of}
use Rattle.cove_base.specs.PageWords.{given}
use Rattle.cove_base.specs.Places.{page_word}
use Rattle.cove_base.specs.Tables.{Slot, At, IsLinkSlot, IsPool, IsSlot, IsTree, Names, entry_at, leaf_at, next_table, slots_at}
use Rattle.cove_base.specs.declared.numbers.Role.{Role}
use Rattle.cove_base.specs.declared.numbers.Role.TheVariants.{Root, State, Table, Vcpu, Data}
use Rattle.cove_imsic.specs.FileTables.{FileTable}
use Rattle.cove_model.specs.GuestPages.{over_levels}
use Rattle.cove_model.specs.Mappings.{mapping_of}
use Rattle.cove_model.specs.Owners.{has}
use Rattle.cove_model.specs.States.{Seat, find_cpu}
use Rattle.cove_model.specs.Tvms.{Tvm as ModelTvm}
use Rattle.cove_model.specs.WordsStand.{number_in}
use Rattle.cove_region.specs.GuestMaps.{covers}
use Rattle.cove_region.specs.Standing.{StandFor}
use Rattle.cove_stage2.specs.LawfulTables.{AreGiven}
use Rattle.cove_tvm.specs.Entered.{entered_below}
use Rattle.cove_tvm.specs.LeafStands.{LeafStands}
use Rattle.cove_tvm.specs.Lives.{is_runnable}
use Rattle.cove_tvm.specs.Slots.{slot_at}
use Rattle.cove_tvm.specs.VcpuStands.{SlotStands}
use Rattle.cove_tvm.specs.declared.machines.Tvm.{Tvm}
use Rattle.cove_tvm.specs.declared.vcpus.VcpuSlot.{VcpuSlot}

-- a TVM whose leaves are at a depth has a table for the leading part of guest pages that a slot serves
abbrev pub uses_slot : (leaves : ℕ) → ModelTvm → Slot → Bool
uses_slot leaves tvm (At depth n) = has n (tvm.prefixes (leaves - depth))

module _ (pages harts : ℕ) (words : List ℕ) (t : ℕ) where
  -- the tables of a TVM over the words: a tree, a pool of spare pages, and all of them given to it
  pub record AreTables (root leaves : ℕ) (pool : List ℕ) : Type 0 where
    pub tree : IsTree pages root leaves words
    pub spare : IsPool pages root words pool
    pub given : AreGiven pages words t root pool

  -- where the monitor finds a page that the TVM has in a role
  abbrev pub IsFoundAs : Tvm → (page : ℕ) → Role → Type 0
  IsFoundAs tvm page Root = (tvm.tables.root.0 ≤ page) × (page < tvm.tables.root.0 + 4)
  IsFoundAs tvm page State = tvm.state.0 ≡ page
  IsFoundAs tvm page Table =
      Contains tvm.pool.pages page
      ⊎ ((a : Slot) × IsSlot a × (entry_at pages tvm.tables.root.0 words a ≡ next_table page))
  IsFoundAs tvm page Vcpu = (v : ℕ) × (slot : VcpuSlot) × (slot_at tvm v ≡ Some slot) × (slot.page.0 ≡ page)
  IsFoundAs tvm page Data =
      (g : ℕ) × (g < guest_limit tvm.tables.mode)
      × Names page false (leaf_at pages tvm.tables.root.0 (leaves_of tvm.tables.mode) words g)

  -- the pages that a TVM was given: its state page, and no page that the monitor doesn't find
  pub record ArePages (tvm : Tvm) : Type 0 where
    pub state_fits : tvm.state.0 < pages
    pub state_is : slice_index words (page_word tvm.state.0) ≡ given t State
    pub found :
        (page : ℕ) (role : Role) → page < pages → slice_index words (page_word page) ≡ given t role
        → IsFoundAs tvm page role

  -- the mappings of a TVM, each by the leaf of its guest page; and its tables in use, each by its slot
  pub record AreMappings (root leaves : ℕ) (pool : List ℕ) (model : ModelTvm) : Type 0 where
    pub leaf :
        (g : ℕ) → g < slots_at leaves
        → LeafStands pages harts words t (leaf_at pages root leaves words g) (mapping_of model g)
    pub far : (g : ℕ) → slots_at leaves ≤ g → mapping_of model g ≡ None
    pub links :
        (a : Slot) → IsLinkSlot leaves a → uses_slot leaves model a ≡ not (entry_at pages root words a == 0)
    pub count : length model.tables ≡ over_levels (λ level. length (model.prefixes level)) leaves + length pool

  -- what a TVM has beside pages and tables
  pub record AreFields (seats : ℕ → Option Seat) (files : FileTable) (tvm : Tvm) (model : ModelTvm) : Type 0 where
    pub life : is_runnable tvm.life ≡ model.runnable
    pub regions : StandFor tvm.regions model
    pub near : (g : ℕ) → IsTrue (covers tvm.regions.regions g) → g < guest_limit tvm.tables.mode
    pub registers : tvm.registers ≡ registers_of model.records model.extensions
    pub allowed : (id : ℕ) → (bit_at tvm.allowed id == 1) ≡ has id model.allowed
    pub yet : model.yet ≡ entered_below pages harts words t (number_in pages harts words t)
    pub cpu : (v : ℕ) → SlotStands pages harts words seats files t v (slot_at tvm v) (find_cpu model v)

  -- a live TVM; its tables are of this board and of its mode, and its pool has room for every page
  pub record LiveStands (seats : ℕ → Option Seat) (files : FileTable) (tvm : Tvm) (model : ModelTvm) : Type 0 where
    pub board : tvm.tables.pages ≡ pages
    pub mode : tvm.tables.mode ≡ model.mode
    pub room : tvm.pool.room ≡ pages
    pub tables : AreTables tvm.tables.root.0 (leaves_of tvm.tables.mode) tvm.pool.pages
    pub owned : ArePages tvm
    pub mappings : AreMappings tvm.tables.root.0 (leaves_of tvm.tables.mode) tvm.pool.pages model
    pub fields : AreFields seats files tvm model

  -- there is one on both sides, or on none
  abbrev pub TvmStands : (seats : ℕ → Option Seat) → FileTable → Option Tvm → Option ModelTvm → Type 0
  TvmStands seats files None None = Unit {0}
  TvmStands seats files None (Some model) = ⊥
  TvmStands seats files (Some tvm) None = ⊥
  TvmStands seats files (Some tvm) (Some model) = LiveStands seats files tvm model
