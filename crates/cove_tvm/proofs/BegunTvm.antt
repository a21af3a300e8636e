-- A TVM as it is created stands: its root is four pages of zeros, and it has nothing else.
use Rattle.std.proofs.Common.{◌≡◌, ℕ, zero, suc, ◌+◌, ◌*◌, ◌/◌, ◌%◌, ◌<◌, ◌≤◌, ◌∙◌, false, not, eqb, List, [], get_or, length, Option, None, refl, sym, ap, subst, arith}
use Rattle.std.proofs.lemmas.Bool.{false≢true}
use Rattle.std.proofs.lemmas.Nat.Bits.{bit_at-zero}
use Rattle.std.specs.Int.{bit_at}
use Rattle.cove_base.proofs.TreeLemmas.{link-slot}
use Rattle.cove_model.specs.Machine.{given, table_word, Role, Root, Table, Vcpu, Data, Seat, created, number_in, over_levels}
use Rattle.cove_base.specs.Modes.{leaves_of}
use Rattle.cove_base.specs.Tables.{Slot, At, IsSlot, entry_at, next_table}
use Rattle.cove_base.specs.declared.modes.Mode.{Mode}
use Rattle.cove_base.specs.declared.modes.Mode.TheVariants.{Sv39x4, Sv48x4}
use Rattle.cove_base.specs.declared.numbers.Role.TheVariants.{State}
use Rattle.cove_imsic.specs.FileTables.{FileTable}
use Rattle.cove_model.proofs.ToldProofs.{filter_none}
use Rattle.cove_region.specs.Standing.{StandFor}
use Rattle.cove_region.specs.GuestMaps.{covers}
use Rattle.cove_stage2.proofs.ZeroLemmas.{empty-entries, empty-tree}
use Rattle.cove_tvm.specs.Entered.{is_entered_below}
use Rattle.cove_tvm.specs.Lives.{is_runnable}
use Rattle.cove_tvm.specs.Slots.{slot_at}
use Rattle.cove_tvm.specs.TvmStands.{AreFields, AreMappings, ArePages, AreTables, IsFoundAs, LiveStands, uses_slot}
use Rattle.cove_tvm.specs.TvmTables.{IsNewTvm}
use Rattle.cove_tvm.specs.VcpuStands.{SlotStands}
use Rattle.cove_tvm.specs.declared.machines.Tvm.{Tvm}
use Rattle.std.specs.Prelude.{IsTrue}

-- the page that a new TVM has in a role
abbrev pub IsPlaced : (root state page : ℕ) → Role → Type 0
IsPlaced root state page Root = (root ≤ page) × (page < root + 4)
IsPlaced root state page State = state ≡ page
IsPlaced root state page Table = ⊥
IsPlaced root state page Vcpu = ⊥
IsPlaced root state page Data = ⊥

-- words on which a new TVM has its root and its state page alone
pub record HasBegun (pages harts : ℕ) (new : List ℕ) (t root state : ℕ) : Type 0 where
  pub size : 513 * pages ≤ length new
  pub fits : root + 4 ≤ pages
  pub state_fits : state < pages
  pub roots : (i : ℕ) → i < 4 → get_or new (root + i) 0 ≡ given t Root
  pub state_is : get_or new state 0 ≡ given t State
  pub only : (p : ℕ) (role : Role) → p < pages → get_or new p 0 ≡ given t role → IsPlaced root state p role
  pub zeros : (p i : ℕ) → root ≤ p → p < root + 4 → i < 512 → get_or new (table_word pages p i) 0 ≡ 0
  pub nobody : (number hart : ℕ) → hart < harts → is_entered_below pages harts new t number hart ≡ false

-- a TVM that uses no table
none_used : (mode : Mode) → 0 ≡ over_levels (λ level. 0) (leaves_of mode) + 0
none_used Sv39x4 = refl
none_used Sv48x4 = refl

module _ (pages harts : ℕ) (new : List ℕ) (t root state : ℕ) (begun : HasBegun pages harts new t root state) (size : ℕ) (mode : Mode) where
  root_zeros : (n : ℕ) → n < 2048 → get_or new (table_word pages root n) 0 ≡ 0
  root_zeros n low =
      let place : table_word pages root n ≡ table_word pages (root + n / 512) (n % 512) = omega arith in
      ap (λ k. get_or new k 0) place ∙ begun.zeros (root + n / 512) (n % 512) (omega arith) (omega arith) (omega arith)

  entry_zero : (a : Slot) → IsSlot a → entry_at pages root new a ≡ 0
  entry_zero a slot = empty-entries pages root new root_zeros a slot

  not_named : (a : Slot) (page : ℕ) → IsSlot a → entry_at pages root new a ≡ next_table page → ⊥
  not_named a page slot named =
      let none : 0 ≡ 1024 * page + 1 = sym (entry_zero a slot) ∙ named in omega arith

  begun_tables : AreTables pages harts new t root (leaves_of mode) []
  begun_tables = record {
    tree = empty-tree pages root (leaves_of mode) new begun.fits begun.size root_zeros;
    spare = record { each = λ k low. absurd (omega arith); differ = λ j k low lower same. absurd (omega arith) };
    given = record {
      root_is = record {
        fits = begun.fits;
        roots = begun.roots;
        least = λ p low is. let fits = begun.fits in let placed = begun.only p Root (omega arith) is in let high = placed.0 in omega arith;
      };
      linked = λ a page slot named. absurd (not_named a page slot named);
      spare = λ k low. absurd (omega arith);
    };
  }

  not_used : (a : Slot) → uses_slot (leaves_of mode) (created t mode size) a ≡ false
  not_used (At d n) = refl

  begun_mappings : AreMappings pages harts new t root (leaves_of mode) [] (created t mode size)
  begun_mappings = record {
    leaf = λ g low. entry_zero (At (leaves_of mode) g) low;
    far = λ g high. refl;
    links = λ a slot. not_used a ∙ ap (λ entry. not (eqb entry 0)) (sym (entry_zero a (link-slot (leaves_of mode) a slot)));
    count = none_used mode;
  }

  module _ (seats : ℕ → Option Seat) (files : FileTable) (tvm : Tvm) (fresh : IsNewTvm pages size root mode state tvm) where
    begun_slot : (v : ℕ) → slot_at tvm v ≡ None
    begun_slot zero = fresh.no_v0
    begun_slot (suc zero) = fresh.no_v1
    begun_slot (suc (suc zero)) = fresh.no_v2
    begun_slot (suc (suc (suc zero))) = fresh.no_v3
    begun_slot (suc (suc (suc (suc v)))) = refl

    begun_found : (p : ℕ) (role : Role) → IsPlaced root state p role → IsFoundAs pages harts new t tvm p role
    begun_found p Root placed = subst (λ r. (r ≤ p) × (p < r + 4)) (sym fresh.root_is) placed
    begun_found p State placed = fresh.state_is ∙ placed
    begun_found p Table placed = absurd placed
    begun_found p Vcpu placed = absurd placed
    begun_found p Data placed = absurd placed

    begun_pages : ArePages pages harts new t tvm
    begun_pages = record {
      state_fits = subst (λ s. s < pages) (sym fresh.state_is) begun.state_fits;
      state_is = subst (λ s. get_or new s 0 ≡ given t State) (sym fresh.state_is) begun.state_is;
      found = λ p role on is. begun_found p role (begun.only p role on is);
    }

    begun_fields : AreFields pages harts new t seats files tvm (created t mode size)
    begun_fields = record {
      life = ap is_runnable fresh.life;
      regions = subst (λ guests. StandFor guests (created t mode size)) (sym fresh.regions) none_stand;
      near = λ g covered. absurd (outside g (subst (λ guests. IsTrue (covers guests.regions g)) fresh.regions covered));
      registers = fresh.registers;
      allowed = λ id. ap (λ m. eqb (bit_at m id) 1) fresh.allowed ∙ ap (λ b. eqb b 1) (bit_at-zero id);
      yet = sym (filter_none (is_entered_below pages harts new t (number_in pages harts new t)) 0 harts
          (λ hart low high. begun.nobody (number_in pages harts new t) hart (omega arith)));
      cpu = λ v. subst (λ slot. SlotStands pages harts new seats files t v slot None) (sym (begun_slot v)) tt;
    } where
      outside : (g : ℕ) → IsTrue false → ⊥
      outside g no_region = false≢true no_region

      none_stand : StandFor (record { regions = []; rows = [] }) (created t mode size)
      none_stand = record {
        regions = refl;
        some = λ k d low. absurd (omega arith);
        shared = λ g. refl;
        each_once = tt;
        inside = λ g covered. absurd (outside g covered);
      }

    -- a new TVM stands for one of the definitions
    pub begun_lives : LiveStands pages harts new t seats files tvm (created t mode size)
    begun_lives = record {
      board = fresh.board;
      mode = fresh.mode_is;
      room = fresh.room;
      tables = subst (λ m. AreTables pages harts new t tvm.tables.root.0 (leaves_of m) tvm.pool.pages) (sym fresh.mode_is)
          (subst (λ r. AreTables pages harts new t r (leaves_of mode) tvm.pool.pages) (sym fresh.root_is)
          (subst (AreTables pages harts new t root (leaves_of mode)) (sym fresh.pool) begun_tables));
      owned = begun_pages;
      mappings = subst (λ m. AreMappings pages harts new t tvm.tables.root.0 (leaves_of m) tvm.pool.pages (created t mode size)) (sym fresh.mode_is)
          (subst (λ r. AreMappings pages harts new t r (leaves_of mode) tvm.pool.pages (created t mode size)) (sym fresh.root_is)
          (subst (λ pool. AreMappings pages harts new t root (leaves_of mode) pool (created t mode size)) (sym fresh.pool) begun_mappings));
      fields = begun_fields;
    }
