-- What a TVM has beside its tables stands still on new words that keep its pages, its number and its harts.
use Rattle.std.proofs.Common.{◌≡◌, ℕ, ◌+◌, ◌<◌, ◌≤◌, ◌∙◌, List, get_or, Option, Some, None, sym, ap, subst}
use Rattle.cove_base.specs.InterruptFiles.{InterruptFile}
use Rattle.cove_model.specs.Machine.{given, Role, Vcpu, Within, Seat, find_cpu, number_in}
use Rattle.cove_imsic.specs.FileTables.{FileTable}
use Rattle.cove_model.proofs.HartLists.{filter_harts}
use Rattle.cove_model.specs.Tvms.{Standing, Present, Blocked, Mapping, Binding, Cpu, Unbinding, NotBegun, Begun, Tvm as ModelTvm}
use Rattle.cove_tvm.specs.Entered.{entered_below, is_entered_below, WaitsSince}
use Rattle.cove_tvm.specs.LeafStands.{LeafStands, StandingStands, leaf_of}
use Rattle.cove_tvm.specs.Slots.{slot_at}
use Rattle.cove_tvm.specs.TvmStands.{AreFields}
use Rattle.cove_tvm.specs.VcpuStands.{BindingStands, SlotStands, UnbindingStands}
use Rattle.cove_tvm.specs.declared.machines.Tvm.{Tvm}
use Rattle.cove_tvm.specs.declared.vcpus.Bound.{Bound}
use Rattle.cove_tvm.specs.declared.vcpus.VcpuSlot.{VcpuSlot}

-- The pages that are given to the TVM stay so, each in its role; so does its number; and the same harts are inside it, each
-- with its number.
pub record KeepsFields (pages harts : ℕ) (old new : List ℕ) (t : ℕ) : Type 0 where
  pub page : (p : ℕ) (role : Role) → p < pages → get_or old p 0 ≡ given t role → get_or new p 0 ≡ given t role
  pub number : number_in pages harts new t ≡ number_in pages harts old t
  pub inside :
      (number hart : ℕ) → hart < harts
      → is_entered_below pages harts new t number hart ≡ is_entered_below pages harts old t number hart

module _ (pages harts t : ℕ) (old new : List ℕ) (keeps : KeepsFields pages harts old new t) where
  pub entered_kept : (number : ℕ) → entered_below pages harts new t number ≡ entered_below pages harts old t number
  entered_kept number =
      filter_harts (is_entered_below pages harts new t number) (is_entered_below pages harts old t number) harts
      (λ hart on. keeps.inside number hart on)

  waits_kept : (since : ℕ) (waiting : Option (List ℕ)) → WaitsSince pages harts old t since waiting → WaitsSince pages harts new t since waiting
  waits_kept since None waits = subst (λ n. n ≤ since) (sym keeps.number) waits
  waits_kept since (Some waiting) waits =
      (subst (λ n. since < n) (sym keeps.number) waits.0, waits.1 ∙ sym (entered_kept (since + 1)))

  begun_kept : (since : ℕ) → since ≤ number_in pages harts old t → since ≤ number_in pages harts new t
  begun_kept since begun = subst (λ n. since ≤ n) (sym keeps.number) begun

  standing_kept : (base leaf : ℕ) (standing : Standing) → StandingStands pages harts old t base leaf standing → StandingStands pages harts new t base leaf standing
  standing_kept base leaf Present stands = stands
  standing_kept base leaf (Blocked held waiting) stands = record {
    since = stands.since;
    begun = begun_kept stands.since stands.begun;
    is = stands.is;
    holds = subst (Within held) (sym (entered_kept (stands.since + 1))) stands.holds;
    waits = waits_kept stands.since waiting stands.waits;
  }

  -- a leaf stands for what it stood for
  pub leaf_stands : (leaf : ℕ) (mapping : Option Mapping) → LeafStands pages harts old t leaf mapping → LeafStands pages harts new t leaf mapping
  leaf_stands leaf None stands = stands
  leaf_stands leaf (Some mapping) stands = (stands.0, standing_kept (leaf_of mapping.backing) leaf mapping.standing stands.1)

  unbinding_kept : (files : FileTable) (since : Option ℕ) (unbinding : Unbinding)
      → UnbindingStands pages harts old files t since unbinding → UnbindingStands pages harts new files t since unbinding
  unbinding_kept files None NotBegun stands = stands
  unbinding_kept files None (Begun waiting) stands = absurd stands
  unbinding_kept files (Some since) NotBegun stands = absurd stands
  unbinding_kept files (Some since) (Begun waiting) stands = (begun_kept since stands.0, waits_kept since waiting stands.1)

  binding_kept : (files : FileTable) (bound : Option Bound) (saved : InterruptFile) (binding : Option Binding) (interrupts : InterruptFile)
      → BindingStands pages harts old files t bound saved binding interrupts → BindingStands pages harts new files t bound saved binding interrupts
  binding_kept files None saved None interrupts stands = stands
  binding_kept files None saved (Some binding) interrupts stands = absurd stands
  binding_kept files (Some bound) saved None interrupts stands = absurd stands
  binding_kept files (Some bound) saved (Some binding) interrupts stands = record {
    hart = stands.hart;
    file = stands.file;
    there = stands.there;
    holds = stands.holds;
    unbinding = unbinding_kept files bound.unbinding binding.unbinding stands.unbinding;
  }

  slot_kept : (seats : ℕ → Option Seat) (files : FileTable) (v : ℕ) (slot : Option VcpuSlot) (cpu : Option Cpu)
      → SlotStands pages harts old seats files t v slot cpu → SlotStands pages harts new seats files t v slot cpu
  slot_kept seats files v None None stands = stands
  slot_kept seats files v None (Some cpu) stands = absurd stands
  slot_kept seats files v (Some slot) None stands = absurd stands
  slot_kept seats files v (Some slot) (Some cpu) stands = record {
    runs = stands.runs;
    bound = binding_kept files slot.bound slot.saved cpu.binding cpu.file stands.bound;
    page_fits = stands.page_fits;
    page_is = keeps.page slot.page.0 Vcpu stands.page_fits stands.page_is;
  }

  -- all that it has beside its tables
  pub fields_stay : (seats : ℕ → Option Seat) (files : FileTable) (tvm : Tvm) (model : ModelTvm)
      → AreFields pages harts old t seats files tvm model → AreFields pages harts new t seats files tvm model
  fields_stay seats files tvm model fields = record {
    life = fields.life;
    regions = fields.regions;
    near = fields.near;
    registers = fields.registers;
    allowed = fields.allowed;
    yet =
        fields.yet ∙ sym (entered_kept (number_in pages harts old t))
        ∙ ap (entered_below pages harts new t) (sym keeps.number);
    cpu = λ v. slot_kept seats files v (slot_at tvm v) (find_cpu model v) (fields.cpu v);
  }
