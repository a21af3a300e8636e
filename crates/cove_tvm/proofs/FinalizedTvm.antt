-- Words and ground stand after a TVM was finalized.
use Rattle.std.proofs.Common.{◌≡◌, ℕ, zero, suc, ◌<◌, ◌∙◌, ◌++◌, List, [], ◌∷◌, Option, Some, None, true, map, slice_index, option_map, replicate, refl, sym, ap, subst}
use Rattle.std.proofs.lemmas.Option.{none-some, same_Some}
use Rattle.cove_base.specs.Measurement.{FinalizeRecord}
use Rattle.cove_model.specs.Machine.{given, Role, Root, Table, Vcpu, Data, started, Seat, find_cpu}
use Rattle.cove_base.specs.declared.numbers.Role.TheVariants.{State}
use Rattle.cove_base.specs.declared.registers.Regs.{Regs}
use Rattle.cove_imsic.specs.FileTables.{FileTable}
use Rattle.cove_model.proofs.KeyedLemmas.{at_key, at_map}
use Rattle.cove_model.specs.Tvms.{Cpu, Tvm as ModelTvm}
use Rattle.cove_tvm.proofs.BuiltRegions.{live_stands}
use Rattle.cove_tvm.proofs.ChangedFields.{fields_change_stand}
use Rattle.cove_tvm.specs.BuiltTvms.{AreStarted, FinalizeStands}
use Rattle.cove_tvm.specs.Slots.{slot_at}
use Rattle.cove_tvm.specs.TvmStands.{IsFoundAs}
use Rattle.cove_tvm.specs.VcpuStands.{BindingStands, RunStands, SlotStands}
use Rattle.cove_tvm.specs.declared.machines.Life.TheVariants.{Runnable}
use Rattle.cove_tvm.specs.declared.machines.Tvm.{Tvm}
use Rattle.cove_tvm.specs.declared.vcpus.RunState.{RunState}
use Rattle.cove_tvm.specs.declared.vcpus.RunState.TheVariants.{Ready, Running, Stopped}
use Rattle.cove_tvm.specs.declared.vcpus.VcpuSlot.{VcpuSlot}
use Rattle.cove_base.specs.Registers.{registers}

module _ (pages harts : ℕ) (words : List ℕ) (seats : ℕ → Option Seat) (files : FileTable) (t pc arg : ℕ) where
  -- what it does stays, with its new registers
  run_started : (v : ℕ) (run : RunState) (old new : Regs) (cpu : Cpu) → cpu.number ≡ v
      → registers new ≡ replicate 10 0 ++ v ∷ arg ∷ replicate 20 0 → new.pc ≡ pc
      → RunStands harts seats t v run old cpu → RunStands harts seats t v run new (started pc arg cpu)
  run_started v Ready old new cpu number x place stands =
      (stands.0, record { nobody = stands.1.nobody; x = x ∙ ap (λ n. replicate 10 0 ++ n ∷ arg ∷ replicate 20 0) (sym number); place = place })
  run_started v (Running hart) old new cpu number x place stands = stands
  run_started v Stopped old new cpu number x place stands =
      (stands.0, record { nobody = stands.1.nobody; x = x ∙ ap (λ n. replicate 10 0 ++ n ∷ arg ∷ replicate 20 0) (sym number); place = place })

  slot_started : (v : ℕ) (old new : Option VcpuSlot) (cpu : Option Cpu) → ((one : Cpu) → cpu ≡ Some one → one.number ≡ v)
      → AreStarted pc arg v old new → SlotStands pages harts words seats files t v old cpu → SlotStands pages harts words seats files t v new (option_map (started pc arg) cpu)
  slot_started v None None None number start stands = tt
  slot_started v None None (Some cpu) number start stands = absurd stands
  slot_started v None (Some new) cpu number start stands = absurd start
  slot_started v (Some old) None cpu number start stands = absurd start
  slot_started v (Some old) (Some new) None number start stands = absurd stands
  slot_started v (Some old) (Some new) (Some cpu) number start stands = record {
    runs = subst (λ run. RunStands harts seats t v run new.regs (started pc arg cpu)) (sym start.run)
        (run_started v old.run old.regs new.regs cpu (number cpu refl) start.x start.place stands.runs);
    bound = subst (λ bound. BindingStands pages harts words files t bound new.saved cpu.binding cpu.file) (sym start.bound)
        (subst (λ saved. BindingStands pages harts words files t old.bound saved cpu.binding cpu.file) (sym start.saved) stands.bound);
    page_fits = subst (λ page. page.0 < pages) (sym start.page) stands.page_fits;
    page_is = subst (λ page. slice_index words page.0 ≡ given t Vcpu) (sym start.page) stands.page_is;
  }

-- a started vCPU has its page
page_started : (pc arg v : ℕ) (old new : Option VcpuSlot) (slot : VcpuSlot) → AreStarted pc arg v old new → old ≡ Some slot
    → (other : VcpuSlot) × (new ≡ Some other) × (other.page ≡ slot.page)
page_started pc arg v None None slot start is = absurd (none-some slot is)
page_started pc arg v None (Some new) slot start is = absurd start
page_started pc arg v (Some old) None slot start is = absurd start
page_started pc arg v (Some old) (Some new) slot start is = (new, refl, start.page ∙ ap (λ (s : VcpuSlot). s.page) (same_Some old slot is))

abbrev finalized : (pc arg : ℕ) → ModelTvm → ModelTvm
finalized pc arg one = record one { runnable = true; records = one.records ++ FinalizeRecord pc arg ∷ []; cpus = map (started pc arg) one.cpus }

abbrev started_tvm : Tvm → (measured : List (List ℕ)) (v0 v1 v2 v3 : Option VcpuSlot) → Tvm
started_tvm tvm measured v0 v1 v2 v3 = record tvm { life = Runnable; registers = measured; v0 = v0; v1 = v1; v2 = v2; v3 = v3 }

-- each of the four, and no other
slots_started : (pc arg : ℕ) (tvm : Tvm) (measured : List (List ℕ)) (v0 v1 v2 v3 : Option VcpuSlot)
    → AreStarted pc arg 0 tvm.v0 v0 → AreStarted pc arg 1 tvm.v1 v1 → AreStarted pc arg 2 tvm.v2 v2 → AreStarted pc arg 3 tvm.v3 v3
    → (v : ℕ) → AreStarted pc arg v (slot_at tvm v) (slot_at (started_tvm tvm measured v0 v1 v2 v3) v)
slots_started pc arg tvm measured v0 v1 v2 v3 s0 s1 s2 s3 zero = s0
slots_started pc arg tvm measured v0 v1 v2 v3 s0 s1 s2 s3 (suc zero) = s1
slots_started pc arg tvm measured v0 v1 v2 v3 s0 s1 s2 s3 (suc (suc zero)) = s2
slots_started pc arg tvm measured v0 v1 v2 v3 s0 s1 s2 s3 (suc (suc (suc zero))) = s3
slots_started pc arg tvm measured v0 v1 v2 v3 s0 s1 s2 s3 (suc (suc (suc (suc v)))) = tt

found_started : (pages harts : ℕ) (words : List ℕ) (t pc arg : ℕ) (tvm : Tvm) (measured : List (List ℕ)) (v0 v1 v2 v3 : Option VcpuSlot)
    → ((v : ℕ) → AreStarted pc arg v (slot_at tvm v) (slot_at (started_tvm tvm measured v0 v1 v2 v3) v)) → (page : ℕ) (role : Role)
    → IsFoundAs pages harts words t tvm page role → IsFoundAs pages harts words t (started_tvm tvm measured v0 v1 v2 v3) page role
found_started pages harts words t pc arg tvm measured v0 v1 v2 v3 slots page Root found = found
found_started pages harts words t pc arg tvm measured v0 v1 v2 v3 slots page State found = found
found_started pages harts words t pc arg tvm measured v0 v1 v2 v3 slots page Table found = found
found_started pages harts words t pc arg tvm measured v0 v1 v2 v3 slots page Vcpu found =
    let other = page_started pc arg found.0 (slot_at tvm found.0) (slot_at (started_tvm tvm measured v0 v1 v2 v3) found.0) found.1 (slots found.0) found.2 in
    (found.0, other.0, other.1, ap (λ p. p.0) other.2 ∙ found.3)
found_started pages harts words t pc arg tvm measured v0 v1 v2 v3 slots page Data found = found

pub finalize_stands : FinalizeStands
finalize_stands k words G S hart pc arg tvm model measured v0 v1 v2 v3 stands live found records s0 s1 s2 s3 =
    let slots = slots_started pc arg tvm measured v0 v1 v2 v3 s0 s1 s2 s3 in
    let old = live_stands words G S (suc k) tvm model stands live found in
    fields_change_stand k words G S (finalized pc arg) tvm (started_tvm tvm measured v0 v1 v2 v3) model stands (record { number = λ v. refl; mappings = λ v. refl }) live found refl
    (record {
      board = old.board;
      mode = old.mode;
      room = old.room;
      tables = old.tables;
      owned = record {
        state_fits = old.owned.state_fits;
        state_is = old.owned.state_is;
        found = λ page role on is. found_started G.pages G.harts words (suc k) pc arg tvm measured v0 v1 v2 v3 slots page role (old.owned.found page role on is);
      };
      mappings = record { leaf = old.mappings.leaf; far = old.mappings.far; links = old.mappings.links; count = old.mappings.count };
      fields = record {
        life = refl;
        regions = record { regions = old.fields.regions.regions; some = old.fields.regions.some; shared = old.fields.regions.shared; each_once = old.fields.regions.each_once; inside = old.fields.regions.inside };
        near = old.fields.near;
        registers = records;
        allowed = old.fields.allowed;
        yet = old.fields.yet;
        cpu = λ v. subst (SlotStands G.pages G.harts words S.seats G.files (suc k) v (slot_at (started_tvm tvm measured v0 v1 v2 v3) v)) (sym (at_map (λ cpu. cpu.number) (started pc arg) (λ cpu. refl) v model.cpus))
            (slot_started G.pages G.harts words S.seats G.files (suc k) pc arg v (slot_at tvm v) (slot_at (started_tvm tvm measured v0 v1 v2 v3) v) (find_cpu model v)
            (λ one is. at_key (λ cpu. cpu.number) v model.cpus one is) (slots v) (old.fields.cpu v));
      };
    })
