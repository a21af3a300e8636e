-- Words and ground stand after a vCPU was added, and the store is lawful.
use Rattle.std.proofs.Common.{◌≡◌, ◌≢◌, ℕ, suc, ◌+◌, ◌/◌, ◌<◌, ◌≤◌, ◌∙◌, Bool, true, false, cond, eqb, eqb-true, List, [], ◌∷◌, ◌++◌, get_or, Option, Some, None, refl, sym, ap, subst, inl, inr, arith}
use Rattle.std.proofs.lemmas.Bool.{cases_eq, eq-eqb}
use Rattle.std.proofs.lemmas.Option.{none-some, same_Some}
use Rattle.cove_base.proofs.StoreLemmas.{get_or-fills_other}
use Rattle.cove_base.specs.Measurement.{VcpuRecord}
use Rattle.cove_base.specs.InterruptFiles.{empty_file}
use Rattle.cove_base.specs.Modes.{leaves_of}
use Rattle.cove_model.specs.Machine.{given, fills, stored, Role, Root, Table, Vcpu, Data, rule, at, AsVcpu, IsSeated}
use Rattle.cove_base.specs.declared.calls.HostCall.TheVariants.{Vcpu as VcpuCall}
use Rattle.cove_base.specs.declared.numbers.Role.TheVariants.{State}
use Rattle.cove_model.proofs.LeafWords.{given_role}
use Rattle.cove_model.proofs.Runs.{run_cases}
use Rattle.cove_model.specs.States.{State as MonitorState, find_cpu, new_cpu}
use Rattle.cove_model.specs.Tvms.{Cpu, Tvm as ModelTvm}
use Rattle.cove_tvm.proofs.BuiltRegions.{live_stands, live_stays}
use Rattle.cove_tvm.proofs.FreeRuns.{run_given, run_keeps, run_lawful, run_word}
use Rattle.cove_tvm.proofs.KeptTables.{tables_kept}
use Rattle.cove_tvm.proofs.KeptTvms.{fields_kept, found_kept, mappings_kept}
use Rattle.cove_tvm.specs.GivenRuns.{MayGive}
use Rattle.cove_tvm.specs.KeptOwn.{KeepsTvm}
use Rattle.cove_tvm.specs.Lives.{is_gone}
use Rattle.cove_tvm.specs.NewVcpus.{AddingIsLawful, AddingStands, AddsCpu}
use Rattle.cove_tvm.specs.Slots.{slot_at}
use Rattle.cove_tvm.specs.Stands.{Stands}
use Rattle.cove_tvm.specs.TvmLends.{with_tvm}
use Rattle.cove_tvm.specs.TvmStands.{AreFields, ArePages, IsFoundAs, LiveStands}
use Rattle.cove_tvm.specs.VcpuStands.{BindingStands, CpuStands, RunStands, SlotStands}
use Rattle.cove_tvm.specs.declared.ground.Ground.{Ground}
use Rattle.cove_tvm.specs.declared.machines.Tvm.{Tvm}
use Rattle.cove_tvm.specs.declared.vcpus.VcpuSlot.{VcpuSlot}

-- ---- one more vCPU

cpu_before : (xs : List Cpu) (x : Cpu) (u : ℕ) → x.number ≢ u → at (λ cpu. cpu.number) u (xs ++ x ∷ []) ≡ at (λ cpu. cpu.number) u xs
cpu_before [] x u other = go (eqb x.number u) refl
  where
    go : (b : Bool) → eqb x.number u ≡ b → at (λ cpu. cpu.number) u (x ∷ []) ≡ None
    go true e = absurd (other (eqb-true x.number u e))
    go false e = ap (λ b. cond b (Some x) None) e
cpu_before (y ∷ xs) x u other = ap (λ rest. cond (eqb y.number u) (Some y) rest) (cpu_before xs x u other)

cpu_last : (xs : List Cpu) (x : Cpu) → at (λ cpu. cpu.number) x.number xs ≡ None → at (λ cpu. cpu.number) x.number (xs ++ x ∷ []) ≡ Some x
cpu_last [] x none = ap (λ b. cond b (Some x) None) (eq-eqb x.number x.number refl)
cpu_last (y ∷ xs) x none = go (eqb y.number x.number) none (cpu_last xs x)
  where
    go : (b : Bool) → cond b (Some y) (at (λ cpu. cpu.number) x.number xs) ≡ None
        → (at (λ cpu. cpu.number) x.number xs ≡ None → at (λ cpu. cpu.number) x.number (xs ++ x ∷ []) ≡ Some x)
        → cond b (Some y) (at (λ cpu. cpu.number) x.number (xs ++ x ∷ [])) ≡ Some x
    go true found rest = absurd (none-some y (sym found))
    go false found rest = rest found

-- ---- the page

module _ (words : List ℕ) (G : Ground) (S : MonitorState) (k v state : ℕ) (old new : Tvm) (model : ModelTvm)
    (may : MayGive words G S k state 1 old model) where
  abbrev added : List ℕ
  added = stored words (fills (state / 4096) 1 (given (suc k) Vcpu))

  abbrev how : ModelTvm → ModelTvm
  how tvm = record tvm { cpus = tvm.cpus ++ new_cpu v ∷ []; records = tvm.records ++ VcpuRecord v ∷ [] }

  page_kept : (p : ℕ) → state / 4096 ≤ p → p < state / 4096 + 1 → get_or added p 0 ≡ given (suc k) Vcpu
  page_kept = run_word words G S k state 1 AsVcpu old model may

  keeps : KeepsTvm G.pages G.harts words added (suc k)
  keeps = run_keeps words G S k state 1 AsVcpu old model may (λ e. omega arith)

  -- ---- the TVM

  was : LiveStands G.pages G.harts words (suc k) S.seats G.files old model
  was = live_stands words G S (suc k) old model may.stands may.live may.found

  module _ (seated : IsSeated S) (none : find_cpu model v ≡ None) (adds : AddsCpu v (state / 4096) old new) where
    abbrev renewed : Tvm
    renewed = record old { registers = new.registers; v0 = new.v0; v1 = new.v1; v2 = new.v2; v3 = new.v3 }

    same_slots : (u : ℕ) → slot_at renewed u ≡ slot_at new u
    same_slots u = ap (λ (tvm : Tvm). slot_at tvm u) (sym adds.rest)

    slot_before : (u : ℕ) → u ≢ v → slot_at renewed u ≡ slot_at old u
    slot_before u other = same_slots u ∙ adds.others u other

    slot_there : slot_at renewed v ≡ Some adds.slot
    slot_there = same_slots v ∙ adds.there

    no_slot : (slot : Option VcpuSlot) (cpu : Option Cpu) → SlotStands G.pages G.harts words S.seats G.files (suc k) v slot cpu → cpu ≡ None → slot ≡ None
    no_slot None cpu stand is = refl
    no_slot (Some slot) None stand is = absurd stand
    no_slot (Some slot) (Some cpu) stand is = absurd (none-some cpu (sym is))

    old_none : slot_at old v ≡ None
    old_none = no_slot (slot_at old v) (find_cpu model v) (was.fields.cpu v) none

    found_again : (p : ℕ) (role : Role) → IsFoundAs G.pages G.harts added (suc k) old p role → IsFoundAs G.pages G.harts added (suc k) renewed p role
    found_again p Root is = is
    found_again p State is = is
    found_again p Table is = is
    found_again p Vcpu is =
        (is.0, is.1, slot_before is.0 (λ e. none-some is.1 (sym (ap (slot_at old) e ∙ old_none) ∙ is.2)) ∙ is.2, is.3)
    found_again p Data is = is

    found_here : (p : ℕ) (role : Role) → given (suc k) Vcpu ≡ given (suc k) role → state / 4096 ≡ p → IsFoundAs G.pages G.harts added (suc k) renewed p role
    found_here p Root e here = absurd (omega (arith, given_role (suc k) (suc k) Vcpu Root e))
    found_here p State e here = absurd (omega (arith, given_role (suc k) (suc k) Vcpu State e))
    found_here p Table e here = absurd (omega (arith, given_role (suc k) (suc k) Vcpu Table e))
    found_here p Vcpu e here = (v, adds.slot, slot_there, adds.begins.page_is ∙ here)
    found_here p Data e here = absurd (omega (arith, given_role (suc k) (suc k) Vcpu Data e))

    owned : ArePages G.pages G.harts added (suc k) renewed
    owned = record {
      state_fits = was.owned.state_fits;
      state_is = keeps.page old.state.0 State was.owned.state_fits was.owned.state_is;
      found = λ p role on is. elim (run_cases (state / 4096) 1 p) [
        | inl run ↦ found_here p role (sym (page_kept p run.0 run.1) ∙ is) (omega (arith, run.0, run.1))
        | inr out ↦ found_again p role
            (found_kept G.pages G.harts (suc k) words added keeps S.seats G.files old model was p role
            (was.owned.found p role on (sym (get_or-fills_other words (state / 4096) 1 (given (suc k) Vcpu) p out) ∙ is)))
      ];
    }

    nobody : (hart : ℕ) → hart < G.harts → S.seats hart ≡ Some (record { tvm = suc k; cpu = v }) → ⊥
    nobody hart on sits =
        let there = seated.on hart (record { tvm = suc k; cpu = v }) (subst (λ n. hart < n) (sym may.stands.words_stand.stands.owners.hart_count) on) sits in
        let same : model ≡ there.tvm = same_Some model there.tvm (sym may.found ∙ there.live) in
        none-some there.cpu (sym none ∙ ap (λ one. find_cpu one v) same ∙ there.there)

    begins : CpuStands G.pages G.harts added S.seats G.files (suc k) v adds.slot (new_cpu v)
    begins = record {
      runs = subst (λ run. RunStands G.harts S.seats (suc k) v run adds.slot.regs (new_cpu v)) (sym adds.begins.run)
          (refl, record { nobody = nobody; x = adds.begins.x; place = adds.begins.place });
      bound = subst (λ bound. BindingStands G.pages G.harts added G.files (suc k) bound adds.slot.saved None empty_file) (sym adds.begins.bound) adds.begins.saved;
      page_fits = subst (λ p. p < G.pages) (sym adds.begins.page_is) (omega arith);
      page_is = subst (λ p. get_or added p 0 ≡ given (suc k) Vcpu) (sym adds.begins.page_is) (page_kept (state / 4096) (omega arith) (omega arith));
    }

    kept : AreFields G.pages G.harts added (suc k) S.seats G.files old model
    kept = fields_kept G.pages G.harts (suc k) words added keeps S.seats G.files old model was

    cpus_stand : (u : ℕ) → SlotStands G.pages G.harts added S.seats G.files (suc k) u (slot_at renewed u) (find_cpu (how model) u)
    cpus_stand u = elim (cases_eq u v) [
      | inl own ↦ subst (λ n. SlotStands G.pages G.harts added S.seats G.files (suc k) n (slot_at renewed n) (find_cpu (how model) n)) (sym own)
          (subst (λ slot. SlotStands G.pages G.harts added S.seats G.files (suc k) v slot (find_cpu (how model) v)) (sym slot_there)
          (subst (SlotStands G.pages G.harts added S.seats G.files (suc k) v (Some adds.slot)) (sym (cpu_last model.cpus (new_cpu v) none)) begins))
      | inr other ↦ subst (λ slot. SlotStands G.pages G.harts added S.seats G.files (suc k) u slot (find_cpu (how model) u)) (sym (slot_before u other))
          (subst (SlotStands G.pages G.harts added S.seats G.files (suc k) u (slot_at old u)) (sym (cpu_before model.cpus (new_cpu v) u (λ e. other (sym e)))) (kept.cpu u))
    ]

    renewed_stands : LiveStands G.pages G.harts added (suc k) S.seats G.files renewed (how model)
    renewed_stands =
        let mappings = mappings_kept G.pages G.harts (suc k) words added keeps S.seats G.files old model was in
        record {
          board = was.board;
          mode = was.mode;
          room = was.room;
          tables = tables_kept G.pages G.harts (suc k) old.tables.root.0 (leaves_of old.tables.mode) words added old.pool.pages keeps was.tables;
          owned = owned;
          mappings = record { leaf = mappings.leaf; far = mappings.far; links = mappings.links; count = mappings.count };
          fields = record {
            life = kept.life;
            regions = record { regions = kept.regions.regions; some = kept.regions.some; shared = kept.regions.shared; each_once = kept.regions.each_once; inside = kept.regions.inside };
            near = kept.near;
            registers = adds.measured model.records model.extensions kept.registers;
            allowed = kept.allowed;
            yet = kept.yet;
            cpu = cpus_stand;
          };
        }

    vcpu_stands : (hart : ℕ) → Stands added (record G { tvms = with_tvm G.tvms k new }) (rule S hart (VcpuCall (suc k) v state)).outcome.state
    vcpu_stands hart =
        run_given words G S k state 1 AsVcpu old model may how new (λ frame. tt)
        (record { number = λ one. refl; mappings = λ one. refl })
        (ap (λ (tvm : Tvm). is_gone tvm.life) adds.rest ∙ live_stays G.tvms k old may.live)
        (subst (λ one. LiveStands G.pages G.harts added (suc k) S.seats G.files one (how model)) (sym adds.rest) renewed_stands)

pub adding_stands : AddingStands
adding_stands k words G S hart v state old new model may seated none adds =
    vcpu_stands words G S k v state old new model may seated none adds hart

pub adding_is_lawful : AddingIsLawful
adding_is_lawful k words G S hart state old model may =
    run_lawful words G S k state 1 AsVcpu old model may (λ e. omega arith) hart
