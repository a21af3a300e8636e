-- What the TVMs of the ground tell of those of a state.
use Rattle.std.proofs.Common.{◌≡◌, ◌∙◌, ◌-◌, ℕ, zero, suc, ◌==◌, Bool, true, false, List, [], ◌∷◌, length, Option, Some, None, is_none, is_some, cond, refl, sym, ap, subst, arith}
use Rattle.std.proofs.lemmas.Bool.{eq-eqb, ne_eqb}
use Rattle.std.proofs.lemmas.Option.{none-some, same_Some}
use Rattle.std.specs.Prelude.{unwrap_or}
use Rattle.cove_host.specs.FoundTvms.{ChangesTvm, IsLiveTvm, has_no_cpu}
use Rattle.cove_model.specs.Machine.{at, State, find_cpu, find_tvm, tvm_at}
use Rattle.cove_model.specs.Tvms.{Cpu, Tvm as ModelTvm, new_tvm}
use Rattle.cove_tvm.specs.Lives.{is_runnable}
use Rattle.cove_tvm.specs.Slots.{slot_at}
use Rattle.cove_tvm.specs.Stands.{Stands}
use Rattle.cove_tvm.specs.TvmLends.{with_tvm}
use Rattle.cove_tvm.specs.TvmStands.{LiveStands, TvmStands}
use Rattle.cove_tvm.specs.TvmTables.{live_at}
use Rattle.cove_tvm.specs.VcpuStands.{SlotStands}
use Rattle.cove_tvm.specs.declared.ground.Ground.{Ground}
use Rattle.cove_tvm.specs.declared.machines.Tvm.{Tvm}
use Rattle.cove_tvm.specs.declared.vcpus.VcpuSlot.{VcpuSlot}

-- ---- the vCPUs

abbrev none_of : (a b c d : Option VcpuSlot) → Bool
none_of a b c d = cond (is_none a) (cond (is_none b) (cond (is_none c) (is_none d) false) false) false

some_first : (a b c d : Option VcpuSlot) (slot : VcpuSlot) → a ≡ Some slot → none_of a b c d ≡ false
some_first None b c d slot is = absurd (none-some slot is)
some_first (Some x) b c d slot is = refl

some_second : (a b c d : Option VcpuSlot) (slot : VcpuSlot) → b ≡ Some slot → none_of a b c d ≡ false
some_second (Some x) b c d slot is = refl
some_second None None c d slot is = absurd (none-some slot is)
some_second None (Some x) c d slot is = refl

some_third : (a b c d : Option VcpuSlot) (slot : VcpuSlot) → c ≡ Some slot → none_of a b c d ≡ false
some_third (Some x) b c d slot is = refl
some_third None (Some x) c d slot is = refl
some_third None None None d slot is = absurd (none-some slot is)
some_third None None (Some x) d slot is = refl

some_fourth : (a b c d : Option VcpuSlot) (slot : VcpuSlot) → d ≡ Some slot → none_of a b c d ≡ false
some_fourth (Some x) b c d slot is = refl
some_fourth None (Some x) c d slot is = refl
some_fourth None None (Some x) d slot is = refl
some_fourth None None None None slot is = absurd (none-some slot is)
some_fourth None None None (Some x) slot is = refl

-- a TVM with a vCPU doesn't lack all
some_slot : (tvm : Tvm) (v : ℕ) (slot : VcpuSlot) → slot_at tvm v ≡ Some slot → has_no_cpu tvm ≡ false
some_slot tvm zero slot is = some_first tvm.v0 tvm.v1 tvm.v2 tvm.v3 slot is
some_slot tvm (suc zero) slot is = some_second tvm.v0 tvm.v1 tvm.v2 tvm.v3 slot is
some_slot tvm (suc (suc zero)) slot is = some_third tvm.v0 tvm.v1 tvm.v2 tvm.v3 slot is
some_slot tvm (suc (suc (suc zero))) slot is = some_fourth tvm.v0 tvm.v1 tvm.v2 tvm.v3 slot is
some_slot tvm (suc (suc (suc (suc v)))) slot is = absurd (none-some slot is)

-- the first vCPU is the one with its number
found_first : (cpu : Cpu) (cpus : List Cpu) → at (λ c. c.number) cpu.number (cpu ∷ cpus) ≡ Some cpu
found_first cpu cpus = ap (λ b. cond b (Some cpu) (at (λ c. c.number) cpu.number cpus)) (eq-eqb cpu.number cpu.number refl)

all_none : (a b c d : Option VcpuSlot) → a ≡ None → b ≡ None → c ≡ None → d ≡ None → none_of a b c d ≡ true
all_none a b c d first second third fourth = rw (first, second, third, fourth) refl

module _ (words : List ℕ) (G : Ground) (S : State) (t : ℕ) where
  no_slot : (v : ℕ) (slot : Option VcpuSlot) (cpu : Option Cpu) → SlotStands G.pages G.harts words S.seats G.files t v slot cpu → cpu ≡ None → slot ≡ None
  no_slot v None cpu stands is = refl
  no_slot v (Some slot) None stands is = absurd stands
  no_slot v (Some slot) (Some cpu) stands is = absurd (none-some cpu (sym is))

  one_slot : (v : ℕ) (slot : Option VcpuSlot) (found : Option Cpu) (cpu : Cpu) → SlotStands G.pages G.harts words S.seats G.files t v slot found → found ≡ Some cpu
      → (one : VcpuSlot) × (slot ≡ Some one)
  one_slot v (Some slot) found cpu stands is = (slot, refl)
  one_slot v None None cpu stands is = absurd (none-some cpu is)
  one_slot v None (Some other) cpu stands is = absurd stands

  slots_told : (tvm : Tvm) (model : ModelTvm) (cpus : List Cpu) → model.cpus ≡ cpus
      → ((v : ℕ) → SlotStands G.pages G.harts words S.seats G.files t v (slot_at tvm v) (find_cpu model v)) → has_no_cpu tvm ≡ (length cpus == 0)
  slots_told tvm model [] are slots =
      let none = λ (v : ℕ). no_slot v (slot_at tvm v) (find_cpu model v) (slots v) (ap (at (λ cpu. cpu.number) v) are) in
      all_none tvm.v0 tvm.v1 tvm.v2 tvm.v3 (none 0) (none 1) (none 2) (none 3)
  slots_told tvm model (cpu ∷ cpus) are slots =
      let one = one_slot cpu.number (slot_at tvm cpu.number) (find_cpu model cpu.number) cpu (slots cpu.number)
      (ap (at (λ c. c.number) cpu.number) are ∙ found_first cpu cpus) in
      some_slot tvm cpu.number one.0 one.1 ∙ sym (ne_eqb (length (cpu ∷ cpus)) 0 (λ e. omega arith))

  -- a TVM that is live in the state is live in the ground
  pub both_live : (x : Option Tvm) (v : Option ModelTvm) → TvmStands G.pages G.harts words t S.seats G.files x v → is_none v ≡ false
      → (tvm : Tvm) × (model : ModelTvm) × (x ≡ Some tvm) × (v ≡ Some model)
  both_live None None stands some = absurd cc
  both_live None (Some model) stands some = absurd stands
  both_live (Some tvm) None stands some = absurd stands
  both_live (Some tvm) (Some model) stands some = (tvm, model, refl, refl)

-- ---- a live TVM

-- the TVM that a live one stands for
pub record IsModelled (words : List ℕ) (G : Ground) (S : State) (t : ℕ) (tvm : Tvm) : Type 0 where
  pub model : ModelTvm
  pub found : find_tvm S t ≡ Some model
  pub stands : LiveStands G.pages G.harts words t S.seats G.files tvm model

pub live_modelled : {words : List ℕ} {G : Ground} {S : State} {t : ℕ} {tvm : Tvm} → Stands words G S → live_at G.tvms t ≡ Some tvm → IsModelled words G S t tvm
live_modelled {words} {G} {S} {t} {tvm} stands live = go (find_tvm S t) refl (stands.tvm t)
  where
    go : (v : Option ModelTvm) → find_tvm S t ≡ v → TvmStands G.pages G.harts words t S.seats G.files (live_at G.tvms t) v → IsModelled words G S t tvm
    go None none both = absurd (subst (λ x. TvmStands G.pages G.harts words t S.seats G.files x None) live both)
    go (Some model) found both = record {
      model = model;
      found = found;
      stands = subst (λ x. TvmStands G.pages G.harts words t S.seats G.files x (Some model)) live both;
    }

pub is_live : {words : List ℕ} {G : Ground} {S : State} {t : ℕ} {tvm : Tvm} → Stands words G S → live_at G.tvms t ≡ Some tvm → IsLiveTvm words S t tvm
is_live {words} {G} stands live = record { ground = G; stands = stands; live = live }

-- the checks look at the TVM that it stands for
pub live_stand : {words : List ℕ} {S : State} {t : ℕ} {tvm : Tvm} (one : IsLiveTvm words S t tvm)
    → LiveStands one.ground.pages one.ground.harts words t S.seats one.ground.files tvm (tvm_at S t)
live_stand {words} {S} {t} {tvm} one =
    let is = live_modelled one.stands one.live in
    subst (LiveStands one.ground.pages one.ground.harts words t S.seats one.ground.files tvm) (ap (λ v. unwrap_or v (new_tvm t)) (sym is.found)) is.stands

module _ {words : List ℕ} {S : State} {t : ℕ} {tvm : Tvm} (one : IsLiveTvm words S t tvm) where
  pub life_told : is_runnable tvm.life ≡ (tvm_at S t).runnable
  life_told = (live_stand one).fields.life

  -- it lacks vCPUs where it has none in the state
  pub cpus_told : has_no_cpu tvm ≡ (length (tvm_at S t).cpus == 0)
  cpus_told = slots_told words one.ground S t tvm (tvm_at S t) (tvm_at S t).cpus refl (live_stand one).fields.cpu

  pub cpu_told : (v : ℕ) → is_some (slot_at tvm v) ≡ is_some (find_cpu (tvm_at S t) v)
  cpu_told v = go (slot_at tvm v) (find_cpu (tvm_at S t) v) ((live_stand one).fields.cpu v)
    where
      go : (slot : Option VcpuSlot) (cpu : Option Cpu) → SlotStands one.ground.pages one.ground.harts words S.seats one.ground.files t v slot cpu → is_some slot ≡ is_some cpu
      go None None stands = refl
      go None (Some cpu) stands = absurd stands
      go (Some slot) None stands = absurd stands
      go (Some slot) (Some cpu) stands = refl

-- the ground after its live TVM changed
pub changed : (t : ℕ) (G : Ground) (how : Tvm → Tvm → Type 0) (tvm new : Tvm) → Some tvm ≡ live_at G.tvms t → how tvm new
    → ChangesTvm t how G (record G { tvms = with_tvm G.tvms (t - 1) new })
changed t G how tvm new live did = λ old is. (new, subst (λ one. how one new) (same_Some tvm old (live ∙ is)) did, refl)

-- what is known of the live TVM with a number, whichever it is
pub of_live : (P : Tvm → Type 0) (G : Ground) (t : ℕ) (tvm : Tvm) → live_at G.tvms t ≡ Some tvm → P tvm → (x : Tvm) → live_at G.tvms t ≡ Some x → P x
of_live P G t tvm live known x is = subst P (same_Some tvm x (sym live ∙ is)) known
