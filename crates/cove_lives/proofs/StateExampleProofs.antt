-- What the examples of TVMs and vCPUs show.
use Rattle.std.proofs.Common.{◌≡◌, ◌≢◌, ℕ, zero, suc, ◌+◌, ◌-◌, ◌/◌, ◌%◌, ◌^◌, ◌<◌, ◌≤◌, true, false, cond, eqb, ltb, List, [], ◌∷◌, Option, None, Some, get_or, get_or-set_other, length, replicate, set, refl, sym, ap, subst, ◌∙◌, true≢false, inl, inr, arith}
use Rattle.std.proofs.lemmas.List.{get_or-append_right}
use Rattle.std.proofs.lemmas.Option.{same_Some}
use Rattle.cove_base.specs.InterruptFiles.{InterruptFile}
use Rattle.cove_model.specs.Machine.{given, host, all_words, hart_word, table_word, Role, Root, Table, Vcpu, Data, Within, Seat, new_cpu, Begun, NotBegun, created, new_tvm}
use Rattle.cove_base.specs.TableWords.{blocked}
use Rattle.cove_base.specs.Tables.{Slot, IsSlot, entry_at, next_table, present}
use Rattle.cove_base.specs.Modes.{leaves_of}
use Rattle.cove_base.specs.declared.modes.Mode.{Mode}
use Rattle.cove_base.specs.declared.modes.Mode.TheVariants.{Sv39x4, Sv48x4}
use Rattle.cove_base.specs.declared.numbers.Role.TheVariants.{State}
use Rattle.cove_base.specs.declared.registers.Regs.{Regs}
use Rattle.cove_imsic.specs.FileTables.{FileTable}
use Rattle.cove_model.proofs.LeafWords.{given_host}
use Rattle.cove_model.proofs.Lists.{replicate_zero}
use Rattle.cove_stage2.proofs.ZeroLemmas.{empty-entries}
use Rattle.cove_stage2.specs.declared.tables.Tables.{Tables}
use Rattle.cove_tvm.proofs.BegunTvm.{HasBegun, IsPlaced, begun_lives}
use Rattle.cove_tvm.specs.Entered.{WaitsSince, entered_below, is_entered_below}
use Rattle.cove_lives.specs.Examples.{begun, two_inside}
use Rattle.cove_tvm.specs.LeafStands.{BlockedStands}
use Rattle.cove_lives.specs.StateExamples.{as_second, begun_words, nowhere, on_vcpu, to_second, two_files}
use Rattle.cove_tvm.specs.TvmStands.{LiveStands}
use Rattle.cove_tvm.specs.TvmTables.{IsNewTvm}
use Rattle.cove_tvm.specs.VcpuStands.{BindingStands, RunStands, UnbindingStands}
use Rattle.cove_tvm.specs.declared.vcpus.RunState.TheVariants.{Ready, Running}

-- ---- a TVM that was just created

abbrev first_words : List ℕ
first_words = host 0 ∷ host 0 ∷ host 0 ∷ host 0 ∷ given 1 Root ∷ given 1 Root ∷ given 1 Root ∷ given 1 Root ∷ given 1 State ∷ []

past_pages : (place : ℕ) → 9 ≤ place → get_or begun_words place 0 ≡ 0
past_pages place past = get_or-append_right first_words (replicate (all_words 9 1 - 9) 0) 9 place 0 refl past ∙ replicate_zero (all_words 9 1 - 9) (place - 9)

long : length begun_words ≡ 4686
long = refl

roots : (i : ℕ) → i < 4 → get_or begun_words (4 + i) 0 ≡ given 1 Root
roots zero low = refl
roots (suc zero) low = refl
roots (suc (suc zero)) low = refl
roots (suc (suc (suc zero))) low = refl
roots (suc (suc (suc (suc i)))) low = absurd (omega arith)

of_root : (p : ℕ) (role : Role) → 4 ≤ p → p < 8 → given 1 Root ≡ given 1 role → IsPlaced 4 8 p role
of_root p Root low high is = (low, high)
of_root p State low high is = absurd (omega arith)
of_root p Table low high is = absurd (omega arith)
of_root p Vcpu low high is = absurd (omega arith)
of_root p Data low high is = absurd (omega arith)

of_state : (role : Role) → given 1 State ≡ given 1 role → IsPlaced 4 8 8 role
of_state Root is = absurd (omega arith)
of_state State is = refl
of_state Table is = absurd (omega arith)
of_state Vcpu is = absurd (omega arith)
of_state Data is = absurd (omega arith)

placed : (p : ℕ) (role : Role) → p < 9 → get_or begun_words p 0 ≡ given 1 role → IsPlaced 4 8 p role
placed zero role low is = absurd (given_host 1 0 role (sym is))
placed (suc zero) role low is = absurd (given_host 1 0 role (sym is))
placed (suc (suc zero)) role low is = absurd (given_host 1 0 role (sym is))
placed (suc (suc (suc zero))) role low is = absurd (given_host 1 0 role (sym is))
placed (suc (suc (suc (suc zero)))) role low is = of_root 4 role (omega arith) (omega arith) is
placed (suc (suc (suc (suc (suc zero))))) role low is = of_root 5 role (omega arith) (omega arith) is
placed (suc (suc (suc (suc (suc (suc zero)))))) role low is = of_root 6 role (omega arith) (omega arith) is
placed (suc (suc (suc (suc (suc (suc (suc zero))))))) role low is = of_root 7 role (omega arith) (omega arith) is
placed (suc (suc (suc (suc (suc (suc (suc (suc zero)))))))) role low is = of_state role is
placed (suc (suc (suc (suc (suc (suc (suc (suc (suc p))))))))) role low is = absurd (omega arith)

outside : (number hart : ℕ) → hart < 1 → is_entered_below 9 1 begun_words 1 number hart ≡ false
outside number hart low =
    ap (λ w. cond (eqb (w / 2 ^ 32) 1) (ltb (w % 2 ^ 32) number) false) (past_pages (hart_word 9 1 hart) (omega arith))

has_begun : HasBegun 9 1 begun_words 1 4 8
has_begun = record {
  size = omega (arith, long);
  fits = omega arith;
  state_fits = omega arith;
  roots = roots;
  state_is = refl;
  only = placed;
  zeros = λ p i low high small. past_pages (table_word 9 p i) (omega arith);
  nobody = outside;
}

pub begun_is_new : (tables : Tables) → tables.root.0 ≡ 4 → tables.pages ≡ 9 → IsNewTvm 9 0x10009 4 tables.mode 8 (begun tables)
begun_is_new tables root pages = record {
  life = refl;
  regions = refl;
  registers = refl;
  allowed = refl;
  board = pages;
  root_is = root;
  mode_is = refl;
  pool = refl;
  room = refl;
  state_is = refl;
  no_v0 = refl;
  no_v1 = refl;
  no_v2 = refl;
  no_v3 = refl;
}

pub new : (seats : ℕ → Option Seat) (files : FileTable) (tables : Tables) → tables.root.0 ≡ 4 → tables.pages ≡ 9
    → LiveStands 9 1 begun_words 1 seats files (begun tables) (created 1 tables.mode 0x10009)
new seats files tables root pages = begun_lives 9 1 begun_words 1 4 8 has_begun 0x10009 tables.mode seats files (begun tables) (begun_is_new tables root pages)

-- the modes differ
pub modes_apart : (mode : Mode) → mode ≡ Sv39x4 → mode ≡ Sv48x4 → ⊥
modes_apart mode low high = let is : leaves_of Sv39x4 ≡ leaves_of Sv48x4 = ap leaves_of (sym low ∙ high) in omega arith

pub another_mode : (files : FileTable) (tables : Tables) → tables.mode ≡ Sv39x4
    → LiveStands 9 1 begun_words 1 nowhere files (begun tables) (created 1 Sv48x4 0x10009) → ⊥
another_mode files tables low stands = modes_apart tables.mode low stands.mode

pub finalized : (files : FileTable) (tables : Tables)
    → LiveStands 9 1 begun_words 1 nowhere files (begun tables) (record (created 1 tables.mode 0x10009) { runnable = true }) → ⊥
finalized files tables stands = true≢false (sym stands.fields.life)

pub injected : (files : FileTable) (tables : Tables)
    → LiveStands 9 1 begun_words 1 nowhere files (begun tables) (record (created 1 tables.mode 0x10009) { allowed = 5 ∷ [] }) → ⊥
injected files tables stands = true≢false (sym (stands.fields.allowed 5))

pub has_vcpu : (files : FileTable) (tables : Tables)
    → LiveStands 9 1 begun_words 1 nowhere files (begun tables) (record (created 1 tables.mode 0x10009) { cpus = new_cpu 0 ∷ [] }) → ⊥
has_vcpu files tables stands = stands.fields.cpu 0

abbrev one_more : List ℕ
one_more = set begun_words 3 (given 1 Table)

more_past : (n : ℕ) → n < 2048 → get_or one_more (table_word 9 4 n) 0 ≡ 0
more_past n low = get_or-set_other begun_words 3 (table_word 9 4 n) (given 1 Table) 0 (omega arith) ∙ past_pages (table_word 9 4 n) (omega arith)

pub lost_page : (files : FileTable) (tables : Tables) → tables.root.0 ≡ 4
    → LiveStands 9 1 one_more 1 nowhere files (begun tables) (created 1 tables.mode 0x10009) → ⊥
lost_page files tables root stands = elim (stands.owned.found 3 Table (omega arith) refl) [
  | inl spare ↦ let low : spare.0 < 0 = spare.1 in omega arith
  | inr named ↦ not_named named.0 named.1 (subst (λ r. entry_at 9 r one_more named.0 ≡ next_table 3) root named.2)
]
  where
    not_named : (a : Slot) → IsSlot a → entry_at 9 4 one_more a ≡ next_table 3 → ⊥
    not_named a slot named = let e = sym (empty-entries 9 4 one_more more_past a slot) ∙ named in omega arith

pub another : (files : FileTable) (tables : Tables) → LiveStands 9 1 begun_words 2 nowhere files (begun tables) (new_tvm 2) → ⊥
another files tables stands = let is : given 1 State ≡ given 2 State = stands.owned.state_is in omega arith

-- ---- a leaf that is blocked

pub since : BlockedStands 0 2 two_inside 1 (present 5 false) (blocked (present 5 false) 3) (0 ∷ []) (Some (0 ∷ []))
since = record {
  since = 3;
  begun = omega arith;
  is = refl;
  holds = λ n held. held;
  waits = (omega arith, refl);
}

-- the number since when a leaf is blocked is read off it
module _ (n : ℕ) (held : List ℕ) (waiting : Option (List ℕ)) (stands : BlockedStands 0 2 two_inside 1 (present 5 false) (blocked (present 5 false) n) held waiting) where
  same : stands.since ≡ n
  same = let is : blocked (present 5 false) n ≡ blocked (present 5 false) stands.since = stands.is in omega arith

  holds_by : Within held (entered_below 0 2 two_inside 1 (n + 1))
  holds_by = subst (λ s. Within held (entered_below 0 2 two_inside 1 (s + 1))) same stands.holds

  waits_by : WaitsSince 0 2 two_inside 1 n waiting
  waits_by = subst (λ s. WaitsSince 0 2 two_inside 1 s waiting) same stands.waits

pub hart_outside : BlockedStands 0 2 two_inside 1 (present 5 false) (blocked (present 5 false) 3) (1 ∷ []) (Some (0 ∷ [])) → ⊥
hart_outside stands = true≢false (sym (holds_by 3 (1 ∷ []) (Some (0 ∷ [])) stands 1 refl))

pub for_nobody : BlockedStands 0 2 two_inside 1 (present 5 false) (blocked (present 5 false) 3) (0 ∷ []) (Some []) → ⊥
for_nobody stands =
    let is : ◌≡◌ {A = ℕ} 0 1 = ap (λ (harts : List ℕ). length harts) (waits_by 3 (0 ∷ []) (Some []) stands).1 in
    omega arith

pub entered_later : BlockedStands 0 2 two_inside 1 (present 5 false) (blocked (present 5 false) 2) (0 ∷ []) (Some []) → ⊥
entered_later stands = true≢false (sym (holds_by 2 (0 ∷ []) (Some []) stands 0 refl))

pub to_come : BlockedStands 0 2 two_inside 1 (present 5 false) (blocked (present 5 false) 5) [] None → ⊥
to_come stands = let is = same 5 [] None stands in let begun : stands.since ≤ 4 = stands.begun in omega arith

pub another_page : BlockedStands 0 2 two_inside 1 (present 5 false) (blocked (present 6 false) 3) (0 ∷ []) (Some (0 ∷ [])) → ⊥
another_page stands = let is : blocked (present 6 false) 3 ≡ blocked (present 5 false) stands.since = stands.is in omega arith

-- ---- vCPUs

pub another_place : (regs : Regs) → regs.pc ≡ 4 → RunStands 1 nowhere 1 2 Ready regs (new_cpu 2) → ⊥
another_place regs four stands = let is = sym four ∙ stands.1.place in omega arith

pub while_run : (regs : Regs) → RunStands 1 (on_vcpu 2) 1 2 Ready regs (new_cpu 2) → ⊥
while_run regs stands = stands.1.nobody 0 (omega arith) refl

pub stopped : (regs : Regs) → RunStands 1 nowhere 1 2 Ready regs (record (new_cpu 2) { stopped = true }) → ⊥
stopped regs stands = true≢false stands.0

pub runs_another : (regs : Regs) → RunStands 1 (on_vcpu 3) 1 2 (Running (record { 0 = 0 })) regs (new_cpu 2) → ⊥
runs_another regs stands =
    let is : ◌≡◌ {A = ℕ} 3 2 = ap (λ (seat : Seat). seat.cpu) (same_Some (record { tvm = 1; cpu = 3 }) (record { tvm = 1; cpu = 2 }) stands.2) in
    omega arith

pub bound : (first second saved : InterruptFile)
    → BindingStands 0 2 two_inside (two_files first second) 1 (Some (to_second None)) saved (Some (as_second NotBegun)) second
bound first second saved = record {
  hart = refl;
  file = refl;
  there = record { known = omega arith; above = omega arith; within = omega arith };
  holds = refl;
  unbinding = tt;
}

pub other_file : (first second saved : InterruptFile) → second ≢ first
    → BindingStands 0 2 two_inside (two_files first second) 1 (Some (to_second None)) saved (Some (as_second NotBegun)) first → ⊥
other_file first second saved differ stands = differ (same_Some second first stands.holds)

pub unbinding : (files : FileTable) → UnbindingStands 0 2 two_inside files 1 (Some 3) (Begun (Some (0 ∷ [])))
unbinding files = (omega arith, (omega arith, refl))

pub not_fenced : (files : FileTable) → UnbindingStands 0 2 two_inside files 1 (Some 3) (Begun None) → ⊥
not_fenced files stands = let low : 4 ≤ 3 = stands.1 in omega arith

pub begins_later : (files : FileTable) → UnbindingStands 0 2 two_inside files 1 (Some 5) (Begun None) → ⊥
begins_later files stands = let low : 5 ≤ 4 = stands.0 in omega arith
