-- The checks of calls: whether one fails in a state, and the answer then.
use Rattle.std.specs.Prelude.{ℕ, ◌+◌, ◌*◌, ◌/◌, ◌%◌, Bool, true, false, ◌==◌, not, ◌&&◌, ◌||◌, nat_le, nat_lt, length, slice_index, Option, is_some, is_none, unwrap_or}
use Rattle.std.specs.List.{list_all, list_any}
use Rattle.std.specs.Option.{option_map_or}
use Rattle.cove_base.specs.Ranges.{is_outside}
use Rattle.cove_base.specs.declared.limits.TheConstants.{TVM_LIMIT, VCPU_LIMIT, REGION_LIMIT, FUEL_LIMIT}
use Rattle.cove_base.specs.declared.statuses.Status.TheVariants.{Failed, InvalidParam, Denied, InvalidAddress, AlreadyAvailable, AlreadyStarted, AlreadyStopped}
use Rattle.cove_model.specs.Owners.{has, is_host, is_free, every}
use Rattle.cove_model.specs.Refusals.{Check, plain}
use Rattle.cove_model.specs.GuestPages.{is_private, is_shared, meets_run, missing_tables, page_run}
use Rattle.cove_model.specs.Mappings.{is_fenced, is_kind_kept, is_present, is_waited, mapping_of}
use Rattle.cove_model.specs.States.{State, cpu_at, find_cpu, find_tvm, guests_in, harts_inside, runner, shared_pages, tvm_at}
use Rattle.cove_model.specs.Tvms.{Mapping, Binding, Unbinding, NotBegun, Begun, Cpu, Tvm}

-- ---- numbers and pages of the board

-- the pages are within the memory
abbrev pub WithinMemory : State → (base n : ℕ) → Check
WithinMemory S base n = plain (is_outside base n (length S.pages)) InvalidAddress

-- every page is the host's
abbrev pub AllHost : State → (base n : ℕ) → Check
AllHost S base n = plain (not (every is_host (base / 4096) n S.pages)) InvalidAddress

-- every page is free
abbrev pub AllFree : State → (base n : ℕ) → Check
AllFree S base n = plain (not (every is_free (base / 4096) n S.pages)) InvalidAddress

-- none of the pages is mapped shared in a TVM, present or blocked
abbrev pub NoneShared : State → (base n : ℕ) → Check
NoneShared S base n =
    plain (list_any (λ p. nat_le (base / 4096) p && nat_lt p (base / 4096 + n)) (shared_pages S)) Denied

-- every hart has answered the last global fence; the value is the least that has not
abbrev pub AllAnswered : State → Check
AllAnswered S =
    record { fails = nat_lt 0 (length S.unanswered); status = AlreadyStarted; value = slice_index S.unanswered 0 }

-- there is a hart with this number
abbrev pub OnBoard : State → (hart : ℕ) → Check
OnBoard S hart = plain (not (nat_lt hart S.harts)) InvalidParam

-- ---- creation

-- another TVM may be created
abbrev pub RoomForTvm : State → Check
RoomForTvm S = plain (nat_le TVM_LIMIT S.made) Failed

-- the root is four pages from a multiple of their size on; the rest of the address says the mode, and is 0 or 1
abbrev pub RootAligned : (root : ℕ) → Check
RootAligned root = plain (nat_lt 1 (root % 16384)) InvalidAddress

-- the state page is none of the root's pages
abbrev pub StateApart : (root state : ℕ) → Check
StateApart root state = plain (nat_le (root / 4096) (state / 4096) && nat_lt (state / 4096) (root / 4096 + 4)) InvalidAddress

-- ---- TVMs and their lives

-- the TVM is live
abbrev pub Live : State → (t : ℕ) → Check
Live S t = plain (is_none (find_tvm S t)) InvalidParam

-- the TVM is not finalized yet
abbrev pub IsBuilding : State → (t : ℕ) → Check
IsBuilding S t = plain (tvm_at S t).runnable Denied

-- the TVM is finalized
abbrev pub IsRunnable : State → (t : ℕ) → Check
IsRunnable S t = plain (not (tvm_at S t).runnable) Denied

-- no hart is inside the TVM; the value is the least that is
abbrev pub NobodyInside : State → (t : ℕ) → Check
NobodyInside S t =
    let inside = harts_inside S t in
    record { fails = nat_lt 0 (length inside); status = Denied; value = slice_index inside 0 }

-- every hart that was inside the TVM at its last fence has left; the value is the least that has not
abbrev pub AllLeft : State → (t : ℕ) → Check
AllLeft S t =
    let yet = (tvm_at S t).yet in
    record { fails = nat_lt 0 (length yet); status = AlreadyStarted; value = slice_index yet 0 }

-- ---- regions

-- a region is not empty and ends within the guest addresses of the TVM's mode
abbrev pub IsArea : State → (t gpa len : ℕ) → Check
IsArea S t gpa len = plain (len == 0 || nat_lt (4096 * guests_in S t) (gpa + len)) InvalidAddress

-- it meets no region of the TVM
abbrev pub NoOverlap : State → (t gpa len : ℕ) → Check
NoOverlap S t gpa len = plain (list_any (meets_run (gpa / 4096) (len / 4096)) (tvm_at S t).regions) InvalidAddress

-- the TVM may have another region
abbrev pub RoomForRegion : State → (t : ℕ) → Check
RoomForRegion S t = plain (nat_le REGION_LIMIT (length (tvm_at S t).regions)) Failed

-- ---- guest pages

-- every guest page is private, or shared
abbrev pub AllPrivate : State → (t gpa n : ℕ) → Check
AllPrivate S t gpa n = plain (not (list_all (is_private (tvm_at S t)) (page_run gpa n))) InvalidAddress

abbrev pub AllShared : State → (t gpa n : ℕ) → Check
AllShared S t gpa n = plain (not (list_all (is_shared (tvm_at S t)) (page_run gpa n))) InvalidAddress

-- a test of the mapping of a guest page; none passes it
abbrev pub is_mapped_by : (test : Mapping → Bool) → Tvm → (g : ℕ) → Bool
is_mapped_by test tvm g = option_map_or test (mapping_of tvm g) false

-- no guest page has a mapping
abbrev pub Unmapped : State → (t gpa n : ℕ) → Check
Unmapped S t gpa n =
    plain (list_any (λ g. is_some (mapping_of (tvm_at S t) g)) (page_run gpa n)) AlreadyAvailable

-- the pool has the table pages that a mapping needs; the value is how many are missing
abbrev pub EnoughTables : State → (t gpa n : ℕ) → Check
EnoughTables S t gpa n =
    let missing = missing_tables (tvm_at S t) gpa n in
    record { fails = nat_lt 0 missing; status = Failed; value = missing }

-- every guest page has a mapping that is present, or that is blocked
abbrev pub AllPresent : State → (t gpa n : ℕ) → Check
AllPresent S t gpa n =
    plain (not (list_all (is_mapped_by (λ mapping. is_present mapping.standing) (tvm_at S t)) (page_run gpa n))) InvalidAddress

abbrev pub AllBlocked : State → (t gpa n : ℕ) → Check
AllBlocked S t gpa n =
    plain (not (list_all (is_mapped_by (λ mapping. not (is_present mapping.standing)) (tvm_at S t)) (page_run gpa n))) InvalidAddress

-- the kind of each guest page is the one that it is mapped as
abbrev pub KindsKept : State → (t gpa n : ℕ) → Check
KindsKept S t gpa n =
    plain (not (list_all (is_mapped_by (λ mapping. is_kind_kept (tvm_at S t) mapping.guest mapping.backing) (tvm_at S t)) (page_run gpa n))) Denied

-- a fence of the TVM came after each was blocked, and is complete
abbrev pub AllFenced : State → (t gpa n : ℕ) → Check
AllFenced S t gpa n =
    plain (not (list_all (is_mapped_by (λ mapping. is_fenced mapping.standing) (tvm_at S t)) (page_run gpa n))) Denied

-- ---- vCPUs

-- the number is one that a vCPU may have
abbrev pub CpuNumber : (v : ℕ) → Check
CpuNumber v = plain (nat_le VCPU_LIMIT v) InvalidParam

-- the TVM has no such vCPU yet
abbrev pub NoCpuYet : State → (t v : ℕ) → Check
NoCpuYet S t v = plain (is_some (find_cpu (tvm_at S t) v)) AlreadyAvailable

-- the TVM has the vCPU
abbrev pub HasCpu : State → (t v : ℕ) → Check
HasCpu S t v = plain (is_none (find_cpu (tvm_at S t) v)) InvalidParam

-- the TVM has a vCPU
abbrev pub HasSomeCpu : State → (t : ℕ) → Check
HasSomeCpu S t = plain (length (tvm_at S t).cpus == 0) Denied

-- the address of an instruction
abbrev pub PlaceAligned : (pc : ℕ) → Check
PlaceAligned pc = plain (not (pc % 4 == 0)) InvalidAddress

-- a run has one instruction at least, and no more than its limit
abbrev pub Fuel : (fuel : ℕ) → Check
Fuel fuel = plain (fuel == 0 || nat_lt FUEL_LIMIT fuel) InvalidParam

-- no hart runs the vCPU; the value is the one that does
abbrev pub NotRunning : State → (t v : ℕ) → Check
NotRunning S t v =
    record { fails = is_some (runner S t v); status = AlreadyStarted; value = unwrap_or (runner S t v) 0 }

-- no trap stopped the vCPU
abbrev pub NotStopped : State → (t v : ℕ) → Check
NotStopped S t v = plain (cpu_at (tvm_at S t) v).stopped AlreadyStopped

-- the binding of a vCPU, if it is bound
abbrev pub binding_of : State → (t v : ℕ) → Option Binding
binding_of S t v = (cpu_at (tvm_at S t) v).binding

-- the vCPU is bound to no hart but this one
abbrev pub NotElsewhere : State → (t v hart : ℕ) → Check
NotElsewhere S t v hart = plain (option_map_or (λ b. not (b.hart == hart)) (binding_of S t v) false) Denied

-- the unbinding of the vCPU began
abbrev pub has_begun : Unbinding → Bool
has_begun NotBegun = false
has_begun (Begun waiting) = true

abbrev pub is_unbinding : State → (t v : ℕ) → Bool
is_unbinding S t v = option_map_or (λ b. has_begun b.unbinding) (binding_of S t v) false

-- a vCPU may run: its unbinding did not begin
abbrev pub NotLeaving : State → (t v : ℕ) → Check
NotLeaving S t v = plain (is_unbinding S t v) Denied

-- the unbinding of the vCPU may begin: it did not yet
abbrev pub UnbindingNotBegun : State → (t v : ℕ) → Check
UnbindingNotBegun S t v = plain (is_unbinding S t v) AlreadyStarted

-- the unbinding of the vCPU began
abbrev pub UnbindingBegun : State → (t v : ℕ) → Check
UnbindingBegun S t v = plain (not (is_unbinding S t v)) AlreadyStopped

-- a fence of the TVM came after the unbinding began, and is complete
abbrev pub is_unbound : Unbinding → Bool
is_unbound NotBegun = false
is_unbound (Begun waiting) = is_waited waiting

abbrev pub UnbindingFenced : State → (t v : ℕ) → Check
UnbindingFenced S t v = plain (not (option_map_or (λ b. is_unbound b.unbinding) (binding_of S t v) false)) Denied

-- the vCPU is bound, or is not
abbrev pub IsBound : State → (t v : ℕ) → Check
IsBound S t v = plain (is_none (binding_of S t v)) AlreadyStopped

abbrev pub NotBound : State → (t v : ℕ) → Check
NotBound S t v = plain (is_some (binding_of S t v)) AlreadyAvailable

-- ---- interrupts

-- a hart of the board has a file with this number
abbrev pub FileNumber : State → (file : ℕ) → Check
FileNumber S file = plain (file == 0 || nat_lt S.files file) InvalidParam

-- a vCPU is bound to a file of a hart
abbrev pub is_at : (hart file : ℕ) → Cpu → Bool
is_at hart file cpu = option_map_or (λ b. b.hart == hart && b.file == file) cpu.binding false

-- no vCPU of a live TVM is bound to the file
abbrev pub FileNotTaken : State → (hart file : ℕ) → Check
FileNotTaken S hart file = plain (list_any (λ tvm. list_any (is_at hart file) tvm.cpus) S.tvms) AlreadyAvailable

-- an interrupt identity is 1 to 63
abbrev pub Identity : (id : ℕ) → Check
Identity id = plain (id == 0 || nat_lt 63 id) InvalidParam

-- the guest allows the interrupt
abbrev pub IsAllowed : State → (t id : ℕ) → Check
IsAllowed S t id = plain (not (has id (tvm_at S t).allowed)) Denied
