-- The rule of each call of the host: its checks in order, its outcome, and which translations of its hart it empties.
use Rattle.std.specs.Prelude.{ℕ, ◌+◌, ◌/◌, true, List, [], ◌∷◌, ◌++◌, map, ◌==◌, replicate, Some, None}
use Rattle.std.specs.Option.{option_map_or}
use Rattle.cove_base.specs.Measurement.{Record, PageRecord, VcpuRecord, FinalizeRecord}
use Rattle.cove_model.specs.Owners.{Purpose, AsRoot, AsState, AsTable, AsVcpu, AsData, fence_answered, change, converted, fenced, page_at, reclaimed, without, words_of, zeros}
use Rattle.cove_model.specs.Refusals.{Check, Count, Aligned}
use Rattle.cove_model.specs.States.{board_in, harts_below, State, harts_inside, new_cpu, on_cpu, on_tvm, seated}
use Rattle.cove_model.specs.Types.{HostCall, Convert, GlobalFence, LocalFence, Reclaim, Create, Region, Tables, Measured, Vcpu, Finalize, Zero, Shared, Run, Invalidate, TvmFence, Validate, Remove, Destroy, Kick, Info, Bind, Unbind, Unbound, Inject}
use Rattle.cove_model.specs.Checks.{WithinMemory, AllHost, AllFree, NoneShared, AllAnswered, OnBoard, RoomForTvm, RootAligned, StateApart, Live, IsBuilding, IsRunnable, NobodyInside, AllLeft, IsArea, NoOverlap, RoomForRegion, AllPrivate, AllShared, Unmapped, EnoughTables, AllPresent, AllBlocked, KindsKept, AllFenced, CpuNumber, NoCpuYet, HasCpu, HasSomeCpu, PlaceAligned, Fuel, NotRunning, NotStopped, NotElsewhere, NotLeaving, UnbindingNotBegun, UnbindingBegun, UnbindingFenced, IsBound, NotBound, FileNumber, FileNotTaken, Identity, IsAllowed}
use Rattle.cove_model.specs.GuestPages.{is_among, page_run}
use Rattle.cove_base.specs.InterruptFiles.{raised}
use Rattle.cove_base.specs.Modes.{mode_of}
use Rattle.cove_model.specs.Keyed.{dropped}
use Rattle.cove_model.specs.Mappings.{blocked_standing, fenced_tvm, own_mappings, rebound, restood, shared_mappings, unblocked_standing, with_mappings}
use Rattle.cove_model.specs.Pages.{change_each, freed, given_to, removed}
use Rattle.cove_model.specs.Tvms.{Begun, NotBegun, Cpu, created}

-- which translations of its hart an accepted call empties: none, those of guests, or all
pub data Forgets : Type 0 where
  Keeps : Forgets
  ForgetsGuests : Forgets
  ForgetsAll : Forgets

-- an accepted call: the state afterwards, and the value beside the success
pub record Outcome : Type 0 where
  pub state : State
  pub value : ℕ

-- the rule of a call in a state: its checks in order, its outcome where none of them fails, and what it empties
pub record Rule : Type 0 where
  pub checks : List Check
  pub outcome : Outcome
  pub forgets : Forgets

-- a rule that empties no translations, and has no value; one with a value
abbrev pub simply : List Check → State → Rule
simply checks S = record { checks = checks; outcome = record { state = S; value = 0 }; forgets = Keeps }

abbrev pub giving : (value : ℕ) → List Check → State → Rule
giving value checks S = record { checks = checks; outcome = record { state = S; value = value }; forgets = Keeps }

-- a rule that empties translations
abbrev pub forgetting : Forgets → List Check → State → Rule
forgetting forgets checks S = record { checks = checks; outcome = record { state = S; value = 0 }; forgets = forgets }

-- the state with n pages from an address on given to a TVM
abbrev pub giving_pages : (t : ℕ) → Purpose → (base n : ℕ) → State → State
giving_pages t purpose base n S = record S { pages = change (given_to t purpose) (base / 4096) n S.pages }

-- the state with n pages from an address on given to a TVM, for the guest pages from another on
abbrev pub giving_memory : (t base n gpa : ℕ) → State → State
giving_memory t base n gpa S = record S {
  pages = change_each (λ i. given_to t (AsData (gpa / 4096 + i))) (base / 4096) n S.pages;
}

-- the words of the n pages of the host's from an address on
abbrev pub page_words_from : State → (base n : ℕ) → List (List ℕ)
page_words_from S base n = map (λ p. words_of (page_at S.pages p)) (page_run base n)

-- the records of pages at the guest addresses from one on
abbrev pub page_records : (gpa : ℕ) → List (List ℕ) → List Record
page_records gpa [] = []
page_records gpa (words ∷ rest) = PageRecord gpa words ∷ page_records (gpa + 4096) rest

-- a vCPU of a TVM that is finalized: its number in a0, the argument in a1
abbrev pub started : (pc arg : ℕ) → Cpu → Cpu
started pc arg cpu = record cpu {
  x = replicate 10 0 ++ cpu.number ∷ arg ∷ replicate 20 0;
  pc = pc;
}

abbrev pub rule : State → (hart : ℕ) → HostCall → Rule
rule S h (Convert base n) = simply
    (Count n ∷ Aligned base ∷ WithinMemory S base n ∷ AllHost S base n ∷ NoneShared S base n ∷ [])
    (record S { pages = change (converted (harts_below S.harts)) (base / 4096) n S.pages })
rule S h GlobalFence =
    let others = without h (harts_below S.harts) in
    forgetting ForgetsAll (AllAnswered S ∷ []) (record S { pages = map (fenced h others) S.pages; unanswered = others })
rule S h LocalFence =
    forgetting ForgetsAll [] (record S { pages = map (fence_answered h) S.pages; unanswered = without h S.unanswered })
rule S h (Reclaim base n) = simply
    (Count n ∷ Aligned base ∷ WithinMemory S base n ∷ AllFree S base n ∷ [])
    (record S { pages = change reclaimed (base / 4096) n S.pages })
rule S h (Create root state) =
    let t = S.made + 1 in
    giving t
    (RoomForTvm S ∷ RootAligned root ∷ Aligned state ∷ WithinMemory S root 4 ∷ WithinMemory S state 1 ∷ StateApart root state
    ∷ AllFree S root 4 ∷ AllFree S state 1 ∷ [])
    (giving_pages t AsState state 1 (giving_pages t AsRoot root 4 (record S { tvms = S.tvms ++ created t (mode_of root) (board_in S) ∷ []; made = t })))
rule S h (Region t gpa len) = simply
    (Live S t ∷ IsBuilding S t ∷ Aligned gpa ∷ Aligned len ∷ IsArea S t gpa len ∷ NoOverlap S t gpa len ∷ RoomForRegion S t ∷ [])
    (on_tvm t (λ tvm. record tvm { regions = tvm.regions ++ record { first = gpa / 4096; count = len / 4096 } ∷ [] }) S)
rule S h (Tables t base n) = simply
    (Live S t ∷ Count n ∷ Aligned base ∷ WithinMemory S base n ∷ AllFree S base n ∷ [])
    (on_tvm t (λ tvm. record tvm { tables = tvm.tables ++ page_run base n }) (giving_pages t AsTable base n S))
rule S h (Measured t src dst n gpa) =
    let contents = page_words_from S src n in
    simply
    (Live S t ∷ IsBuilding S t ∷ Count n ∷ Aligned src ∷ Aligned dst ∷ Aligned gpa ∷ WithinMemory S src n ∷ WithinMemory S dst n
    ∷ AllHost S src n ∷ AllFree S dst n ∷ AllPrivate S t gpa n ∷ Unmapped S t gpa n ∷ EnoughTables S t gpa n ∷ [])
    (on_tvm t (λ tvm. record (with_mappings gpa n (own_mappings (gpa / 4096) (dst / 4096) contents) tvm) {
      records = tvm.records ++ page_records gpa contents;
    }) (giving_memory t dst n gpa S))
rule S h (Vcpu t v state) = simply
    (Live S t ∷ IsBuilding S t ∷ CpuNumber v ∷ NoCpuYet S t v ∷ Aligned state ∷ WithinMemory S state 1 ∷ AllFree S state 1 ∷ [])
    (on_tvm t (λ tvm. record tvm { cpus = tvm.cpus ++ new_cpu v ∷ []; records = tvm.records ++ VcpuRecord v ∷ [] }) (giving_pages t AsVcpu state 1 S))
rule S h (Finalize t pc arg) = simply
    (Live S t ∷ IsBuilding S t ∷ HasSomeCpu S t ∷ PlaceAligned pc ∷ [])
    (on_tvm t (λ tvm. record tvm {
      runnable = true;
      records = tvm.records ++ FinalizeRecord pc arg ∷ [];
      cpus = map (started pc arg) tvm.cpus;
    }) S)
rule S h (Zero t base n gpa) = simply
    (Live S t ∷ IsRunnable S t ∷ Count n ∷ Aligned base ∷ Aligned gpa ∷ WithinMemory S base n ∷ AllFree S base n
    ∷ AllPrivate S t gpa n ∷ Unmapped S t gpa n ∷ EnoughTables S t gpa n ∷ [])
    (on_tvm t (with_mappings gpa n (own_mappings (gpa / 4096) (base / 4096) (replicate n zeros))) (giving_memory t base n gpa S))
rule S h (Shared t base n gpa) = simply
    (Live S t ∷ IsRunnable S t ∷ Count n ∷ Aligned base ∷ Aligned gpa ∷ WithinMemory S base n ∷ AllHost S base n
    ∷ AllShared S t gpa n ∷ Unmapped S t gpa n ∷ EnoughTables S t gpa n ∷ [])
    (on_tvm t (with_mappings gpa n (shared_mappings (gpa / 4096) (base / 4096) n)) S)
rule S h (Run t v fuel) = forgetting ForgetsGuests
    (Live S t ∷ IsRunnable S t ∷ HasCpu S t v ∷ Fuel fuel ∷ NotRunning S t v ∷ NotStopped S t v ∷ NotElsewhere S t v h
    ∷ NotLeaving S t v ∷ [])
    (on_tvm t (on_cpu v (λ cpu. record cpu { fuel = fuel; latched = None })) (record S {
      seats = seated h (Some (record { tvm = t; cpu = v })) S.seats;
      kicked = without h S.kicked;
    }))
rule S h (Invalidate t gpa n) = simply
    (Live S t ∷ IsRunnable S t ∷ Count n ∷ Aligned gpa ∷ AllPresent S t gpa n ∷ [])
    (on_tvm t (λ tvm. record tvm { mappings = restood (is_among gpa n) (blocked_standing (harts_inside S t)) tvm.mappings }) S)
rule S h (TvmFence t) = simply
    (Live S t ∷ IsRunnable S t ∷ AllLeft S t ∷ [])
    (on_tvm t (fenced_tvm (harts_inside S t)) S)
rule S h (Validate t gpa n) = simply
    (Live S t ∷ IsRunnable S t ∷ Count n ∷ Aligned gpa ∷ AllBlocked S t gpa n ∷ KindsKept S t gpa n ∷ [])
    (on_tvm t (λ tvm. record tvm { mappings = restood (is_among gpa n) unblocked_standing tvm.mappings }) S)
rule S h (Remove t gpa n) = simply
    (Live S t ∷ IsRunnable S t ∷ Count n ∷ Aligned gpa ∷ AllBlocked S t gpa n ∷ AllFenced S t gpa n ∷ [])
    (on_tvm t (λ tvm. record tvm { mappings = dropped (λ mapping. is_among gpa n mapping.guest) tvm.mappings })
    (record S { pages = map (removed t (is_among gpa n)) S.pages }))
rule S h (Destroy t) = simply
    (Live S t ∷ NobodyInside S t ∷ [])
    (record S { pages = map (freed t) S.pages; tvms = dropped (λ tvm. tvm.number == t) S.tvms })
rule S h (Kick hart) = simply
    (OnBoard S hart ∷ [])
    (record S { kicked = option_map_or (λ seat. hart ∷ without hart S.kicked) (S.seats hart) S.kicked })
rule S h Info = giving 1 [] S
rule S h (Bind t v hart file) = simply
    (Live S t ∷ HasCpu S t v ∷ OnBoard S hart ∷ FileNumber S file ∷ FileNotTaken S hart file ∷ NotBound S t v ∷ NotRunning S t v ∷ [])
    (on_tvm t (on_cpu v (λ cpu. record cpu { binding = Some (record { hart = hart; file = file; unbinding = NotBegun }) })) S)
rule S h (Unbind t v) = simply
    (Live S t ∷ HasCpu S t v ∷ IsBound S t v ∷ UnbindingNotBegun S t v ∷ [])
    (on_tvm t (on_cpu v (rebound (λ unbinding. Begun None))) S)
rule S h (Unbound t v) = simply
    (Live S t ∷ HasCpu S t v ∷ UnbindingBegun S t v ∷ UnbindingFenced S t v ∷ [])
    (on_tvm t (on_cpu v (λ cpu. record cpu { binding = None })) S)
rule S h (Inject t v id) = simply
    (Live S t ∷ HasCpu S t v ∷ Identity id ∷ IsAllowed S t id ∷ [])
    (on_tvm t (on_cpu v (λ cpu. record cpu { file = raised cpu.file id })) S)
