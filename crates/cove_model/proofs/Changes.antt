-- What an accepted call of the host does to the live TVMs: each row is classified here, once.
use Rattle.std.proofs.Common.{◌≡◌, ℕ, not, ◌+◌, ◌/◌, ◌<◌, Bool, true, false, eqb, eq-eqb, option_map, ◌&&◌, true≢false, map, List, [], ◌∷◌, ◌++◌, Option, Some, None, unwrap_or, is_some, refl, sym, ap, subst, ◌∙◌, ⊎_elim, replicate, arith, length}
use Rattle.std.specs.List.{AllByRecursion, list_any, range_with_len}
use Rattle.std.specs.Option.{option_map_or}
use Rattle.std.proofs.lemmas.Bool.{and_from, cases_Bool}
use Rattle.std.proofs.lemmas.Option.{none-some, same_Some}
use Rattle.std.proofs.lemmas.List.{length-replicate, map-append}
use Rattle.std.proofs.lemmas.List.FromFn.{length-map-range_with_len}
use Rattle.cove_base.specs.Ranges.{is_outside}
use Rattle.cove_base.specs.Measurement.{Record, VcpuRecord, FinalizeRecord}
use Rattle.cove_model.specs.Machine.{HostCall, Convert, Create, Region, Tables, Measured, Finalize, Zero, Shared, Run, Invalidate, TvmFence, Validate, Remove, Destroy, Bind, Unbind, Unbound, Inject, is_at, is_mapped_by, remembered, is_among, page_run, page_records, rule, started, page_words_from, alter, at, dropped, blocked_standing, fenced_standing, fenced_unbinding, is_fenced, left_unbinding, mapping_of, may_follow, own_mappings, rebound, restood, shared_mappings, unblocked_standing, AreDistinct, BoundFile, guests_of, bound_file_in, bound_file_of, Owner, every, has, is_free, is_host, page_at, without, words_of, zeros, freed, IsSeated, IsStill, IsHeldWithin, IsSound, IsSoundMapping, IsSoundTvm, Seat, State, board_in, find_cpu, find_tvm, harts_inside, new_cpu, on_cpu, tvm_at, left_by, Begun, Binding, Mapping, Standing, Unbinding, Cpu, Mode, Tvm, created, mode_of, new_tvm}
use Rattle.cove_base.specs.declared.calls.HostCall.TheVariants.{Vcpu}
use Rattle.cove_base.specs.declared.events.Exit.{Exit}
use Rattle.cove_model.proofs.CheckedRuns.{all_hosts, host_words, length_words, memory_given, not_false, zeros_all}
use Rattle.cove_model.proofs.Cpus.{none_runs}
use Rattle.cove_model.proofs.Distinct.{distinct_append, distinct_range, none_any, none_has, pages_of, pages_own, pages_shared}
use Rattle.cove_model.proofs.Keeping.{among_all, blocked_follows, fenced_apart, fenced_follows}
use Rattle.cove_model.proofs.Lists.{all_at, any_at}
use Rattle.cove_model.proofs.Members.{has_with}
use Rattle.cove_model.proofs.Moves.{none_left, outcome_state}
use Rattle.cove_model.proofs.Passing.{Passed}
use Rattle.cove_model.proofs.SoundTvms.{AllSound, blocked_sound, fenced_sound, own_sound, shared_sound}
use Rattle.cove_model.specs.Measured.{IsPart}

-- ---- what happens to a TVM

-- to its records, and whether it runs
pub data Measures (Found : Type 0) (tvm now : Tvm) : Type 0 where
  Unmeasured : now.runnable ≡ tvm.runnable → now.records ≡ tvm.records → Measures Found tvm now
  Parts : (more : List Record) → (Found → tvm.runnable ≡ false) → now.runnable ≡ tvm.runnable → now.records ≡ tvm.records ++ more → AllByRecursion IsPart more → Measures Found tvm now
  Finalizes : (pc arg : ℕ) → (Found → tvm.runnable ≡ false) → now.runnable ≡ true → now.records ≡ tvm.records ++ FinalizeRecord pc arg ∷ [] → Measures Found tvm now

-- To its mappings: they stay, or more come, some stand otherwise, the words of one change, or some go. Those that stand
-- otherwise, and those that go, are no calm change for the hart that makes it; the other harts inside follow what they may.
pub data Maps (Calm Found : Type 0) (S : State) (pages : List Owner) (h t : ℕ) (tvm now : Tvm) : Type 0 where
  Unmapped : now.mappings ≡ tvm.mappings → Maps Calm Found S pages h t tvm now
  Adds : (new : List Mapping) → now.mappings ≡ tvm.mappings ++ new → (Found → AreDistinct (guests_of tvm) → AreDistinct (pages_of (tvm.mappings ++ new)))
      → (IsSound S → AllSound pages (harts_inside S t) t new) → Maps Calm Found S pages h t tvm now
  Restands : (test : ℕ → Bool) (how : Standing → Standing) → now.mappings ≡ restood test how tvm.mappings → (Calm → ⊥)
      → ((x : ℕ) → has x (without h (harts_inside S t)) ≡ true → (s : Standing) → may_follow x s ≡ true → may_follow x (how s) ≡ true)
      → ((s : Standing) → IsHeldWithin (harts_inside S t) s → IsHeldWithin (harts_inside S t) (how s)) → Maps Calm Found S pages h t tvm now
  Rewords : (g : ℕ) (how : List ℕ → List ℕ) → now.mappings ≡ map (remembered g how) tvm.mappings → ((words : List ℕ) → length (how words) ≡ length words)
      → Maps Calm Found S pages h t tvm now
  Drops : (test : ℕ → Bool) → now.mappings ≡ dropped (λ m. test m.guest) tvm.mappings → (Calm → ⊥)
      → (Found → IsSound S → (x g : ℕ) (m : Mapping) → mapping_of tvm g ≡ Some m → may_follow x m.standing ≡ true → test g ≡ false) → Maps Calm Found S pages h t tvm now

-- a change of a vCPU leaves it still where another hart runs it
abbrev pub Spares : State → (h t v : ℕ) → (how : Cpu → Cpu) → Type 0
Spares S h t v how = IsSeated S → h < S.harts → (x : ℕ) (seat : Seat) → x < S.harts → S.seats x ≡ Some seat → (x ≡ h → ⊥) → seat.tvm ≡ t → seat.cpu ≡ v
    → (cpu : Cpu) → IsStill cpu (how cpu)

-- a vCPU that a hart leaves
abbrev pub stopped_by : Exit → Cpu → Cpu
stopped_by exit cpu = record (left_by exit cpu) { latched = None; fuel = 0 }

-- what a change of a vCPU does to its binding: it stays at its file, goes, or is at one that none has
pub data Binds (S : State) (how : Cpu → Cpu) : Type 0 where
  StaysBound : ((cpu : Cpu) → bound_file_in (how cpu).binding ≡ bound_file_in cpu.binding) → Binds S how
  Unbinds : ((cpu : Cpu) → (how cpu).binding ≡ None) → Binds S how
  BindsAnew : (place : BoundFile) → ((cpu : Cpu) → bound_file_in (how cpu).binding ≡ Some place) → ((u w : ℕ) → bound_file_of S u w ≡ Some place → ⊥) → Binds S how

-- to its vCPUs: they stay, or one is added, all begin, one changes, unbindings change, or a hart leaves one
pub data Cpus (Found : Type 0) (S : State) (h t : ℕ) (tvm now : Tvm) : Type 0 where
  CpusStay : now.cpus ≡ tvm.cpus → Cpus Found S h t tvm now
  AddsCpu : (v : ℕ) → now.cpus ≡ tvm.cpus ++ new_cpu v ∷ [] → (Found → is_some (find_cpu tvm v) ≡ false) → Cpus Found S h t tvm now
  Starts : (pc arg : ℕ) → (Found → tvm.runnable ≡ false) → now.cpus ≡ map (started pc arg) tvm.cpus → Cpus Found S h t tvm now
  OnCpu : (v : ℕ) (how : Cpu → Cpu) → now.cpus ≡ alter (λ c. c.number) v how tvm.cpus → ((cpu : Cpu) → (how cpu).number ≡ cpu.number)
      → Spares S h t v how → Binds S how → Cpus Found S h t tvm now
  Rebinds : (how : Unbinding → Unbinding) → now.cpus ≡ map (rebound how) tvm.cpus → Cpus Found S h t tvm now
  Leaves : (v : ℕ) (exit : Exit) → now.cpus ≡ alter (λ c. c.number) v (stopped_by exit) (map (rebound (left_unbinding h)) tvm.cpus)
      → Spares S h t v (stopped_by exit) → Cpus Found S h t tvm now

pub record TvmChange (Calm Found : Type 0) (S : State) (pages : List Owner) (h t : ℕ) (tvm now : Tvm) : Type 0 where
  pub measures : Measures Found tvm now
  pub maps : Maps Calm Found S pages h t tvm now
  pub cpus : Cpus Found S h t tvm now

-- ---- what happens to the live TVMs

-- a change keeps the number of a TVM, and its mode
abbrev pub KeepsName : (how : Tvm → Tvm) → Type 0
KeepsName how = (tvm : Tvm) → ((how tvm).number ≡ tvm.number) × ((how tvm).mode ≡ tvm.mode)

-- one of them is changed, or none
pub data OneTvm (Calm : Type 0) (S : State) (pages : List Owner) (h : ℕ) (xs ys : List Tvm) : Type 0 where
  NoTvm : ys ≡ xs → OneTvm Calm S pages h xs ys
  Alters : (t : ℕ) (how : Tvm → Tvm) → ys ≡ alter (λ k. k.number) t how xs → KeepsName how
      → ((tvm : Tvm) → TvmChange Calm (at (λ k. k.number) t xs ≡ Some tvm) S pages h t tvm (how tvm)) → OneTvm Calm S pages h xs ys

-- where a vCPU is bound, by the vCPUs of a TVM and by the live TVMs
abbrev pub place_at : List Cpu → (v : ℕ) → Option BoundFile
place_at cpus v = bound_file_in (unwrap_or (at (λ c. c.number) v cpus) (new_cpu v)).binding

abbrev pub place_among : List Tvm → (t v : ℕ) → Option BoundFile
place_among tvms t v = place_at (unwrap_or (at (λ k. k.number) t tvms) (new_tvm t)).cpus v

-- one is changed, perhaps twice, then with its vCPUs bound as they were; one is new, or one is destroyed
pub data TvmsChange (Calm : Type 0) (S T : State) (h : ℕ) : Type 0 where
  Once : T.made ≡ S.made → OneTvm Calm S T.pages h S.tvms T.tvms → TvmsChange Calm S T h
  Twice : T.made ≡ S.made → (mid : List Tvm) → OneTvm Calm S T.pages h S.tvms mid → OneTvm Calm S T.pages h mid T.tvms → ((u w : ℕ) → place_among T.tvms u w ≡ place_among mid u w)
      → TvmsChange Calm S T h
  Grows : (mode : Mode) → T.made ≡ S.made + 1 → T.tvms ≡ S.tvms ++ created (S.made + 1) mode (board_in S) ∷ [] → TvmsChange Calm S T h
  Loses : (t : ℕ) → T.made ≡ S.made → T.tvms ≡ dropped (λ k. eqb k.number t) S.tvms → T.pages ≡ map (freed t) S.pages → harts_inside S t ≡ [] → (Calm → ⊥)
      → TvmsChange Calm S T h

-- ---- the kinds of rows

module _ (Calm Found : Type 0) (S : State) (pages : List Owner) (h t : ℕ) (tvm now : Tvm) where
  -- nothing that a law reads
  pub unread : now.runnable ≡ tvm.runnable → now.records ≡ tvm.records → now.mappings ≡ tvm.mappings → now.cpus ≡ tvm.cpus → TvmChange Calm Found S pages h t tvm now
  unread runs records mappings cpus = record { measures = Unmeasured runs records; maps = Unmapped mappings; cpus = CpusStay cpus }

  -- mappings alone
  pub remaps : now.runnable ≡ tvm.runnable → now.records ≡ tvm.records → now.cpus ≡ tvm.cpus → Maps Calm Found S pages h t tvm now → TvmChange Calm Found S pages h t tvm now
  remaps runs records cpus maps = record { measures = Unmeasured runs records; maps = maps; cpus = CpusStay cpus }

  -- vCPUs alone
  pub recpus : now.runnable ≡ tvm.runnable → now.records ≡ tvm.records → now.mappings ≡ tvm.mappings → Cpus Found S h t tvm now → TvmChange Calm Found S pages h t tvm now
  recpus runs records mappings cpus = record { measures = Unmeasured runs records; maps = Unmapped mappings; cpus = cpus }

-- a change of one TVM; one of a vCPU of it, which no hart need run still
alters : (S T : State) (h t : ℕ) (how : Tvm → Tvm) → T.made ≡ S.made → T.tvms ≡ alter (λ k. k.number) t how S.tvms → KeepsName how
    → ((tvm : Tvm) → TvmChange ⊥ (find_tvm S t ≡ Some tvm) S T.pages h t tvm (how tvm)) → TvmsChange ⊥ S T h
alters S T h t how made tvms names each = Once made (Alters t how tvms names each)

alters_cpu : (S T : State) (h t v : ℕ) (how : Cpu → Cpu) → T.made ≡ S.made → T.tvms ≡ alter (λ k. k.number) t (on_cpu v how) S.tvms → ((cpu : Cpu) → (how cpu).number ≡ cpu.number)
    → Spares S h t v how → Binds S how → TvmsChange ⊥ S T h
alters_cpu S T h t v how made tvms numbers spares binds =
    alters S T h t (on_cpu v how) made tvms (λ tvm. (refl, refl)) (λ tvm. recpus ⊥ (find_tvm S t ≡ Some tvm) S T.pages h t tvm (on_cpu v how tvm) refl refl refl (OnCpu v how refl numbers spares binds))

-- no TVM
pub stays : (S T : State) (h : ℕ) → T.made ≡ S.made → T.tvms ≡ S.tvms → TvmsChange ⊥ S T h
stays S T h made tvms = Once made (NoTvm tvms)

-- ---- what the checks say

-- a TVM that is found, by its check
building_found : (S : State) (t : ℕ) (tvm : Tvm) → find_tvm S t ≡ Some tvm → (tvm_at S t).runnable ≡ false → tvm.runnable ≡ false
building_found S t tvm live e = ap (λ (o : Option Tvm). (unwrap_or o (new_tvm t)).runnable) (sym live) ∙ e

pages_recorded : (gpa : ℕ) (contents : List (List ℕ)) → AllByRecursion IsPart (page_records gpa contents)
pages_recorded gpa [] = tt
pages_recorded gpa (words ∷ rest) = (tt, pages_recorded (gpa + 4096) rest)

-- new mappings of guest pages that had none
mapped_apart : (S : State) (t : ℕ) (tvm : Tvm) (gpa n : ℕ) (new : List Mapping) → find_tvm S t ≡ Some tvm
    → list_any (λ g. is_some (mapping_of (tvm_at S t) g)) (page_run gpa n) ≡ false → pages_of new ≡ page_run gpa n
    → AreDistinct (guests_of tvm) → AreDistinct (pages_of (tvm.mappings ++ new))
mapped_apart S t tvm gpa n new live unmapped pages d =
    subst AreDistinct (sym (map-append (λ (m : Mapping). m.guest) tvm.mappings new ∙ ap (λ ks. guests_of tvm ++ ks) pages))
    (distinct_append (guests_of tvm) (page_run gpa n) d (distinct_range (gpa / 4096) n)
    (λ k e. none_has (λ (m : Mapping). m.guest) k tvm.mappings
    (is_none_of (mapping_of tvm k)
    (ap (λ (o : Option Tvm). is_some (mapping_of (unwrap_or o (new_tvm t)) k)) (sym live)
    ∙ none_any (λ g. is_some (mapping_of (tvm_at S t) g)) (page_run gpa n) k unmapped e))))
  where
    is_none_of : (o : Option Mapping) → is_some o ≡ false → o ≡ None
    is_none_of None q = refl
    is_none_of (Some m) q = absurd (true≢false q)

-- what is found of a TVM is held by harts that are inside
found_held : (S : State) (t : ℕ) (tvm : Tvm) (g : ℕ) (m : Mapping) → IsSound S → find_tvm S t ≡ Some tvm → mapping_of tvm g ≡ Some m → IsHeldWithin (harts_inside S tvm.number) m.standing
found_held S t tvm g m sound live found =
    let all = all_at (IsSoundTvm S) (λ (k : Tvm). k.number) t S.tvms tvm live sound.tvms_sound in
    (all_at (IsSoundMapping S.pages (harts_inside S tvm.number) tvm.number) (λ (k : Mapping). k.guest) g tvm.mappings m found all).held_within

-- a run of mappings whose fence is complete is followed by no hart
fenced_run : (S : State) (t : ℕ) (tvm : Tvm) (gpa n : ℕ) → find_tvm S t ≡ Some tvm → Passed (rule S 0 (Remove t gpa n)).checks
    → IsSound S → (x g : ℕ) (m : Mapping) → mapping_of tvm g ≡ Some m → may_follow x m.standing ≡ true → is_among gpa n g ≡ false
fenced_run S t tvm gpa n live ok sound x g m found follows = ⊎_elim
    (λ among.
    let test : Mapping → Bool = λ mapping. is_fenced mapping.standing in
    let there = among_all (is_mapped_by test (tvm_at S t)) gpa n g (not_false _ ok.1.1.1.1.1.0) among in
    let here : is_mapped_by test tvm g ≡ true = subst (λ x. is_mapped_by test x g ≡ true) (ap (λ o. unwrap_or o (new_tvm t)) live) there in
    let fenced : is_fenced m.standing ≡ true = sym (ap (λ o. option_map_or test o false) found) ∙ here in
    absurd (fenced_apart x (harts_inside S tvm.number) m.standing fenced (found_held S t tvm g m sound live found) follows))
    (λ q. q)
    (cases_Bool (is_among gpa n g))

-- a run of pages that is mapped: it is in memory, all its pages pass a test, and none of its guest pages is mapped
record MapsRun (S : State) (test : Owner → Bool) (t base n gpa : ℕ) : Type 0 where
  inside : is_outside base n (length S.pages) ≡ false
  held : not (every test (base / 4096) n S.pages) ≡ false
  unmapped : list_any (λ g. is_some (mapping_of (tvm_at S t) g)) (page_run gpa n) ≡ false

zero_passed : (S : State) (h t base n gpa : ℕ) → Passed (rule S h (Zero t base n gpa)).checks → MapsRun S is_free t base n gpa
zero_passed S h t base n gpa ok = let run = ok.1.1.1.1.1 in record { inside = run.0; held = run.1.0; unmapped = run.1.1.1.0 }

shared_passed : (S : State) (h t base n gpa : ℕ) → Passed (rule S h (Shared t base n gpa)).checks → MapsRun S is_host t base n gpa
shared_passed S h t base n gpa ok = let run = ok.1.1.1.1.1 in record { inside = run.0; held = run.1.0; unmapped = run.1.1.1.0 }

-- and one that is measured from another, of a TVM that is built
record MeasuresRun (S : State) (t src dst n gpa : ℕ) : Type 0 where
  building : (tvm_at S t).runnable ≡ false
  source_inside : is_outside src n (length S.pages) ≡ false
  source : not (every is_host (src / 4096) n S.pages) ≡ false
  inside : is_outside dst n (length S.pages) ≡ false
  free : not (every is_free (dst / 4096) n S.pages) ≡ false
  unmapped : list_any (λ g. is_some (mapping_of (tvm_at S t) g)) (page_run gpa n) ≡ false

measured_passed : (S : State) (h t src dst n gpa : ℕ) → Passed (rule S h (Measured t src dst n gpa)).checks → MeasuresRun S t src dst n gpa
measured_passed S h t src dst n gpa ok =
    let runs = ok.1.1.1.1.1.1 in
    let maps = runs.1.1.1.1 in
    record { building = ok.1.0; source_inside = runs.0; inside = runs.1.0; source = runs.1.1.0; free = runs.1.1.1.0; unmapped = maps.1.0 }

-- a binding whose unbinding changed is at its file
pub rebound_place : (how : Unbinding → Unbinding) (cpu : Cpu) → bound_file_in (rebound how cpu).binding ≡ bound_file_in cpu.binding
rebound_place how cpu = go cpu.binding
  where
    go : (o : Option Binding) → bound_file_in (option_map {T = Binding} (λ b. record b { unbinding = how b.unbinding }) o) ≡ bound_file_in o
    go None = refl
    go (Some b) = refl

-- no vCPU is bound to a file that is not taken
not_taken : (S : State) (hart file : ℕ) → list_any (λ (tvm : Tvm). list_any (is_at hart file) tvm.cpus) S.tvms ≡ false
    → (u w : ℕ) → bound_file_of S u w ≡ Some (record { hart = hart; file = file }) → ⊥
not_taken S hart file none u w = go (find_tvm S u) refl
  where
    place : BoundFile
    place = record { hart = hart; file = file }

    taken : (o : Option Binding) → bound_file_in o ≡ Some place → option_map_or (λ b. eqb b.hart hart && eqb b.file file) o false ≡ true
    taken None e = absurd (none-some place e)
    taken (Some b) e = let q = same_Some (record { hart = b.hart; file = b.file }) place e in
        and_from (eqb b.hart hart) (eqb b.file file) (eq-eqb b.hart hart (ap (λ (p : BoundFile). p.hart) q)) (eq-eqb b.file file (ap (λ (p : BoundFile). p.file) q))

    of : (tvm : Tvm) → find_tvm S u ≡ Some tvm → (c : Option Cpu) → find_cpu tvm w ≡ c → bound_file_in (unwrap_or c (new_cpu w)).binding ≡ Some place → ⊥
    of tvm live None there e = none-some place e
    of tvm live (Some cpu) there e = true≢false (sym (taken cpu.binding e)
        ∙ any_at (is_at hart file) (λ (c : Cpu). c.number) w tvm.cpus cpu there (any_at (λ (k : Tvm). list_any (is_at hart file) k.cpus) (λ (k : Tvm). k.number) u S.tvms tvm live none))

    go : (o : Option Tvm) → find_tvm S u ≡ o → place_at (unwrap_or o (new_tvm u)).cpus w ≡ Some place → ⊥
    go None live e = none-some place e
    go (Some tvm) live e = of tvm live (find_cpu tvm w) refl e

-- ---- each call

pub change_call : (S : State) (h : ℕ) (call : HostCall) → Passed (rule S h call).checks → TvmsChange ⊥ S (outcome_state S h call) h
change_call S h (Convert base n) ok = stays S (outcome_state S h (Convert base n)) h refl refl
change_call S h (Create root state) ok = Grows (mode_of root) refl refl
change_call S h (Region t gpa len) ok = alters S (outcome_state S h (Region t gpa len)) h t _ refl refl (λ tvm. (refl, refl)) (λ tvm. unread ⊥ (find_tvm S t ≡ Some tvm) S _ h t tvm _ refl refl refl refl)
change_call S h (Tables t base n) ok = alters S (outcome_state S h (Tables t base n)) h t _ refl refl (λ tvm. (refl, refl)) (λ tvm. unread ⊥ (find_tvm S t ≡ Some tvm) S _ h t tvm _ refl refl refl refl)
change_call S h (Measured t src dst n gpa) ok =
    let T = outcome_state S h (Measured t src dst n gpa) in
    let contents = page_words_from S src n in
    let size = length_words S (src / 4096) n in
    let new = own_mappings (gpa / 4096) (dst / 4096) contents in
    let runs = measured_passed S h t src dst n gpa ok in
    alters S T h t _ refl refl (λ tvm. (refl, refl)) (λ tvm. record {
      measures = Parts (page_records gpa contents) (λ live. building_found S t tvm live runs.building) refl refl (pages_recorded gpa contents);
      maps = Adds new refl
          (λ live. mapped_apart S t tvm gpa n new live runs.unmapped
          (pages_own (gpa / 4096) (dst / 4096) contents ∙ ap (range_with_len (gpa / 4096)) (length-map-range_with_len (λ p. words_of (page_at S.pages p)) (src / 4096) n)))
          (λ sound. own_sound T.pages (harts_inside S t) t (gpa / 4096) (dst / 4096) contents
          (λ i below. memory_given S t dst n gpa runs.inside runs.free i (omega arith))
          (host_words S sound.pages_sound (src / 4096) n (all_hosts S src n runs.source_inside runs.source)));
      cpus = CpusStay refl;
    })
change_call S h (Vcpu t v state) ok =
    let T = outcome_state S h (Vcpu t v state) in
    alters S T h t _ refl refl (λ tvm. (refl, refl)) (λ tvm. record {
      measures = Parts (VcpuRecord v ∷ []) (λ live. building_found S t tvm live ok.1.0) refl refl (tt, tt);
      maps = Unmapped refl;
      cpus = AddsCpu v refl (λ live. ap (λ (o : Option Tvm). is_some (find_cpu (unwrap_or o (new_tvm t)) v)) (sym live) ∙ ok.1.1.1.0);
    })
change_call S h (Finalize t pc arg) ok =
    alters S (outcome_state S h (Finalize t pc arg)) h t _ refl refl (λ tvm. (refl, refl)) (λ tvm.
    let built : find_tvm S t ≡ Some tvm → tvm.runnable ≡ false = λ live. building_found S t tvm live ok.1.0 in
    record { measures = Finalizes pc arg built refl refl; maps = Unmapped refl; cpus = Starts pc arg built refl })
change_call S h (Zero t base n gpa) ok =
    let T = outcome_state S h (Zero t base n gpa) in
    let size = length-replicate {A = List ℕ} n zeros in
    let new = own_mappings (gpa / 4096) (base / 4096) (replicate n zeros) in
    let run = zero_passed S h t base n gpa ok in
    alters S T h t _ refl refl (λ tvm. (refl, refl)) (λ tvm. remaps ⊥ (find_tvm S t ≡ Some tvm) S T.pages h t tvm _ refl refl refl
    (Adds new refl
    (λ live. mapped_apart S t tvm gpa n new live run.unmapped (pages_own (gpa / 4096) (base / 4096) (replicate n zeros) ∙ ap (range_with_len (gpa / 4096)) size))
    (λ sound. own_sound T.pages (harts_inside S t) t (gpa / 4096) (base / 4096) (replicate n zeros)
    (λ i below. memory_given S t base n gpa run.inside run.held i (omega arith)) (zeros_all n))))
change_call S h (Shared t base n gpa) ok =
    let T = outcome_state S h (Shared t base n gpa) in
    let new = shared_mappings (gpa / 4096) (base / 4096) n in
    let run = shared_passed S h t base n gpa ok in
    alters S T h t _ refl refl (λ tvm. (refl, refl)) (λ tvm. remaps ⊥ (find_tvm S t ≡ Some tvm) S T.pages h t tvm _ refl refl refl
    (Adds new refl
    (λ live. mapped_apart S t tvm gpa n new live run.unmapped (pages_shared (gpa / 4096) (base / 4096) n))
    (λ sound. shared_sound T.pages (harts_inside S t) t (gpa / 4096) (base / 4096) n
    (λ i below. all_hosts S base n run.inside run.held (base / 4096 + i) (omega arith) (omega arith)))))
change_call S h (Run t v fuel) ok =
    alters_cpu S (outcome_state S h (Run t v fuel)) h t v _ refl refl (λ cpu. refl)
    (λ seated below x seat lt sits ne is it cpu. absurd (none_runs S x t v seat lt sits ok.1.1.1.1.0 is it)) (StaysBound (λ cpu. refl))
change_call S h (Invalidate t gpa n) ok =
    let inside = harts_inside S t in
    alters S (outcome_state S h (Invalidate t gpa n)) h t _ refl refl (λ tvm. (refl, refl)) (λ tvm. remaps ⊥ (find_tvm S t ≡ Some tvm) S _ h t tvm _ refl refl refl
    (Restands (is_among gpa n) (blocked_standing inside) refl (λ calm. calm) (λ x here. blocked_follows x inside (has_with h x inside here)) (blocked_sound inside inside (λ k e. e))))
change_call S h (TvmFence t) ok =
    let inside = harts_inside S t in
    alters S (outcome_state S h (TvmFence t)) h t _ refl refl (λ tvm. (refl, refl)) (λ tvm. record {
      measures = Unmeasured refl refl;
      maps = Restands (λ g. true) (fenced_standing inside) refl (λ calm. calm) (λ x here. fenced_follows x inside) (fenced_sound inside);
      cpus = Rebinds (fenced_unbinding inside) refl;
    })
change_call S h (Validate t gpa n) ok =
    alters S (outcome_state S h (Validate t gpa n)) h t _ refl refl (λ tvm. (refl, refl)) (λ tvm. remaps ⊥ (find_tvm S t ≡ Some tvm) S _ h t tvm _ refl refl refl
    (Restands (is_among gpa n) unblocked_standing refl (λ calm. calm) (λ x here s q. refl) (λ s held. tt)))
change_call S h (Remove t gpa n) ok =
    alters S (outcome_state S h (Remove t gpa n)) h t _ refl refl (λ tvm. (refl, refl)) (λ tvm. remaps ⊥ (find_tvm S t ≡ Some tvm) S _ h t tvm _ refl refl refl
    (Drops (is_among gpa n) refl (λ calm. calm) (λ live. fenced_run S t tvm gpa n live ok)))
change_call S h (Destroy t) ok = Loses t refl refl refl (none_left (harts_inside S t) ok.1.0) (λ calm. calm)
change_call S h (Bind t v hart file) ok =
    alters_cpu S (outcome_state S h (Bind t v hart file)) h t v _ refl refl (λ cpu. refl) (λ seated below x seat lt sits ne is it cpu. record { x = refl; pc = refl; latched = refl; fuel = refl }) (BindsAnew (record { hart = hart; file = file }) (λ cpu. refl) (not_taken S hart file ok.1.1.1.1.0))
change_call S h (Unbind t v) ok =
    alters_cpu S (outcome_state S h (Unbind t v)) h t v _ refl refl (λ cpu. refl) (λ seated below x seat lt sits ne is it cpu. record { x = refl; pc = refl; latched = refl; fuel = refl }) (StaysBound (rebound_place (λ unbinding. Begun None)))
change_call S h (Unbound t v) ok =
    alters_cpu S (outcome_state S h (Unbound t v)) h t v _ refl refl (λ cpu. refl) (λ seated below x seat lt sits ne is it cpu. record { x = refl; pc = refl; latched = refl; fuel = refl }) (Unbinds (λ cpu. refl))
change_call S h (Inject t v id) ok =
    alters_cpu S (outcome_state S h (Inject t v id)) h t v _ refl refl (λ cpu. refl) (λ seated below x seat lt sits ne is it cpu. record { x = refl; pc = refl; latched = refl; fuel = refl }) (StaysBound (λ cpu. refl))
change_call S h call ok = stays S (outcome_state S h call) h refl refl
