-- A TVM maps pages of the host's: what the checks tell, and what the code leaves.
use Rattle.std.proofs.Common.{true, ◌≡◌, ℕ, zero, suc, ◌/◌, List, Some, refl, arith}
use Rattle.cove_base.specs.Modes.{leaves_of}
use Rattle.cove_model.specs.Machine.{Shared, Success, Rule, rule, AllowsLawful, is_host, State, maps_of}
use Rattle.cove_host.proofs.GrowingRuns.{Grows, run_allowed, run_called, run_grows, run_mapped}
use Rattle.cove_host.proofs.PassedCalls.{AllPass, stands_written}
use Rattle.cove_host.proofs.ReadyWords.{few_maps}
use Rattle.cove_host.specs.FoundTvms.{ChangesTvm}
use Rattle.cove_host.specs.GuestRuns.{EndsWithin}
use Rattle.cove_host.specs.Mapped.{MapsIn, MayMapBy}
use Rattle.cove_host.specs.Raised.{AreHosts, MayRaise, RaisesBy}
use Rattle.cove_tvm.proofs.SharedRuns.{host_word, prepares, shared_stands}
use Rattle.cove_tvm.specs.Called.{Called, IsReady}
use Rattle.cove_tvm.specs.Stands.{Stands}
use Rattle.cove_tvm.specs.TvmTables.{live_at}
use Rattle.cove_tvm.specs.declared.ground.Ground.{Ground}
use Rattle.cove_tvm.specs.declared.machines.Tvm.{Tvm}

module _ {words : List ℕ} {G : Ground} (ready : IsReady words G) (base n gpa hart : ℕ) where
  -- the rule of the call
  abbrev by_rule : (t : ℕ) → State → Rule
  by_rule t S = rule S hart (Shared t base n gpa)

  shares : (t : ℕ) → EndsWithin G t gpa n → AllPass (by_rule t) words G → (S : State) → Stands words G S → Grows is_host words G S t base n gpa
  shares t near told = run_grows ready base n gpa is_host true t near told

  -- the pages are the host's
  hosts_are : (k : ℕ) → EndsWithin G (suc k) gpa n → AllPass (by_rule (suc k)) words G → AreHosts (base / 4096) n words
  hosts_are k near told p low high =
      let one = shares (suc k) near told ready.state ready.stands in
      let inside = one.may.inside in
      (maps_of ready.state p, few_maps words G ready p (omega arith), host_word one.may p low high)

  -- their counts may be raised, and so may the run be mapped then
  pub raise_allowed : (t : ℕ) → EndsWithin G t gpa n → AllPass (by_rule t) words G → (allows : List ℕ → ℕ → ℕ → Type 0) → AllowsLawful allows G.pages G.harts hart words
      → MayRaise allows (base / 4096) n words
  raise_allowed zero near told allows lawful = absurd (shares 0 near told ready.state ready.stands)
  raise_allowed (suc k) near told allows lawful =
      let size = ready.stands.words_stand.stands.size in
      let limit = ready.page_limit in
      record {
        pages = G.pages;
        harts = G.harts;
        hart = hart;
        start = words;
        lawful = lawful;
        inside = (shares (suc k) near told ready.state ready.stands).may.inside;
        few = omega arith;
        size = omega arith;
        hosts = hosts_are k near told;
      }

  module _ (raised : List ℕ) (raises : RaisesBy (base / 4096) n words raised) where
    pub shared_maps : (t : ℕ) → EndsWithin G t gpa n → AllPass (by_rule t) words G → (allows : List ℕ → ℕ → ℕ → Type 0) → AllowsLawful allows G.pages G.harts hart words
        → (tvm : Tvm) → live_at G.tvms t ≡ Some tvm → MayMapBy allows tvm.tables.pages tvm.tables.root.0 (leaves_of tvm.tables.mode) (gpa / 4096) (base / 4096) n true raised tvm.pool.pages
    shared_maps zero near told allows lawful tvm live = absurd (shares 0 near told ready.state ready.stands)
    shared_maps (suc k) near told allows lawful tvm live =
        let one = shares (suc k) near told ready.state ready.stands in
        run_allowed one.may (prepares one.may raises.raised) hart allows lawful tvm live

    -- an accepted call, by what the code leaves
    pub adds_shared : (H : Ground) (new : List ℕ) (t : ℕ) → EndsWithin G t gpa n → AllPass (by_rule t) words G → ChangesTvm t (MapsIn (gpa / 4096) (base / 4096) n true raised new) G H
        → Called hart (by_rule t) words new G H (record { status = Success; value = 0 })
    adds_shared H new zero near told maps = absurd (shares 0 near told ready.state ready.stands)
    adds_shared H new (suc k) near told maps =
        let one = shares (suc k) near told ready.state ready.stands in
        let done = maps one.old one.may.live in
        run_called one.may (prepares one.may raises.raised) hart (by_rule (suc k)) new H done.1.left told done.1.mapped
        (raises.lawful G.pages G.harts hart words one.may.inside (hosts_are k near told))
        (λ S met stands.
        let here = shares (suc k) near told S stands in
        let did = maps here.old here.may.live in
        stands_written G G.memory k did.2 did.1.rest
        (shared_stands k words raised new G S hart base n gpa here.old here.model did.1.left here.may met.orderly raises.raised did.1.room
        (run_mapped here.may (prepares here.may raises.raised) new did.1.left did.1.mapped)))
        (λ S. refl)
