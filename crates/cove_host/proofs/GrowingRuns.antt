-- Guest pages of a TVM are mapped to a run of pages: what the checks tell, and what the code leaves.
use Rattle.std.proofs.Common.{◌≡◌, ◌∙◌, ℕ, zero, suc, ◌/◌, ◌≤◌, Bool, false, is_some, List, Some, Ok, sym, ap, subst, inr, arith}
use Rattle.std.proofs.lemmas.Bool.{ltb-false, not-false}
use Rattle.std.proofs.lemmas.Option.{none-some}
use Rattle.std.specs.List.{list_any}
use Rattle.std.specs.Prelude.{unwrap_or}
use Rattle.cove_base.specs.Modes.{leaves_of}
use Rattle.cove_model.specs.Machine.{Success, EnoughTables, Live, Unmapped, WithinMemory, missing_tables, page_run, Rule, AllowsLawful, IsLawful, MakesLawful, mapping_of, Owner, every, State, find_tvm}
use Rattle.cove_host.proofs.CheckedLemmas.{each_passes}
use Rattle.cove_host.proofs.LifeTold.{both_live, of_live}
use Rattle.cove_host.proofs.PassedCalls.{AllPass, lawful_call}
use Rattle.cove_host.proofs.PassedChecks.{inside_passes}
use Rattle.cove_host.specs.Checked.{all_checked}
use Rattle.cove_host.specs.GuestRuns.{AllOwned, EndsWithin, run_checks}
use Rattle.cove_host.specs.Mapped.{MapsRun, MayMapBy}
use Rattle.cove_model.specs.Tvms.{Tvm as ModelTvm, new_tvm}
use Rattle.cove_stage2.proofs.LawfulLemmas.{leads_on}
use Rattle.cove_stage2.specs.MapStores.{Pages}
use Rattle.cove_tvm.proofs.MappedRuns.{behind_elsewhere}
use Rattle.cove_tvm.proofs.RunsStand.{Prepares, run_may, was}
use Rattle.cove_tvm.specs.Called.{Called, IsMet, IsReady}
use Rattle.cove_tvm.specs.MappedRuns.{AreMapped, MayMap}
use Rattle.cove_tvm.specs.Stands.{Stands}
use Rattle.cove_tvm.specs.TvmTables.{live_at}
use Rattle.cove_tvm.specs.UnmappedRuns.{MayMapOwnedBy}
use Rattle.cove_tvm.specs.declared.ground.Ground.{Ground}
use Rattle.cove_tvm.specs.declared.machines.Tvm.{Tvm}

-- ---- what they tell

-- a TVM whose guest pages may be mapped to the run
pub record Grown (test : Owner → Bool) (words : List ℕ) (G : Ground) (S : State) (k base n gpa : ℕ) : Type 0 where
  pub old : Tvm
  pub model : ModelTvm
  pub may : MayMapOwnedBy test words G S k base n gpa old model

-- the TVM with a number is one; none has the number 0
abbrev pub Grows : (test : Owner → Bool) (words : List ℕ) (G : Ground) (S : State) (t base n gpa : ℕ) → Type 0
Grows test words G S zero base n gpa = ⊥
Grows test words G S (suc k) base n gpa = Grown test words G S k base n gpa

module _ {words : List ℕ} {G : Ground} (ready : IsReady words G) (base n gpa : ℕ) (test : Owner → Bool) where
  pub grows : (t : ℕ) → EndsWithin G t gpa n → (S : State) → Stands words G S → (Live S t).fails ≡ false → (WithinMemory S base n).fails ≡ false → (AllOwned test S base n).fails ≡ false
      → (Unmapped S t gpa n).fails ≡ false → (EnoughTables S t gpa n).fails ≡ false → Grows test words G S t base n gpa
  grows t near S stands lives inside owners unmapped enough = go t near (both_live words G S t (live_at G.tvms t) (find_tvm S t) (stands.tvm t) lives) unmapped enough
    where
      go : (u : ℕ) → EndsWithin G u gpa n → (tvm : Tvm) × (model : ModelTvm) × (live_at G.tvms u ≡ Some tvm) × (find_tvm S u ≡ Some model)
          → (Unmapped S u gpa n).fails ≡ false → (EnoughTables S u gpa n).fails ≡ false → Grows test words G S u base n gpa
      go zero near both none some = absurd (none-some both.0 both.2)
      go (suc k) near both none some =
          let missing : missing_tables (unwrap_or (find_tvm S (suc k)) (new_tvm (suc k))) gpa n ≤ 0 = ltb-false 0 (missing_tables (unwrap_or (find_tvm S (suc k)) (new_tvm (suc k))) gpa n) some in
          let same : missing_tables (unwrap_or (find_tvm S (suc k)) (new_tvm (suc k))) gpa n ≡ missing_tables both.1 gpa n =
          ap (λ x. missing_tables (unwrap_or x (new_tvm (suc k))) gpa n) both.3 in
          record {
            old = both.0;
            model = both.1;
            may = record {
              stands = stands;
              few = ready.page_limit;
              live = both.2;
              found = both.3;
              inside = inside_passes base n stands inside;
              owners = not-false (every test (base / 4096) n S.pages) owners;
              near = near both.0 both.2;
              unmapped = ap (λ x. list_any (λ g. is_some (mapping_of (unwrap_or x (new_tvm (suc k))) g)) (page_run gpa n)) (sym both.3) ∙ none;
              enough = omega (arith, missing, same);
            };
          }

  -- where all checks of such a call pass
  pub run_grows : (shared : Bool) (t : ℕ) → EndsWithin G t gpa n
      → ((S : State) → Stands words G S → Ok tt ≡ all_checked (run_checks test shared S t base n gpa))
      → (S : State) → Stands words G S → Grows test words G S t base n gpa
  run_grows shared t near told S stands =
      let pass = each_passes (run_checks test shared S t base n gpa) (told S stands) in
      grows t near S stands (pass 0) (pass 5) (pass 6) (pass 8) (pass 9)

-- ---- what the code leaves

module _ {test : Owner → Bool} {shared : Bool} {words mid : List ℕ} {G : Ground} {S : State} {k base n gpa : ℕ} {old : Tvm} {model : ModelTvm}
    (may : MayMapOwnedBy test words G S k base n gpa old model) (prepared : Prepares G.pages G.harts (suc k) (base / 4096) n shared words mid) where
  -- the run may be mapped, where every lawful store is allowed
  pub run_allowed : (hart : ℕ) (allows : List ℕ → ℕ → ℕ → Type 0) → AllowsLawful allows G.pages G.harts hart words → (tvm : Tvm) → live_at G.tvms (suc k) ≡ Some tvm
      → MayMapBy allows tvm.tables.pages tvm.tables.root.0 (leaves_of tvm.tables.mode) (gpa / 4096) (base / 4096) n shared mid tvm.pool.pages
  run_allowed hart allows lawful =
      of_live (λ x. MayMapBy allows x.tables.pages x.tables.root.0 (leaves_of x.tables.mode) (gpa / 4096) (base / 4096) n shared mid x.pool.pages) G (suc k) old may.live
      (subst (λ m. MayMapBy allows m old.tables.root.0 (leaves_of old.tables.mode) (gpa / 4096) (base / 4096) n shared mid old.pool.pages) (sym (was may).board)
      (record { harts = G.harts; tvm = suc k; hart = hart; start = words; may = run_may may prepared; lawful = lawful }))

  -- it is mapped
  pub run_mapped : (new : List ℕ) (left : Pages) → MapsRun old.tables.pages old.tables.root.0 (leaves_of old.tables.mode) (gpa / 4096) (base / 4096) n n shared mid old.pool.pages new left.pages
      → AreMapped G.pages G.harts (suc k) old.tables.root.0 (leaves_of old.tables.mode) (gpa / 4096) (base / 4096) n n shared mid old.pool.pages new left.pages
  run_mapped new left mapped =
      subst (λ m. AreMapped m G.harts (suc k) old.tables.root.0 (leaves_of old.tables.mode) (gpa / 4096) (base / 4096) n n shared mid old.pool.pages new left.pages) (was may).board
      (mapped G.harts (suc k)
      (subst (λ m. MayMap m G.harts mid (suc k) old.tables.root.0 (leaves_of old.tables.mode) old.pool.pages (gpa / 4096) (base / 4096) n shared) (sym (was may).board) (run_may may prepared)))

  -- an accepted call, by the lawful stores before the run, and the state after it
  pub run_called : (hart : ℕ) (rule_in : State → Rule) (new : List ℕ) (H : Ground) (left : Pages) → AllPass rule_in words G
      → MapsRun old.tables.pages old.tables.root.0 (leaves_of old.tables.mode) (gpa / 4096) (base / 4096) n n shared mid old.pool.pages new left.pages
      → MakesLawful G.pages G.harts hart words words mid
      → ((R : State) → IsMet R → Stands words G R → Stands new H (rule_in R).outcome.state)
      → ((R : State) → (rule_in R).outcome.value ≡ 0)
      → Called hart rule_in words new G H (record { status = Success; value = 0 })
  run_called hart rule_in new H left told mapped lawful after none =
      let run = run_mapped new left mapped in
      let inside = may.inside in
      lawful_call hart rule_in words new G H told after none (leads_on (IsLawful G.pages G.harts hart words) words mid new lawful (run.lawful hart words))
      (λ at past. run.elsewhere at (behind_elsewhere G.pages mid (suc k) at (omega arith)) ∙ prepared.others at (inr (omega arith)))
