-- The outcome of a call that gives a TVM more table pages.
use Rattle.std.proofs.Common.{◌≡◌, ◌+◌, ◌/◌, ◌≤◌, ◌∙◌, ℕ, zero, suc, List, [], ◌∷◌, get_or, length, Some, refl, sym, subst, inr, arith}
use Rattle.std.proofs.lemmas.Option.{none-some, same_Some}
use Rattle.cove_base.proofs.StoreLemmas.{AllAllowed-weaker, get_or-fills_other}
use Rattle.cove_model.specs.Machine.{given, AllAllowed, stored, Tables, Table, Success, AllFree, Live, WithinMemory, Rule, rule, AllowsLawful, IsLawful, Aligned, Check, Count, State}
use Rattle.cove_host.proofs.PassedCalls.{AllPass, passed_call, stands_written}
use Rattle.cove_host.proofs.PassedChecks.{Gives, gives, may_give}
use Rattle.cove_host.proofs.CheckedLemmas.{each_passes}
use Rattle.cove_host.specs.FoundTvms.{ChangesTvm}
use Rattle.cove_tvm.specs.Called.{Called, IsReady}
use Rattle.cove_tvm.proofs.GivenTables.{tables_are_lawful, tables_fit, tables_stand}
use Rattle.cove_tvm.specs.MoreTables.{AddsTables, tables_stores}
use Rattle.cove_tvm.specs.Stands.{Stands}
use Rattle.cove_tvm.specs.TvmTables.{live_at}
use Rattle.cove_tvm.specs.declared.ground.Ground.{Ground}
use Rattle.cove_tvm.specs.declared.machines.Tvm.{Tvm}

-- the checks of the call
abbrev pub tables_checks : State → (t base n : ℕ) → List Check
tables_checks S t base n = Live S t ∷ Count n ∷ Aligned base ∷ WithinMemory S base n ∷ AllFree S base n ∷ []

module _ (words : List ℕ) (G : Ground) (hart base n : ℕ) (ready : IsReady words G) where
  -- the rule of the call
  abbrev by_rule : (t : ℕ) → State → Rule
  by_rule t S = rule S hart (Tables t base n)

  pass : (t : ℕ) → AllPass (by_rule t) words G → (S : State) → Stands words G S → Gives words G S t base n
  pass t told S stands =
      let pass = each_passes (tables_checks S t base n) (told S stands) in
      gives t base n stands (pass 0) (pass 3) (pass 4)

  -- the pages are on the board
  pages_inside : (t : ℕ) → AllPass (by_rule t) words G → base / 4096 + n ≤ G.pages
  pages_inside t told = (pass t told ready.state ready.stands).inside

  stores_lawful : (t : ℕ) → AllPass (by_rule t) words G → AllAllowed (IsLawful G.pages G.harts hart words) words (tables_stores t base n)
  stores_lawful zero told = let one = pass 0 told ready.state ready.stands in absurd (none-some one.old one.live)
  stores_lawful (suc k) told =
      let one = pass (suc k) told ready.state ready.stands in
      tables_are_lawful k words G ready.state hart base n one.old one.model (may_give ready.stands one)

  -- and so allowed where every lawful store is
  pub stores_allowed : (allows : List ℕ → ℕ → ℕ → Type 0) → AllowsLawful allows G.pages G.harts hart words → (t : ℕ) → AllPass (by_rule t) words G
      → AllAllowed allows words (tables_stores t base n)
  stores_allowed allows lawful t told =
      AllAllowed-weaker (IsLawful G.pages G.harts hart words) allows words (tables_stores t base n) lawful (stores_lawful t told)

  -- the pool has room for them
  pub pool_room : (t : ℕ) → AllPass (by_rule t) words G → (tvm : Tvm) → live_at G.tvms t ≡ Some tvm → length tvm.pool.pages + n ≤ tvm.pool.room
  pool_room zero told tvm live = absurd (none-some tvm live)
  pool_room (suc k) told tvm live =
      let one = pass (suc k) told ready.state ready.stands in
      subst (λ (x : Tvm). length x.pool.pages + n ≤ x.pool.room) (same_Some one.old tvm (sym one.live ∙ live))
      (tables_fit k words G ready.state base n one.old one.model (may_give ready.stands one))

  module _ (H : Ground) where
    abbrev Adds : (t : ℕ) → Type 0
    Adds t = ChangesTvm t (AddsTables base n) G H

    after : (t : ℕ) (S : State) (stands : Stands words G S) → Gives words G S t base n → Adds t
        → Stands (stored words (tables_stores t base n)) H (rule S hart (Tables t base n)).outcome.state
    after zero S stands one adds = absurd (none-some one.old one.live)
    after (suc k) S stands one adds =
        let done = adds one.old one.live in
        stands_written G G.memory k done.2 refl (tables_stand k words G S hart base n one.old done.0 one.model (may_give stands one) done.1)

    behind : (t : ℕ) → AllPass (by_rule t) words G → (at : ℕ) → G.pages ≤ at → get_or (stored words (tables_stores t base n)) at 0 ≡ get_or words at 0
    behind t told at past = let inside = pages_inside t told in get_or-fills_other words (base / 4096) n (given t Table) at (inr (omega arith))

    -- an accepted call, by what the code leaves
    pub adds_tables : (t : ℕ) (new : List ℕ) → AllPass (by_rule t) words G → Adds t → new ≡ stored words (tables_stores t base n)
        → Called hart (by_rule t) words new G H (record { status = Success; value = 0 })
    adds_tables t new told adds stores =
        subst (λ ws. Called hart (by_rule t) words ws G H (record { status = Success; value = 0 })) (sym stores)
        (passed_call hart (by_rule t) words G H (tables_stores t base n) told (λ S met stands. after t S stands (pass t told S stands) adds) (λ S. refl)
        (stores_lawful t told) (λ at past. behind t told at (omega arith)))
