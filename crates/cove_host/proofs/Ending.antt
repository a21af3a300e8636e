-- The end of a TVM, and the outcome of its destruction.
use Rattle.std.proofs.Common.{◌≡◌, ℕ, zero, suc, ◌+◌, ◌-◌, ◌^◌, ◌<◌, ◌≤◌, false, true, List, ◌∷◌, ◌++◌, get_or, length, Some, refl, sym, subst, arith}
use Rattle.std.proofs.lemmas.Option.{none-some}
use Rattle.std.specs.List.{range_with_len}
use Rattle.cove_base.proofs.StoreLemmas.{AllAllowed-weaker}
use Rattle.cove_base.specs.Modes.{leaves_of}
use Rattle.cove_model.specs.Machine.{table_word, AllAllowed, stored, Destroy, Success, rule, AllowsLawful, IsLawful, MakesLawful, State, find_tvm}
use Rattle.cove_stage2.proofs.LawfulLemmas.{leads_on}
use Rattle.cove_clear.specs.Clearing.{Goes, IsBeingCleared, MayBeCleared, Proceeds}
use Rattle.cove_host.proofs.Beginning.{begins_leaving}
use Rattle.cove_host.proofs.CheckedLemmas.{each_passes}
use Rattle.cove_host.proofs.LifeTold.{both_live, live_modelled}
use Rattle.cove_host.proofs.TakenPages.{all_destroys, all_lawful, all_own}
use Rattle.cove_tvm.specs.Called.{Called, IsMet, IsReady}
use Rattle.cove_host.proofs.PassedCalls.{AllPass, lawful_call}
use Rattle.cove_host.specs.Ended.{HasEnded, IsEnding, MayEnd}
use Rattle.cove_host.specs.FoundTvms.{ChangesTvm}
use Rattle.cove_host.specs.HartsInside.{is_inside}
use Rattle.cove_host.specs.Released.{HavePlaces, all_cpu_pages, release_stores}
use Rattle.cove_model.specs.Tvms.{Tvm as ModelTvm}
use Rattle.cove_tvm.proofs.GoneTvm.{destroy_stands}
use Rattle.cove_tvm.proofs.KeptGround.{live_made}
use Rattle.cove_tvm.specs.DestroyedTvms.{Destroys}
use Rattle.cove_tvm.specs.Lives.{is_gone}
use Rattle.cove_tvm.specs.Stands.{Stands}
use Rattle.cove_tvm.specs.TvmLends.{with_tvm}
use Rattle.cove_tvm.specs.TvmStands.{LiveStands}
use Rattle.cove_tvm.specs.TvmTables.{live_at}
use Rattle.cove_tvm.specs.declared.ground.Ground.{Ground}
use Rattle.cove_tvm.specs.declared.machines.Tvm.{Tvm}

-- ---- the end of a TVM

module _ (allows : List ℕ → ℕ → ℕ → Type 0) (words : List ℕ) (tvm : Tvm) (may : MayEnd allows words tvm) where
  abbrev pages : ℕ
  pages = tvm.tables.pages

  abbrev root : ℕ
  root = tvm.tables.root.0

  pub may_leave : MayBeCleared allows tvm.tables.pages tvm.tables.root.0 (leaves_of tvm.tables.mode) words tvm.pool.pages
  may_leave = (may.0, may.1, may.2, may.3, may.4.leaving, may.5)

  pub room_is : tvm.pool.room ≡ tvm.tables.pages
  room_is = may.4.live.room

  module _ (mid pool : List ℕ) (proceeds : Proceeds tvm.tables.pages tvm.tables.root.0 (leaves_of tvm.tables.mode) words tvm.pool.pages mid pool)
      (empty : (n : ℕ) → n < 2048 → get_or mid (table_word tvm.tables.pages tvm.tables.root.0 n) 0 ≡ 0) where
    abbrev all : List ℕ
    all = pool ++ (range_with_len tvm.tables.root.0 4 ++ (tvm.state.0 ∷ all_cpu_pages tvm))

    goes : (harts t : ℕ) → IsEnding harts words t tvm → Goes pages harts t root (leaves_of tvm.tables.mode) words tvm.pool.pages mid pool
    goes harts t e = proceeds harts t e.leaving

    pub ending_places : HavePlaces mid all
    ending_places p there =
        let now = goes may.0 may.1 may.4 in
        let on =
        (all_own pages may.0 words mid may.1 may.4.seats may.4.files tvm may.4.model pool may.4.live now.leaving now.clears empty p there).0 in
        let size = now.leaving.clearable.size in
        let few = now.leaving.clearable.few in
        (omega arith, omega arith)

    pub ending_root : (root + 4 ≤ 2 ^ 16) × (root + 4 ≤ length mid)
    ending_root =
        let now = goes may.0 may.1 may.4 in
        let fits = now.leaving.clearable.root_is.fits in
        let size = now.leaving.clearable.size in
        let few = now.leaving.clearable.few in
        (omega arith, omega arith)

    pub ending_allowed : AllAllowed allows mid (release_stores all)
    ending_allowed =
        let now = goes may.0 may.1 may.4 in
        AllAllowed-weaker (IsLawful pages may.0 may.2 may.3) allows mid (release_stores all) may.5
        (all_lawful pages may.0 words mid may.1 may.4.seats may.4.files tvm may.4.model pool may.4.live now.leaving now.clears empty may.2 may.3)

    pub ending_over : (new : List ℕ) (gone : Tvm) → new ≡ stored mid (release_stores all) → is_gone gone.life ≡ true → HasEnded words new tvm gone
    ending_over new gone stores is_over = record {
      is_over = is_over;
      destroys = λ harts t e.
          let now = goes harts t e in
          subst (λ ws. Destroys pages words ws t) (sym stores)
          (all_destroys pages harts words mid t e.seats e.files tvm e.model pool e.live now.leaving now.clears empty);
      lawful = λ harts t hart last e.
          let now = goes harts t e in
          leads_on (IsLawful pages harts hart last) words mid new (now.lawful hart last)
          (release_stores all, all_lawful pages harts words mid t e.seats e.files tvm e.model pool e.live now.leaving now.clears empty hart last, stores);
    }

-- ---- the call

module _ (words : List ℕ) (G : Ground) (hart t : ℕ) (ready : IsReady words G)
    (outside : (k : ℕ) → k < G.harts → is_inside G.pages G.harts words t k ≡ false) where
  few : G.pages ≤ 2 ^ 16
  few = let limit = ready.page_limit in omega arith

  -- a live TVM may end, whatever state stands
  ending : (S : State) → IsMet S → Stands words G S → (tvm : Tvm) → live_at G.tvms t ≡ Some tvm → IsEnding G.harts words t tvm
  ending S met stands tvm live =
      let one = live_modelled stands live in
      record {
        seats = S.seats;
        files = G.files;
        model = one.model;
        live = subst (λ n. LiveStands n G.harts words t S.seats G.files tvm one.model) (sym one.stands.board) one.stands;
        leaving = subst (λ n. IsBeingCleared n G.harts words t tvm.tables.root.0 (leaves_of tvm.tables.mode) tvm.pool.pages) (sym one.stands.board)
            (begins_leaving words G S stands met.sound few met.orderly t tvm one.model (live_made G.tvms t tvm live).0 one.stands one.found outside);
      }

  board : (tvm : Tvm) → live_at G.tvms t ≡ Some tvm → tvm.tables.pages ≡ G.pages
  board tvm live = (live_modelled ready.stands live).stands.board

  pub may_end : (allows : List ℕ → ℕ → ℕ → Type 0) → AllowsLawful allows G.pages G.harts hart words → (tvm : Tvm) → live_at G.tvms t ≡ Some tvm → MayEnd allows words tvm
  may_end allows lawful tvm live = (
    G.harts,
    t,
    hart,
    words,
    ending ready.state ready.met ready.stands tvm live,
    subst (λ n. AllowsLawful allows n G.harts hart words) (sym (board tvm live)) lawful,
  )

  module _ (new : List ℕ) (H : Ground) (told : AllPass (λ S. rule S hart (Destroy t)) words G)
      (ended : ChangesTvm t (HasEnded words new) G H) where
    both : (S : State) (stands : Stands words G S) → (tvm : Tvm) × (model : ModelTvm) × (live_at G.tvms t ≡ Some tvm) × (find_tvm S t ≡ Some model)
    both S stands =
        both_live words G S t (live_at G.tvms t) (find_tvm S t) (stands.tvm t) (each_passes (rule S hart (Destroy t)).checks (told S stands) 0)

    destroyed : (S : State) → IsMet S → (stands : Stands words G S) → Destroys G.pages words new t
    destroyed S met stands =
        let live = both S stands in
        subst (λ n. Destroys n words new t) (board live.0 live.2) ((ended live.0 live.2).1.destroys G.harts t (ending S met stands live.0 live.2))

    after : (S : State) → IsMet S → Stands words G S → Stands new H (rule S hart (Destroy t)).outcome.state
    after S met stands = go t refl
      where
        go : (n : ℕ) → t ≡ n → Stands new H (rule S hart (Destroy t)).outcome.state
        go zero is = let live = both S stands in absurd (none-some live.0 (subst (λ n. live_at G.tvms n ≡ Some live.0) is live.2))
        go (suc k) is =
            let live = both S stands in
            let done = ended live.0 live.2 in
            let before : t - 1 ≡ k = omega arith in
            subst (λ ground. Stands new ground (rule S hart (Destroy t)).outcome.state) (sym done.2)
            (subst (λ n. Stands new (record G { tvms = with_tvm G.tvms n done.0 }) (rule S hart (Destroy t)).outcome.state) (sym before)
            (subst (λ n. Stands new (record G { tvms = with_tvm G.tvms k done.0 }) (rule S hart (Destroy n)).outcome.state) (sym is)
            (destroy_stands k words new G S hart live.0 done.0 live.1 stands met.orderly
            (subst (λ n. live_at G.tvms n ≡ Some live.0) is live.2) (subst (λ n. find_tvm S n ≡ Some live.1) is live.3)
            (subst (λ n. Destroys G.pages words new n) is (destroyed S met stands)) done.1.is_over)))

    kept : Destroys G.pages words new t
    kept = destroyed ready.state ready.met ready.stands

    -- an accepted call, by what the code leaves
    pub destroys_tvm : Called hart (λ S. rule S hart (Destroy t)) words new G H (record { status = Success; value = 0 })
    destroys_tvm =
        let live = both ready.state ready.stands in
        lawful_call hart (λ S. rule S hart (Destroy t)) words new G H told after (λ S. refl)
        (subst (λ n. MakesLawful n G.harts hart words words new) (board live.0 live.2)
        ((ended live.0 live.2).1.lawful G.harts t hart words (ending ready.state ready.met ready.stands live.0 live.2)))
        (λ at past. kept.behind at past)
