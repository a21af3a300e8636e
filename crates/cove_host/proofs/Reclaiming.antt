-- The outcome of a reclaim.
use Rattle.std.proofs.Common.{◌≡◌, ℕ, ◌+◌, ◌/◌, ◌<◌, ◌≤◌, List, [], ◌∷◌, get_or, true, refl, subst, inr, arith}
use Rattle.std.proofs.lemmas.Bool.{not-false}
use Rattle.cove_base.proofs.StoreLemmas.{AllAllowed-weaker, get_or-fills_other}
use Rattle.cove_model.specs.Machine.{host, count_word, AllAllowed, stored, Reclaim, Success, AllFree, WithinMemory, rule, AllowsLawful, IsFreeIn, IsLawful, every, is_free, page_at, Aligned, Check, Count, State, PageStands, answered_in, epoch_in, maps_of}
use Rattle.cove_host.proofs.AcceptedCalls.{accepts}
use Rattle.cove_host.proofs.CheckedLemmas.{each_passes, none_fails}
use Rattle.cove_host.proofs.Creating.{stays_within}
use Rattle.cove_host.proofs.PassedCalls.{AllPass}
use Rattle.cove_host.proofs.PassedChecks.{inside_passes}
use Rattle.cove_tvm.specs.Called.{Called, IsReady}
use Rattle.cove_model.proofs.LawfulProofs.{reclaim_is_lawful}
use Rattle.cove_model.proofs.Runs.{every_at}
use Rattle.cove_model.proofs.StandLemmas.{free_page}
use Rattle.cove_model.specs.WordLaws.{reclaim_stores, zeroed}
use Rattle.cove_tvm.proofs.OwnerCalls.{ground_reclaims}
use Rattle.cove_tvm.specs.Stands.{Stands}
use Rattle.cove_tvm.specs.declared.ground.Ground.{Ground}

abbrev pub reclaim_checks : State → (base n : ℕ) → List Check
reclaim_checks S base n = Count n ∷ Aligned base ∷ WithinMemory S base n ∷ AllFree S base n ∷ []

module _ (words : List ℕ) (G : Ground) (hart base n : ℕ) (ready : IsReady words G)
    (told : AllPass (λ S. rule S hart (Reclaim base n)) words G) where
  -- the pages are on the board, and free
  passed : (S : State) → Stands words G S → (base / 4096 + n ≤ G.pages) × (every is_free (base / 4096) n S.pages ≡ true)
  passed S stands =
      let pass = each_passes (reclaim_checks S base n) (told S stands) in
      (inside_passes base n stands (pass 2), not-false (every is_free (base / 4096) n S.pages) (pass 3))

  inside : base / 4096 + n ≤ G.pages
  inside = (passed ready.state ready.stands).0

  free_at : (p : ℕ) → base / 4096 ≤ p → p < base / 4096 + n → IsFreeIn G.pages G.harts words p
  free_at p low high =
      let owners = ready.stands.words_stand.stands.owners in
      let long = owners.page_count in
      let fits = inside in
      let S = ready.state in
      let is =
      free_page (page_at S.pages p) (every_at is_free (base / 4096) n S.pages (passed S ready.stands).1 p low high (omega arith)) in
      subst (PageStands G.harts (epoch_in G.pages words) (answered_in G.pages words) (maps_of S p) (get_or words p 0)) is (owners.page p (omega arith))

  stores_lawful : AllAllowed (IsLawful G.pages G.harts hart words) words (reclaim_stores base n)
  stores_lawful = reclaim_is_lawful G.pages G.harts words hart base n inside free_at

  -- the stores are lawful, and so allowed where every lawful store is
  pub reclaim_allowed : (allows : List ℕ → ℕ → ℕ → Type 0) → AllowsLawful allows G.pages G.harts hart words → AllAllowed allows words (reclaim_stores base n)
  reclaim_allowed allows lawful = AllAllowed-weaker (IsLawful G.pages G.harts hart words) allows words (reclaim_stores base n) lawful stores_lawful

  behind : (at : ℕ) → G.pages ≤ at → get_or (stored words (reclaim_stores base n)) at 0 ≡ get_or words at 0
  behind at past = let fits = inside in get_or-fills_other words (base / 4096) n (host 0) at (inr (omega arith))

  pub reclaim_accepted : Called hart (λ S. rule S hart (Reclaim base n)) words (stored words (reclaim_stores base n)) G (record G { memory = zeroed G.memory (base / 4096) n })
      (record { status = Success; value = 0 })
  reclaim_accepted =
      accepts hart (λ S. rule S hart (Reclaim base n)) words G (record G { memory = zeroed G.memory (base / 4096) n }) (reclaim_stores base n) stores_lawful
      (λ most within. stays_within G.pages G.harts words (stored words (reclaim_stores base n)) most behind within)
      (behind (count_word G.pages G.harts) (omega arith))
      (λ S met stands.
      let pages = passed S stands in
      record {
        none = none_fails (reclaim_checks S base n) (told S stands);
        value = refl;
        stands = ground_reclaims words G S hart base n pages.0 pages.1 met.sound stands;
      })
