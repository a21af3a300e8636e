-- The outcome of a convert.
use Rattle.std.proofs.Common.{◌≡◌, ℕ, ◌+◌, ◌/◌, ◌≤◌, List, [], ◌∷◌, get_or, true, false, refl, inr, arith}
use Rattle.std.proofs.lemmas.Bool.{not-false}
use Rattle.std.specs.List.{list_any}
use Rattle.cove_base.proofs.StoreLemmas.{AllAllowed-weaker, get_or-fills_other}
use Rattle.cove_model.specs.Machine.{converting, count_word, AllAllowed, stored, Convert, Success, AllHost, NoneShared, WithinMemory, rule, AllowsLawful, IsLawful, every, is_host, Aligned, Check, Count, State, shared_pages, epoch_in}
use Rattle.cove_host.proofs.AcceptedCalls.{accepts}
use Rattle.cove_host.proofs.CheckedLemmas.{each_passes, none_fails}
use Rattle.cove_host.proofs.Creating.{stays_within}
use Rattle.cove_host.proofs.PassedCalls.{AllPass}
use Rattle.cove_host.proofs.PassedChecks.{inside_passes}
use Rattle.cove_host.proofs.SharedPages.{in_run, unshared_words}
use Rattle.cove_tvm.specs.Called.{Called, IsReady}
use Rattle.cove_model.proofs.LawfulProofs.{convert_is_lawful}
use Rattle.cove_model.specs.WordLaws.{convert_stores}
use Rattle.cove_tvm.proofs.OwnerCalls.{ground_converts}
use Rattle.cove_tvm.specs.Stands.{Stands}
use Rattle.cove_tvm.specs.declared.ground.Ground.{Ground}

abbrev pub convert_checks : State → (base n : ℕ) → List Check
convert_checks S base n = Count n ∷ Aligned base ∷ WithinMemory S base n ∷ AllHost S base n ∷ NoneShared S base n ∷ []

-- what is known of a convert that all checks let pass
record Passed (G : Ground) (S : State) (base n : ℕ) : Type 0 where
  inside : base / 4096 + n ≤ G.pages
  hosts : every is_host (base / 4096) n S.pages ≡ true
  unshared : list_any (in_run (base / 4096) n) (shared_pages S) ≡ false

module _ (words : List ℕ) (G : Ground) (hart base n : ℕ) (ready : IsReady words G)
    (told : AllPass (λ S. rule S hart (Convert base n)) words G) where
  passed : (S : State) → Stands words G S → Passed G S base n
  passed S stands =
      let pass = each_passes (convert_checks S base n) (told S stands) in
      record {
        inside = inside_passes base n stands (pass 2);
        hosts = not-false (every is_host (base / 4096) n S.pages) (pass 3);
        unshared = pass 4;
      }

  here : Passed G ready.state base n
  here = passed ready.state ready.stands

  stores_lawful : AllAllowed (IsLawful G.pages G.harts hart words) words (convert_stores G.pages words base n)
  stores_lawful =
      convert_is_lawful G.pages G.harts words hart base n here.inside
      (unshared_words words G ready.state (base / 4096) n ready.stands here.inside here.hosts here.unshared)

  -- the stores are lawful, and so allowed where every lawful store is
  pub convert_allowed : (allows : List ℕ → ℕ → ℕ → Type 0) → AllowsLawful allows G.pages G.harts hart words
      → AllAllowed allows words (convert_stores G.pages words base n)
  convert_allowed allows lawful =
      AllAllowed-weaker (IsLawful G.pages G.harts hart words) allows words (convert_stores G.pages words base n) lawful stores_lawful

  behind : (at : ℕ) → G.pages ≤ at → get_or (stored words (convert_stores G.pages words base n)) at 0 ≡ get_or words at 0
  behind at past =
      let fits = here.inside in get_or-fills_other words (base / 4096) n (converting (epoch_in G.pages words)) at (inr (omega arith))

  pub convert_accepted : Called hart (λ S. rule S hart (Convert base n)) words (stored words (convert_stores G.pages words base n)) G G (record { status = Success; value = 0 })
  convert_accepted =
      accepts hart (λ S. rule S hart (Convert base n)) words G G (convert_stores G.pages words base n) stores_lawful
      (λ most within. stays_within G.pages G.harts words (stored words (convert_stores G.pages words base n)) most behind within)
      (behind (count_word G.pages G.harts) (omega arith))
      (λ S met stands.
      let pages = passed S stands in
      record {
        none = none_fails (convert_checks S base n) (told S stands);
        value = refl;
        stands = ground_converts words G S hart base n ready.some_hart pages.inside pages.hosts stands;
      })
