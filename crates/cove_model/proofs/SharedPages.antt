-- A page that is mapped shared is the host's.
use Rattle.std.proofs.Common.{◌≡◌, ℕ, Bool, true, false, eqb, eqb-true, ◌||◌, List, [], ◌∷◌, refl, sym, ap, subst, ◌∙◌, ⊎_elim}
use Rattle.std.proofs.lemmas.Bool.{cases_Bool, false≢true}
use Rattle.std.specs.List.{AllByRecursion, filter_map, flat_map}
use Rattle.cove_model.proofs.Members.{false-true, has_append}
use Rattle.cove_model.specs.Machine.{Owner, Free, has, is_host, page_at, IsBacked, IsSound, IsSoundMapping, IsSoundTvm, State, shared_pages, shown_page, Backing, HostPage, Mapping, OwnPage, Tvm}

module _ (pages : List Owner) where
  abbrev IsHosts : ℕ → Type 0
  IsHosts p = is_host (page_at pages p) ≡ true

  in_mappings : (inside : List ℕ) (t p : ℕ) (ms : List Mapping) → AllByRecursion (IsSoundMapping pages inside t) ms → has p (filter_map (λ m. shown_page m.backing) ms) ≡ true → IsHosts p
  in_mappings inside t p [] all e = false-true e
  in_mappings inside t p (m ∷ ms) all e = go m.backing all.0.backed e (in_mappings inside t p ms all.1)
    where
      by : (b : Bool) (page : ℕ) → eqb page p ≡ b → IsHosts page → (b || has p (filter_map (λ m. shown_page m.backing) ms)) ≡ true → (has p (filter_map (λ m. shown_page m.backing) ms) ≡ true → IsHosts p) → IsHosts p
      by true page same backed e'' more = subst IsHosts (eqb-true page p same) backed
      by false page other backed e'' more = more e''

      go : (b : Backing) → IsBacked pages t m.guest b → has p (filter_map (λ m. shown_page m.backing) (record m { backing = b } ∷ ms)) ≡ true → (has p (filter_map (λ m. shown_page m.backing) ms) ≡ true → IsHosts p) → IsHosts p
      go (OwnPage page words) backed e' more = more e'
      go (HostPage page) backed e' more = by (eqb page p) page refl backed e' more

shared_hosts : (S : State) (p : ℕ) (tvms : List Tvm) → AllByRecursion (IsSoundTvm S) tvms → has p (flat_map (λ tvm. filter_map (λ m. shown_page m.backing) tvm.mappings) tvms) ≡ true → is_host (page_at S.pages p) ≡ true
shared_hosts S p [] all e = false-true e
shared_hosts S p (tvm ∷ tvms) all e =
    ⊎_elim
    (λ here. in_mappings S.pages _ tvm.number p tvm.mappings all.0 here)
    (λ there. shared_hosts S p tvms all.1 there)
    (has_append p (filter_map (λ m. shown_page m.backing) tvm.mappings) (flat_map (λ tvm. filter_map (λ m. shown_page m.backing) tvm.mappings) tvms) e)

-- a free page is not mapped
pub free_not_shared : (S : State) (p : ℕ) → IsSound S → page_at S.pages p ≡ Free → has p (shared_pages S) ≡ false
free_not_shared S p sound free = ⊎_elim
    (λ e. absurd (false≢true (ap is_host (sym free) ∙ shared_hosts S p S.tvms sound.tvms_sound e)))
    (λ e. e)
    (cases_Bool (has p (shared_pages S)))
