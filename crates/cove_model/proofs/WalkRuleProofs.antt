-- A walk's load keeps the rule of its hart.
use Rattle.std.proofs.Common.{◌≡◌, ℕ, ◌<◌, Bool, true, false, cond, IsSome, List, Some, None, get_or, refl, sym, ◌∙◌, ap, subst, inl, ⊎_elim}
use Rattle.cove_base.proofs.HostWalkLemmas.{says_so}
use Rattle.cove_model.specs.Machine.{HartRings, Holding, rings_with, IsHostWord, ScriptValue, Entry, Page, has, Tlb, filled, tlb}
use Rattle.cove_base.specs.HostWalks.{says_host}
use Rattle.cove_base.specs.Rings.{found, ring_with}
use Rattle.cove_base.specs.declared.events.Walked.TheVariants.{Found, Missing}
use Rattle.cove_base.specs.declared.walks.Target.TheVariants.{Host}
use Rattle.cove_model.proofs.Fitting.{ring_filled, ring_finds_page, ring_names}
use Rattle.cove_model.proofs.Members.{has_filled}
use Rattle.cove_model.specs.BoardRule.{IsLive, WalksKeepRule, walked_holding}
use Rattle.cove_model.specs.Fits.{ring_of, rings_of, walked_rings}
use Rattle.cove_model.specs.StoreLaw.{MayUse}

abbrev page_number : ℕ → Page
page_number k = record { 0 = k }

module _ (script : ScriptValue) (history : List Entry) (words : List ℕ) (held : Holding) (page : Page) (below : page.0 < script.pages) (none : held.walked ≡ None) (live : IsLive script history words held) where
  abbrev held_tlb : Tlb
  held_tlb = tlb script history held.hart

  rings_are : held.rings ≡ rings_of held_tlb
  rings_are = live.rings ∙ ap (walked_rings (rings_of held_tlb)) none

  in_ring : (p : ℕ) → has p held_tlb.pages ≡ true → IsSome (found p held.rings.hosts)
  in_ring p there =
      let names : found p (ring_of held_tlb.pages) ≡ Some (page_number p) = ring_finds_page held_tlb.pages p ∙ ap (λ b. cond b (Some (page_number p)) None) there in
      subst (λ (r : HartRings). IsSome (found p r.hosts)) (sym rings_are) (subst IsSome (sym names) refl)

  filled_usable : IsHostWord (get_or words page.0 0) → (p : ℕ) → IsSome (found p (ring_with held.rings.hosts page.0 page)) → (p < script.pages) × MayUse script.pages words held.hart p
  filled_usable host p named =
      let at : ring_with held.rings.hosts page.0 page ≡ ring_of (filled held_tlb.pages page.0) = ap (λ (r : HartRings). ring_with r.hosts page.0 page) rings_are ∙ sym (ring_filled held_tlb.pages page.0) in
      ⊎_elim (λ there. live.usable p (in_ring p there))
      (λ same. subst (λ n. (n < script.pages) × MayUse script.pages words held.hart n) same (below, inl host))
      (has_filled p page.0 held_tlb.pages (ring_names (filled held_tlb.pages page.0) p (subst (λ r. IsSome (found p r)) at named)))

  walked_by : (b : Bool) → says_host (get_or words page.0 0) ≡ b → IsLive script history words (walked_holding held (Host page) (cond b (Found page) (Missing (get_or words page.0 0))))
  walked_by true says =
      let host = says_so (get_or words page.0 0) says in
      record {
        on_board = live.on_board;
        usable = filled_usable host;
        walk = (refl, below, inl host);
        rings = ap (λ (r : HartRings). rings_with r (Host page) page) rings_are;
        way = live.way;
      }
  walked_by false says = record { on_board = live.on_board; usable = live.usable; walk = tt; rings = rings_are; way = live.way }

pub walks_keep_rule : WalksKeepRule
walks_keep_rule script history words held page below none live =
    walked_by script history words held page below none live (says_host (get_or words page.0 0)) refl
