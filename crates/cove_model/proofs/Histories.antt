-- States are sound, harts stay on the board, and translations are usable along histories; so legal histories are quiet.
use Rattle.std.proofs.Common.{◌≡◌, ℕ, ◌<◌, ◌≤◌, Bool, true, false, eqb, List, [], ◌∷◌, ◌++◌, Option, Some, None, unwrap_or, refl, sym, ap, subst, ◌∙◌, inl, inr, ◌⊎◌, ⊎_elim, arith, ◌||◌, eqb-true}
use Rattle.std.specs.List.{list_any}
use Rattle.std.proofs.lemmas.Bool.{cases_Bool, cases_eq, cases_lt, or_cases}
use Rattle.std.proofs.lemmas.Option.{none-some}
use Rattle.cove_base.proofs.ScriptLimits.{Limits}
use Rattle.cove_model.specs.Machine.{next_line, ScriptValue, Entry, Event, ScriptLine, Converting, Free, Given, Holder, Host, OfTvm, Owner, TheHost, has, holder, is_host, may_use, page_at, IsQuiet, IsQuietAt, Legal, after, own, kicked_offer, outside_offer, unkicked_offer, is_own, mapping_of, page_under, IsBacked, IsSound, IsSoundMapping, IsSoundPage, IsSoundTvm, IsUsable, LeadsTo, Backing, OwnPage, HostPage, Mapping, Tvm, new_tvm, State, ended_by, find_tvm, harts_inside, opening, Allows, Takes, after_event, done, Tlb, names, nothing_held, tlb}
use Rattle.cove_model.proofs.Members.{false-true}
use Rattle.cove_model.proofs.Runs.{opening_page, opening_past, opening_size}
use Rattle.cove_model.proofs.LineHarts.{line_on_board}
use Rattle.cove_model.proofs.AtTheEnd.{Allowed, after_harts_same, after_push, each_push, from_end, legal_front, legal_last, line_seats, tlb_other, tlb_same}
use Rattle.cove_model.proofs.EventMoves.{seat_other}
use Rattle.cove_model.proofs.SoundGuests.{sound_event}
use Rattle.cove_model.proofs.Usable.{LeadsOn, leads_on, leads_own, usable_before, usable_other, usable_own}
use Rattle.cove_model.proofs.UsingPages.{use_holder}
use Rattle.cove_model.proofs.KeyedLemmas.{at_key}
use Rattle.cove_model.proofs.KeepingCalls.{keeps_done}
use Rattle.cove_model.proofs.Lists.{all_any, all_at}

-- whose the page of a mapping is: its TVM's or the host's
abbrev owner_of : (own : Bool) (t : ℕ) → Holder
owner_of true t = OfTvm t
owner_of false t = TheHost

-- ---- sound

sound_opening : (script : ScriptValue) → IsSound (opening script)
sound_opening script = record {
  pages_sound = λ p. ⊎_elim
      (λ lt. subst (IsSoundPage script.harts []) (sym (opening_page script p lt)) (opening_size script.fills p))
      (λ le. subst (IsSoundPage script.harts []) (sym (opening_past script p le)) tt)
      (cases_lt p script.pages);
  on_board = λ n e. false-true e;
  rising = tt;
  tvms_sound = tt;
}

pub sound : (script : ScriptValue) (H : List Entry) → IsSound (after script H)
sound script = from_end (λ H. IsSound (after script H))
    (λ H e more. subst IsSound (sym (after_push script H e)) (sound_event (after script H) e.hart.0 e.event more))
    (sound_opening script)

pub after_harts : (script : ScriptValue) (H : List Entry) → (after script H).harts ≡ script.harts
after_harts script = from_end (λ H. (after script H).harts ≡ script.harts)
    (λ H e more. ap (λ (T : State). T.harts) (after_push script H e) ∙ after_harts_same (after script H) e.hart.0 e.event ∙ more)
    refl

-- ---- the board

-- a hart with no seat that makes an event has a line
offered_line : (script : ScriptValue) (S : State) (h : ℕ) (event : Event) → Limits script → S.seats h ≡ None → Allows script S h event → h < script.harts
offered_line script S h event limits outside allows =
    go (next_line script h (ended_by S h)) refl (subst (λ o. Takes S h (kicked_offer (has h S.kicked) o (unkicked_offer script S h o)) event) outside allows)
  where
    go : (o : Option ScriptLine) → next_line script h (ended_by S h) ≡ o → Takes S h (outside_offer script S h o) event → h < script.harts
    go None e t = absurd t
    go (Some line) e t = line_on_board script h (ended_by S h) line limits e

-- a hart that the board does not have is never inside a TVM, and makes no entry
module _ (script : ScriptValue) (limits : Limits script) where
  on_board_from : (H : List Entry) (e : Entry) → ((h : ℕ) → script.harts ≤ h → (after script H).seats h ≡ None) → Allowed script H e → e.hart.0 < script.harts
  on_board_from H e none here = ⊎_elim (λ lt. lt)
      (λ le. offered_line script (after script H) e.hart.0 e.event limits (none e.hart.0 le) here)
      (cases_lt e.hart.0 script.harts)

  pub seatless : (H : List Entry) → Legal script H → (h : ℕ) → script.harts ≤ h → (after script H).seats h ≡ None
  seatless = from_end (λ H. Legal script H → (h : ℕ) → script.harts ≤ h → (after script H).seats h ≡ None)
      (λ H e more legal h le.
      let front = more (legal_front script H e legal) in
      let lt = on_board_from H e front (legal_last script H e legal) in
      let S = after script H in
      ap (λ (T : State). T.seats h) (after_push script H e)
      ∙ ap (λ f. f h) (line_seats e.hart.0 ((done S e.hart.0 e.event).seats e.hart.0) (done S e.hart.0 e.event))
      ∙ seat_other S e.hart.0 h e.event (λ q. let q' = q in omega arith) ∙ front h le)
      (λ legal h le. refl)

  pub entry_on_board : (H : List Entry) (e : Entry) → Legal script H → Allowed script H e → e.hart.0 < script.harts
  entry_on_board H e legal here = on_board_from H e (seatless H legal) here

  -- such a hart holds nothing
  tlb_none : (H : List Entry) → Legal script H → (h : ℕ) → script.harts ≤ h → tlb script H h ≡ nothing_held
  tlb_none = from_end (λ H. Legal script H → (h : ℕ) → script.harts ≤ h → tlb script H h ≡ nothing_held)
      (λ H e more legal h le.
      let front = legal_front script H e legal in
      let lt = entry_on_board H e front (legal_last script H e legal) in
      tlb_other script H e h (λ q. let s = q in omega arith) ∙ more front h le)
      (λ legal h le. refl)

  -- ---- usable

  usable_same : (H : List Entry) (e : Entry) → Legal script (H ++ e ∷ []) → IsUsable (after script H) e.hart.0 (tlb script H e.hart.0) → IsUsable (after script (H ++ e ∷ [])) e.hart.0 (tlb script (H ++ e ∷ []) e.hart.0)
  usable_same H e legal more =
      let S = after script H in
      let here = legal_last script H e legal in
      let lt = subst (λ n. e.hart.0 < n) (sym (after_harts script H)) (entry_on_board H e (legal_front script H e legal) here) in
      subst (λ (T : State). IsUsable T e.hart.0 (tlb script (H ++ e ∷ []) e.hart.0)) (sym (after_push script H e))
      (subst (IsUsable (after_event S e.hart.0 e.event) e.hart.0) (sym (tlb_same script H e e.hart.0 refl))
      (usable_own script S e.hart.0 (tlb script H e.hart.0) e.event here lt more))

  usable_board : (H : List Entry) → Legal script H → (h : ℕ) → h < script.harts → IsUsable (after script H) h (tlb script H h)
  usable_board = from_end (λ H. Legal script H → (h : ℕ) → h < script.harts → IsUsable (after script H) h (tlb script H h))
      (λ H e more legal h lt.
      let front = more (legal_front script H e legal) in
      let P : ℕ → Type 0 = λ k. IsUsable (after script (H ++ e ∷ [])) k (tlb script (H ++ e ∷ []) k) in
      ⊎_elim
      (λ same. subst P same (usable_same H e legal (front e.hart.0 (subst (λ k. k < script.harts) (sym same) lt))))
      (λ ne. subst (λ (T : State). IsUsable T h (tlb script (H ++ e ∷ []) h)) (sym (after_push script H e))
      (subst (IsUsable (after_event (after script H) e.hart.0 e.event) h) (sym (tlb_other script H e h ne))
      (usable_other (after script H) h e.hart.0 (tlb script H h) e.event (sound script H) (subst (λ n. h < n) (sym (after_harts script H)) lt) (λ s. ne (sym s)) (front h lt))))
      (cases_eq e.hart.0 h))
      (λ legal h lt. record { pages = tt; fetches = tt; accesses = tt })

  -- what a hart's translations name it may use
  pub usable : (H : List Entry) → Legal script H → (h : ℕ) → IsUsable (after script H) h (tlb script H h)
  usable H legal h = ⊎_elim
      (λ lt. usable_board H legal h lt)
      (λ le. subst (IsUsable (after script H) h) (sym (tlb_none H legal h le)) (record { pages = tt; fetches = tt; accesses = tt }))
      (cases_lt h script.harts)

  -- ---- quiet

  -- a pair that leads has the page of its backing, whose holder its TVM or the host is
  leads_holder : (S : State) (h : ℕ) (own : Bool) (g p : ℕ) → IsSound S → (leads : LeadsTo S h own g p) → holder (page_at S.pages p) ≡ owner_of own leads.seat.tvm
  leads_holder S h own g p sound leads = found (find_tvm S leads.seat.tvm) refl leads.found
    where
      backed : (t : ℕ) (b : Backing) → IsBacked S.pages t leads.mapping.guest b → holder (page_at S.pages (page_under b)) ≡ owner_of (is_own b) t
      backed t (OwnPage page words) is = ap holder is.0
      backed t (HostPage page) is = host (page_at S.pages page) is
        where
          host : (o : Owner) → is_host o ≡ true → holder o ≡ TheHost
          host (Host words) e = refl
          host (Converting held waiting words) e = refl
          host Free e = false-true e
          host (Given tvm purpose) e = false-true e

      found : (o : Option Tvm) → find_tvm S leads.seat.tvm ≡ o → mapping_of (unwrap_or o (new_tvm leads.seat.tvm)) g ≡ Some leads.mapping → holder (page_at S.pages p) ≡ owner_of own leads.seat.tvm
      found None e f = absurd (none-some leads.mapping f)
      found (Some tvm) e f =
          let all = all_at (IsSoundTvm S) (λ (k : Tvm). k.number) leads.seat.tvm S.tvms tvm e sound.tvms_sound in
          let number = at_key (λ (k : Tvm). k.number) leads.seat.tvm S.tvms tvm e in
          let here = all_at (IsSoundMapping S.pages (harts_inside S tvm.number) tvm.number) (λ (k : Mapping). k.guest) g tvm.mappings leads.mapping f all in
          ap (λ q. holder (page_at S.pages q)) (sym leads.shows) ∙ backed tvm.number leads.mapping.backing here.backed
          ∙ ap (λ k. owner_of k tvm.number) leads.kind ∙ ap (owner_of own) number

  -- what a hart holds after an entry it could use before it
  used_before : (H : List Entry) (e : Entry) → Legal script (H ++ e ∷ []) → (h : ℕ) → IsUsable (after script H) h (tlb script (H ++ e ∷ []) h)
  used_before H e legal h =
      let front = legal_front script H e legal in
      let P : ℕ → Type 0 = λ k. IsUsable (after script H) k (tlb script (H ++ e ∷ []) k) in
      ⊎_elim
      (λ same. subst P same (subst (IsUsable (after script H) e.hart.0) (sym (tlb_same script H e e.hart.0 refl))
      (usable_before script (after script H) e.hart.0 (tlb script H e.hart.0) e.event (legal_last script H e legal) (usable H front e.hart.0))))
      (λ ne. subst (IsUsable (after script H) h) (sym (tlb_other script H e h ne)) (usable H front h))
      (cases_eq e.hart.0 h)

  -- a pair of a hart leads on over an entry
  pair_stays : (H : List Entry) (e : Entry) → Legal script (H ++ e ∷ []) → (h : ℕ)
      → ((own : Bool) (g p : ℕ) (leads : LeadsTo (after script H) h own g p) → LeadsOn (after script H) (after_event (after script H) e.hart.0 e.event) h own g p leads)
      ⊎ (((tlb script (H ++ e ∷ []) h).fetches ≡ []) × ((tlb script (H ++ e ∷ []) h).accesses ≡ []))
  pair_stays H e legal h =
      let S = after script H in
      let front = legal_front script H e legal in
      let here = legal_last script H e legal in
      ⊎_elim
      (λ same.
      let P : ℕ → Type 0 = λ k. ((own : Bool) (g p : ℕ) (leads : LeadsTo S k own g p) → LeadsOn S (after_event S e.hart.0 e.event) k own g p leads)
      ⊎ (((tlb script (H ++ e ∷ []) k).fetches ≡ []) × ((tlb script (H ++ e ∷ []) k).accesses ≡ [])) in
      subst P same (⊎_elim inl
      (λ none. inr (ap (λ (t : Tlb). t.fetches) (tlb_same script H e e.hart.0 refl) ∙ none.0, ap (λ (t : Tlb). t.accesses) (tlb_same script H e e.hart.0 refl) ∙ none.1))
      (leads_own script S e.hart.0 (tlb script H e.hart.0) e.event here)))
      (λ ne. inl (λ own g p leads.
      let lt : h < S.harts = subst (λ n. h < n) (sym (after_harts script H)) (⊎_elim (λ q. q) (λ le. absurd (none-some leads.seat (sym (seatless H front h le) ∙ leads.sits))) (cases_lt h script.harts)) in
      leads_on S (done S e.hart.0 e.event) e.hart.0 ((done S e.hart.0 e.event).seats e.hart.0) h own g p (seat_other S e.hart.0 h e.event (λ q. ne (sym q)))
      (λ seat sits. keeps_done S h seat e.hart.0 e.event (sound script H) (record { on_board = lt; sits = sits }) (λ q. ne (sym q))) leads))
      (cases_eq e.hart.0 h)

  -- the page of a pair stays whose it was
  holder_stays : (H : List Entry) (e : Entry) → Legal script (H ++ e ∷ []) → (h : ℕ) (own : Bool) (g p : ℕ) (leads : LeadsTo (after script H) h own g p)
      → LeadsOn (after script H) (after_event (after script H) e.hart.0 e.event) h own g p leads
      → holder (page_at (after script (H ++ e ∷ [])).pages p) ≡ holder (page_at (after script H).pages p)
  holder_stays H e legal h own g p leads on =
      let S = after script H in
      let T = after_event S e.hart.0 e.event in
      let sound' : IsSound T = subst IsSound (after_push script H e) (sound script (H ++ e ∷ [])) in
      ap (λ (U : State). holder (page_at U.pages p)) (after_push script H e)
      ∙ leads_holder T h own g p sound' on.later ∙ ap (owner_of own) on.same ∙ sym (leads_holder S h own g p (sound script H) leads)

  page_named : (H : List Entry) (e : Entry) → Legal script (H ++ e ∷ []) → (h p : ℕ) → has p (tlb script (H ++ e ∷ []) h).pages ≡ true
      → holder (page_at (after script (H ++ e ∷ [])).pages p) ≡ holder (page_at (after script H).pages p)
  page_named H e legal h p named =
      let now = all_any (λ q. may_use h (page_at (after script (H ++ e ∷ [])).pages q) ≡ true) (λ q. eqb q p) (tlb script (H ++ e ∷ []) h).pages named (usable (H ++ e ∷ []) legal h).pages in
      let was = all_any (λ q. may_use h (page_at (after script H).pages q) ≡ true) (λ q. eqb q p) (tlb script (H ++ e ∷ []) h).pages named (used_before H e legal h).pages in
      let now' = subst (λ q. may_use h (page_at (after script (H ++ e ∷ [])).pages q) ≡ true) (eqb-true now.0 p now.2) now.1 in
      let was' = subst (λ q. may_use h (page_at (after script H).pages q) ≡ true) (eqb-true was.0 p was.2) was.1 in
      use_holder h (page_at (after script (H ++ e ∷ [])).pages p) now' ∙ sym (use_holder h (page_at (after script H).pages p) was')

  fetch_named : (H : List Entry) (e : Entry) → Legal script (H ++ e ∷ []) → (h p : ℕ) → list_any (λ (pair : ℕ × ℕ). eqb pair.1 p) (tlb script (H ++ e ∷ []) h).fetches ≡ true
      → holder (page_at (after script (H ++ e ∷ [])).pages p) ≡ holder (page_at (after script H).pages p)
  fetch_named H e legal h p named = ⊎_elim
      (λ on.
      let f = all_any (λ (pair : ℕ × ℕ). LeadsTo (after script H) h true pair.0 pair.1) (λ (pair : ℕ × ℕ). eqb pair.1 p) (tlb script (H ++ e ∷ []) h).fetches named (used_before H e legal h).fetches in
      let P : ℕ → Type 0 = λ q. holder (page_at (after script (H ++ e ∷ [])).pages q) ≡ holder (page_at (after script H).pages q) in
      subst P (eqb-true f.0.1 p f.2) (holder_stays H e legal h true f.0.0 f.0.1 f.1 (on true f.0.0 f.0.1 f.1)))
      (λ none. false-true (sym (ap (list_any (λ (pair : ℕ × ℕ). eqb pair.1 p)) none.0) ∙ named))
      (pair_stays H e legal h)

  access_named : (H : List Entry) (e : Entry) → Legal script (H ++ e ∷ []) → (h p : ℕ) → list_any (λ (pair : ℕ × ℕ). eqb pair.1 p) (tlb script (H ++ e ∷ []) h).accesses ≡ true
      → holder (page_at (after script (H ++ e ∷ [])).pages p) ≡ holder (page_at (after script H).pages p)
  access_named H e legal h p named = ⊎_elim
      (λ on.
      let f = all_any (λ (pair : ℕ × ℕ). (own : Bool) × LeadsTo (after script H) h own pair.0 pair.1) (λ (pair : ℕ × ℕ). eqb pair.1 p) (tlb script (H ++ e ∷ []) h).accesses named (used_before H e legal h).accesses in
      let P : ℕ → Type 0 = λ q. holder (page_at (after script (H ++ e ∷ [])).pages q) ≡ holder (page_at (after script H).pages q) in
      subst P (eqb-true f.0.1 p f.2) (holder_stays H e legal h f.1.0 f.0.0 f.0.1 f.1.1 (on f.1.0 f.0.0 f.0.1 f.1.1)))
      (λ none. false-true (sym (ap (list_any (λ (pair : ℕ × ℕ). eqb pair.1 p)) none.1) ∙ named))
      (pair_stays H e legal h)

  quiet_at : (H : List Entry) (e : Entry) → Legal script (H ++ e ∷ []) → IsQuietAt script H e
  quiet_at H e legal p h moved = ⊎_elim (λ named. absurd (moved (stays named))) (λ q. q) (cases_Bool (names (tlb script (H ++ e ∷ []) h) p))
    where
      held : Tlb
      held = tlb script (H ++ e ∷ []) h

      stays : names (tlb script (H ++ e ∷ []) h) p ≡ true → holder (page_at (after script (H ++ e ∷ [])).pages p) ≡ holder (page_at (after script H).pages p)
      stays named = ⊎_elim
          (λ l. ⊎_elim (page_named H e legal h p) (fetch_named H e legal h p)
          (or_cases (has p (tlb script (H ++ e ∷ []) h).pages) (list_any (λ (pair : ℕ × ℕ). eqb pair.1 p) (tlb script (H ++ e ∷ []) h).fetches) l))
          (access_named H e legal h p)
          (or_cases (has p (tlb script (H ++ e ∷ []) h).pages || list_any (λ (pair : ℕ × ℕ). eqb pair.1 p) (tlb script (H ++ e ∷ []) h).fetches) (list_any (λ (pair : ℕ × ℕ). eqb pair.1 p) (tlb script (H ++ e ∷ []) h).accesses) named)

  -- in a legal history no page changes hands while a translation of any hart names it
  pub legal_quiet : (H : List Entry) → Legal script H → IsQuiet script H
  legal_quiet = from_end (λ H. Legal script H → IsQuiet script H)
      (λ H e more legal. each_push (IsQuietAt script) [] H e (more (legal_front script H e legal)) (quiet_at H e legal))
      (λ legal. tt)
