-- What one hart holds goes on fitting, and what it names.
use Rattle.std.proofs.Common.{◌≡◌, ℕ, ◌-◌, ◌<◌, Bool, true, false, cond, eqb, eqb-true, ◌||◌, find, option_map, IsSome, List, [], ◌∷◌, ◌++◌, Option, Some, None, length, drop, map, refl, sym, ◌∙◌, ap, subst, inl, inr, ◌⊎◌, ⊎_elim}
use Rattle.std.proofs.lemmas.Bool.{false≢true}
use Rattle.std.proofs.lemmas.List.{drop-map, length-map, map-append}
use Rattle.cove_base.proofs.ScriptLimits.{Limits}
use Rattle.cove_base.specs.HartPlaces.{IsNextPlace}
use Rattle.cove_model.specs.Machine.{HartRings, HartValue, Inside, after_walk, rings_after, ScriptValue, Entry, Page, Target, WasFound, Legal, after, has, ended_by, filled, holds_target, renewed, tlb}
use Rattle.cove_base.specs.Rings.{found, keep_last, ring_room, ring_with}
use Rattle.cove_base.specs.declared.events.Walked.{Walked}
use Rattle.cove_base.specs.declared.events.Walked.TheVariants as walks
use Rattle.cove_base.specs.declared.walks.Noted.{Noted}
use Rattle.cove_base.specs.declared.walks.Target.TheVariants as targets
use Rattle.cove_model.proofs.AtTheEnd.{own_alone, tlb_other, tlb_same}
use Rattle.cove_model.proofs.Members.{has_filled}
use Rattle.cove_model.proofs.Playing.{aimed_other, was_longer}
use Rattle.cove_model.proofs.Running.{ended_apart, mode_apart, seat_apart, still_since}
use Rattle.cove_model.proofs.Ways.{root_apart}
use Rattle.cove_model.specs.BoardRule.{FindsPage, HasFound}
use Rattle.cove_model.specs.Fits.{Fits, InsideFits, IsSought, UnusedFits, WalkFits, WasLed, ring_of, rings_of, seat_of, walked_rings}

-- the host page with a number
abbrev pub host_at : ℕ → Target
host_at p = targets.Host (record { 0 = p })

-- ---- an entry of another hart

pub led_longer : (script : ScriptValue) (H : List Entry) (e : Entry) (h : ℕ) (t : Target) (page : Page) → (e.hart.0 ≡ h → ⊥) → WasLed script H h t page → WasLed script (H ++ e ∷ []) h t page
led_longer script H e h t page ne led = record { was = was_longer script H e h t ne led.was; led = led.led }

module _ (script : ScriptValue) (limits : Limits script) (H : List Entry) (e : Entry) (front : Legal script H) (legal : Legal script (H ++ e ∷ [])) (h : ℕ) (on : h < script.harts) (ne : e.hart.0 ≡ h → ⊥) where
  pub sought_other : (t : Target) → IsSought script H h t → IsSought script (H ++ e ∷ []) h t
  sought_other t sought = record {
    aims = aimed_other script limits H e h on front legal (λ q. ne (sym q)) ∙ sought.aims;
    absent = ap (λ held. holds_target held t) (tlb_other script H e h ne) ∙ sought.absent;
  }

  walk_other : (target : Target) (walked : Walked) → WalkFits script H h target walked → WalkFits script (H ++ e ∷ []) h target walked
  walk_other target (walks.Found page) fits = (sought_other target fits.0, led_longer script H e h target page ne fits.1)
  walk_other target (walks.Missing word) fits = sought_other target fits

  unused_other : (noted : Option Noted) → UnusedFits script H h noted → UnusedFits script (H ++ e ∷ []) h noted
  unused_other None fits = tt
  unused_other (Some noted) fits = walk_other noted.target noted.walked fits

  pub inside_other : (o : Option Inside) → InsideFits (after script H) h o → InsideFits (after script (H ++ e ∷ [])) h o
  inside_other None fits = seat_apart script H e h ne ∙ fits
  inside_other (Some here) fits =
      let still = still_since script limits H (e ∷ []) h (seat_of here) on fits.sits front legal (own_alone e h ne) in
      record {
        sits = seat_apart script H e h ne ∙ fits.sits;
        root = root_apart script limits H e front h on ne (seat_of here) fits.sits ∙ fits.root;
        mode = mode_apart script limits H e h (seat_of here) on fits.sits front ∙ fits.mode;
        x = still.x ∙ fits.x;
        pc = still.pc ∙ fits.pc;
        latched = still.latched ∙ fits.latched;
        fuel = still.fuel ∙ fits.fuel;
      }

-- an entry of another hart changes nothing of this
pub fits_other : (script : ScriptValue) → Limits script → (H : List Entry) (e : Entry) → Legal script H → Legal script (H ++ e ∷ []) → (held : HartValue) → (e.hart.0 ≡ held.hart → ⊥) → Fits script H held → Fits script (H ++ e ∷ []) held
fits_other script limits H e front legal held ne fits = record {
  on_board = fits.on_board;
  counts = fits.counts ∙ sym (ended_apart script H e held.hart ne);
  stands = fits.stands;
  rings = fits.rings ∙ ap (λ t. walked_rings (rings_of t) held.walked) (sym (tlb_other script H e held.hart ne));
  walk = unused_other script limits H e front legal held.hart fits.on_board ne held.walked fits.walk;
  inside = inside_other script limits H e front legal held.hart fits.on_board ne held.inside fits.inside;
}

-- ---- a walk of the hart's own

pub fits_walked : (script : ScriptValue) (H : List Entry) (held : HartValue) (target : Target) (walked : Walked) → Fits script H held → held.walked ≡ None → WalkFits script H held.hart target walked → Fits script H (after_walk held target walked)
fits_walked script H held target walked fits none right = record {
  on_board = fits.on_board;
  counts = fits.counts;
  stands = fits.stands;
  rings = ap (λ rings. rings_after rings target walked) (fits.rings ∙ ap (walked_rings (rings_of (tlb script H held.hart))) none);
  walk = right;
  inside = fits.inside;
}

-- ---- rings and lists of pages

keep_map : {X Y : Type 0} (f : X → Y) (n : ℕ) (xs : List X) → keep_last n (map f xs) ≡ map f (keep_last n xs)
keep_map f n xs = ap (λ k. drop (k - n) (map f xs)) (length-map xs f) ∙ drop-map f (length xs - n) xs

-- a ring is filled as its list of pages is
pub ring_filled : (pages : List ℕ) (p : ℕ) → ring_of (filled pages p) ≡ ring_with (ring_of pages) p (record { 0 = p })
ring_filled pages p =
    sym (keep_map as_pair ring_room (pages ++ p ∷ [])) ∙ ap (keep_last ring_room) (map-append as_pair pages (p ∷ []))
  where
    as_pair : ℕ → ℕ × Page
    as_pair q = (q, record { 0 = q })

-- a ring finds just the pages of its list, each under its own number
pub ring_finds_page : (pages : List ℕ) (p : ℕ) → found p (ring_of pages) ≡ cond (has p pages) (Some (record { 0 = p })) None
ring_finds_page [] p = refl
ring_finds_page (q ∷ pages) p = go (eqb q p) refl (ring_finds_page pages p)
  where
    go : (b : Bool) → eqb q p ≡ b → found p (ring_of pages) ≡ cond (has p pages) (Some (record { 0 = p })) None → option_map (λ pair. pair.1) (cond b (Some (q, record { 0 = q })) (find (λ pair. eqb pair.0 p) (ring_of pages))) ≡ cond (b || has p pages) (Some (record { 0 = p })) None
    go true e rest = ap (λ (k : ℕ). Some (as_page k)) (eqb-true q p e)
      where
        as_page : ℕ → Page
        as_page k = record { 0 = k }
    go false e rest = rest

-- ---- an entry of the hart's own

-- after an entry of its own a hart that knows where it stands and where it is, with the rings that the entry leaves, fits
pub fits_entered : (script : ScriptValue) (H : List Entry) (e : Entry) (left : HartValue) → e.hart.0 ≡ left.hart → left.hart < script.harts
    → left.ended ≡ ended_by (after script (H ++ e ∷ [])) left.hart → IsNextPlace script left.hart left.ended left.place
    → left.rings ≡ rings_of (renewed (after script H) left.hart (tlb script H left.hart) e.event) → left.walked ≡ None
    → InsideFits (after script (H ++ e ∷ [])) left.hart left.inside
    → Fits script (H ++ e ∷ []) left
fits_entered script H e left same on counts stands rings none inside = record {
  on_board = on;
  counts = counts;
  stands = stands;
  rings = rings ∙ ap rings_of (sym (tlb_same script H e left.hart same)) ∙ ap (walked_rings (rings_of (tlb script (H ++ e ∷ []) left.hart))) (sym none);
  walk = subst (UnusedFits script (H ++ e ∷ []) left.hart) (sym none) tt;
  inside = inside;
}

-- ---- what a hart names

-- a page that a ring of pages names is one of them
pub ring_names : (pages : List ℕ) (p : ℕ) → IsSome (found p (ring_of pages)) → has p pages ≡ true
ring_names pages p named = go (has p pages) (subst IsSome (ring_finds_page pages p) named)
  where
    as_page : ℕ → Page
    as_page k = record { 0 = k }

    go : (b : Bool) → IsSome (cond b (Some (as_page p)) None) → b ≡ true
    go true some = refl
    go false some = absurd (false≢true some)

pub same_page : (page q : Page) → page.0 ≡ q.0 → page ≡ q
same_page page q same = ap (λ n. as_page n) same
  where
    as_page : ℕ → Page
    as_page n = record { 0 = n }

-- a host page that an unused walk found was so since the hart's last entry
pub walk_was_found : (script : ScriptValue) (H : List Entry) (h p : ℕ) (noted : Option Noted) → UnusedFits script H h noted → HasFound noted p → WasFound script H h (host_at p)
walk_was_found script H h p None fits same = absurd same
walk_was_found script H h p (Some noted) fits same = go noted.target noted.walked fits same
  where
    go : (target : Target) (w : Walked) → WalkFits script H h target w → FindsPage target w p → WasFound script H h (host_at p)
    go (targets.Host q) (walks.Found page) fits same = subst (λ n. WasFound script H h (host_at n)) same fits.1.was
    go (targets.Host q) (walks.Missing word) fits same = absurd same
    go (targets.Fetch g) w fits same = absurd same
    go (targets.Access g) w fits same = absurd same

-- a host page that the ring of a fitting hart names is one of its translations, or was found since its last entry
pub ring_cases : (script : ScriptValue) (H : List Entry) (h p : ℕ) (rings : HartRings) (noted : Option Noted) → UnusedFits script H h noted → rings ≡ walked_rings (rings_of (tlb script H h)) noted → IsSome (found p rings.hosts) → (has p (tlb script H h).pages ≡ true) ⊎ WasFound script H h (host_at p)
ring_cases script H h p rings None fits is named = inl (ring_names (tlb script H h).pages p (subst (λ (r : HartRings). IsSome (found p r.hosts)) is named))
ring_cases script H h p rings (Some noted) fits is named = go noted.target noted.walked fits is
  where
    go : (target : Target) (w : Walked) → WalkFits script H h target w → rings ≡ rings_after (rings_of (tlb script H h)) target w → (has p (tlb script H h).pages ≡ true) ⊎ WasFound script H h (host_at p)
    go (targets.Host q) (walks.Found page) fits is =
        let pages = (tlb script H h).pages in
        let R = ring_of pages in
        let at : rings.hosts ≡ ring_of (filled pages q.0) = ap (λ (r : HartRings). r.hosts) is ∙ ap (ring_with R q.0) (same_page page q fits.1.led) ∙ sym (ring_filled pages q.0) in
        ⊎_elim inl (λ same. inr (subst (λ n. WasFound script H h (host_at n)) same fits.1.was))
        (has_filled p q.0 pages (ring_names (filled pages q.0) p (subst (λ r. IsSome (found p r)) at named)))
    go (targets.Fetch g) (walks.Found page) fits is = inl (ring_names (tlb script H h).pages p (subst (λ (r : HartRings). IsSome (found p r.hosts)) is named))
    go (targets.Access g) (walks.Found page) fits is = inl (ring_names (tlb script H h).pages p (subst (λ (r : HartRings). IsSome (found p r.hosts)) is named))
    go target (walks.Missing word) fits is = inl (ring_names (tlb script H h).pages p (subst (λ (r : HartRings). IsSome (found p r.hosts)) is named))
