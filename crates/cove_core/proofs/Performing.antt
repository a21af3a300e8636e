-- What a hart did for its next line is an event that it may make, with its translations shown rightly.
use Rattle.std.proofs.Common.{◌≡◌, ℕ, zero, suc, ◌+◌, ◌-◌, ◌<◌, ◌≤◌, Bool, true, false, cond, ◌||◌, is_some, List, [], ◌∷◌, ◌++◌, Option, None, Some, length, drop, get_or, ◌↔◌, inl, inr, refl, sym, subst, ap, ◌∙◌, arith, eqb, eq-eqb}
use Rattle.std.proofs.lemmas.Bool.{false≢true, or_left, or_right}
use Rattle.std.proofs.lemmas.List.{length_push}
use Rattle.cove_core.specs.Made.{IsWithinReach}
use Rattle.std.proofs.lemmas.Option.{same_Some}
use Rattle.cove_base.proofs.ScriptLimits.{Limits}
use Rattle.cove_model.specs.Machine.{next_line, HartRings, HartValue, accessed_page, has_walked_to, rings_after, rings_with, IsHostWord, page_word, ScriptValue, Entry, Hit, Walk, Page, ScriptLine, Target, Reaches, WasFound, Legal, after, has, is_host, may_use, page_at, State, ended_by, Came, Failed, Tlb, Arrival, filled, holds_target, tlb, with_touched}
use Rattle.cove_base.specs.Rings.{found, ring_room}
use Rattle.cove_base.specs.declared.events.Walked.{Walked}
use Rattle.cove_base.specs.declared.events.Walked.TheVariants as walks
use Rattle.cove_base.specs.declared.walks.Noted.{Noted}
use Rattle.cove_base.specs.declared.walks.Target.TheVariants as targets
use Rattle.cove_core.specs.Reached.{HasUnusedWalk, ComesTo, finds_page}
use Rattle.cove_core.specs.declared.accesses.Reach.{Reach}
use Rattle.cove_core.specs.declared.accesses.Reach.TheVariants as reach
use Rattle.cove_hart.specs.Needs.{access_need}
use Rattle.cove_hart.specs.declared.needs.Need.TheVariants as needs
use Rattle.cove_model.proofs.Fitting.{host_at, ring_filled, ring_finds_page, same_page}
use Rattle.cove_model.proofs.Playing.{was_now}
use Rattle.cove_model.proofs.ToldProofs.{words_tell_host}
use Rattle.cove_model.proofs.Histories.{usable}
use Rattle.cove_model.proofs.Holding.{found_able, held_since, holds_able}
use Rattle.cove_model.proofs.Offering.{aim_of_page}
use Rattle.cove_model.proofs.Unbuilt.{outside_after}
use Rattle.cove_model.specs.Aims.{aimed_at, line_aim, next_aim}
use Rattle.cove_model.specs.Fits.{Fits, IsSought, UnusedFits, WalkFits, page_for, pairs_of, ring_of, rings_of, walked_rings}
use Rattle.cove_model.specs.WordLaws.{Stand}

-- by which way an access came to what was reached, and whether it may come to that
abbrev pub way_of : Reach → Arrival
way_of reach.Held = Came Hit
way_of reach.Walked = Came Walk
way_of reach.Fresh = Came Walk
way_of reach.Absent = Failed

abbrev pub MayReach : State → (hart p : ℕ) → Reach → Type 0
MayReach S h p reach.Held = may_use h (page_at S.pages p) ≡ true
MayReach S h p reach.Walked = may_use h (page_at S.pages p) ≡ true
MayReach S h p reach.Fresh = may_use h (page_at S.pages p) ≡ true
MayReach S h p reach.Absent = is_host (page_at S.pages p) ≡ false

-- what was reached is right, and the rings are those of the translations
pub record IsReachedRightly (script : ScriptValue) (H : List Entry) (h p : ℕ) (rings : HartRings) (r : Reach) : Type 0 where
  pub right : Reaches script H h (host_at p) (way_of r)
  pub may : MayReach (after script H) h p r
  pub rings_are : rings ≡ rings_of (with_touched (after script H) h (Some (host_at p, way_of r)) (tlb script H h))

-- ---- rings

found_some : (b : Bool) (page : Page) → is_some (cond b (Some page) None) ≡ true → b ≡ true
found_some true page e = refl
found_some false page e = absurd (false≢true e)

pub not_true : (b : Bool) → (b ≡ true → ⊥) → b ≡ false
not_true true e = absurd (e refl)
not_true false e = refl

ready_found : (held : HartValue) (p : ℕ) → held.walked ≡ None → access_need held (Some p) ≡ needs.Event → is_some (found p held.rings.hosts) ≡ true
ready_found held p none ready = go (is_some (found p held.rings.hosts)) (has_walked_to held.walked p) (ap (λ w. has_walked_to w p) none) ready
  where
    go : (b c : Bool) → c ≡ false → cond (b || c) needs.Event (needs.Walk (targets.Host (record { 0 = p }))) ≡ needs.Event → b ≡ true
    go true c e q = refl
    go false true e q = absurd (false≢true (sym e))
    go false false e q = cc

-- a ring that names a page, and one that names it not
pub ring_names : (pages : List ℕ) (p : ℕ) → has p pages ≡ true → is_some (found p (ring_of pages)) ≡ true
ring_names pages p named = ap is_some (ring_finds_page pages p ∙ ap (λ b. cond b (Some (page_of_number p)) None) named)
  where
    page_of_number : ℕ → Page
    page_of_number q = record { 0 = q }

pub ring_lacks : (pages : List ℕ) (p : ℕ) → has p pages ≡ false → found p (ring_of pages) ≡ None
ring_lacks pages p lacks = ring_finds_page pages p ∙ ap (λ b. cond b (Some (page_of_number p)) None) lacks
  where
    page_of_number : ℕ → Page
    page_of_number q = record { 0 = q }

ring_named : (pages : List ℕ) (p : ℕ) → is_some (found p (ring_of pages)) ≡ true → has p pages ≡ true
ring_named pages p some = found_some (has p pages) (record { 0 = p }) (sym (ap is_some (ring_finds_page pages p)) ∙ some)

-- rings are filled as the list of host pages is
pub rings_filled : (held : Tlb) (p : ℕ) → rings_of (record held { pages = filled held.pages p }) ≡ rings_with (rings_of held) (host_at p) (record { 0 = p })
rings_filled held p = ap (λ hosts. as_rings hosts) (ring_filled held.pages p)
  where
    as_rings : List (ℕ × Page) → HartRings
    as_rings hosts = record { hosts = hosts; fetches = pairs_of held.fetches; accesses = pairs_of held.accesses }

-- an access that was told
abbrev pub IsToldBy : (words : List ℕ) → HartRings → (p : ℕ) → Reach → Type 0
IsToldBy words rings p reach.Held = IsWithinReach words rings p
IsToldBy words rings p reach.Walked = IsWithinReach words rings p
IsToldBy words rings p reach.Fresh = IsWithinReach words rings p
IsToldBy words rings p reach.Absent = found p rings.hosts ≡ None

-- ---- an unused walk was for the page of the next line

pub record IsWalkFor (script : ScriptValue) (H : List Entry) (h p : ℕ) (rings before : HartRings) (finding : Bool) : Type 0 where
  pub absent : has p (tlb script H h).pages ≡ false
  pub was : finding ≡ true → WasFound script H h (host_at p)
  pub with_it : finding ≡ true → rings ≡ rings_with before (host_at p) (record { 0 = p })
  pub without_it : finding ≡ false → rings ≡ before

module _ (script : ScriptValue) (H : List Entry) (h ended : ℕ) (counts : ended ≡ ended_by (after script H) h) (l : ScriptLine) (next : next_line script h ended ≡ Some l) where
  -- what a hart outside looks for is what its next line looks for
  pub aim_is : (t : Target) → IsSought script H h t → line_aim l.line ≡ Some t
  aim_is t is =
      sym (ap (aimed_at script (after script H) h) (outside_after script H h) ∙ ap next_aim (ap (next_line script h) (sym counts) ∙ next)) ∙ is.aims

  pub target_is : (p : ℕ) → accessed_page l.line ≡ Some p → (t : Target) → IsSought script H h t → t ≡ host_at p
  target_is p asks t is = sym (same_Some (host_at p) t (sym (aim_of_page l.line p asks) ∙ aim_is t is))

  walk_for : (p : ℕ) → accessed_page l.line ≡ Some p → (rings : HartRings) (finding : Bool) (noted : Option Noted) → HasUnusedWalk noted finding → UnusedFits script H h noted → rings ≡ walked_rings (rings_of (tlb script H h)) noted → IsWalkFor script H h p rings (rings_of (tlb script H h)) finding
  walk_for p asks rings finding None walked fits is = absurd walked
  walk_for p asks rings finding (Some noted) walked fits is = go noted.target noted.walked walked fits is
    where
      go : (target : Target) (w : Walked) → finds_page w ≡ finding → WalkFits script H h target w → rings ≡ rings_after (rings_of (tlb script H h)) target w → IsWalkFor script H h p rings (rings_of (tlb script H h)) finding
      go target (walks.Found page) e fits' is' =
          let same = target_is p asks target fits'.0 in
          let R = rings_of (tlb script H h) in
          let number : page.0 ≡ p = fits'.1.led ∙ ap (page_for (after script fits'.1.was.earlier) h) same in
          record {
            absent = subst (λ t. holds_target (tlb script H h) t ≡ false) same fits'.0.absent;
            was = λ f. subst (WasFound script H h) same fits'.1.was;
            with_it = λ f. is' ∙ ap (λ t. rings_with R t page) same ∙ ap (rings_with R (host_at p)) (same_page page (record { 0 = p }) number);
            without_it = λ f. absurd (false≢true (sym (e ∙ f)));
          }
      go target (walks.Missing word) e fits' is' =
          let same = target_is p asks target fits' in
          record {
            absent = subst (λ t. holds_target (tlb script H h) t ≡ false) same fits'.absent;
            was = λ f. absurd (false≢true (e ∙ f));
            with_it = λ f. absurd (false≢true (e ∙ f));
            without_it = λ f. is';
          }

-- ---- what was reached is right

has_last : (n p : ℕ) (xs : List ℕ) → n ≤ length xs → has p (drop n (xs ++ p ∷ [])) ≡ true
has_last zero p xs few = has_end p xs
  where
    has_end : (q : ℕ) (ys : List ℕ) → has q (ys ++ q ∷ []) ≡ true
    has_end q [] = or_left (eqb q q) false (eq-eqb q q refl)
    has_end q (y ∷ ys) = or_right (eqb y q) (has q (ys ++ q ∷ [])) (has_end q ys)
has_last (suc n) p [] few = absurd (omega arith)
has_last (suc n) p (x ∷ xs) few = has_last n p xs (omega arith)

-- a page that a walk brings in is there
has_brought : (p : ℕ) (pages : List ℕ) → has p (filled pages p) ≡ true
has_brought p pages =
    let size : length (pages ++ p ∷ []) ≡ length pages + 1 = length_push pages p in
    has_last (length (pages ++ p ∷ []) - ring_room) p pages (omega arith)

module _ (script : ScriptValue) (limits : Limits script) (H : List Entry) (legal : Legal script H) (words : List ℕ) (stand : Stand script.pages script.harts words (after script H)) (held : HartValue) (fits : Fits script H held) (l : ScriptLine) (next : next_line script held.hart held.ended ≡ Some l) (p : ℕ) (asks : accessed_page l.line ≡ Some p) where
  pub walk_is : (finding : Bool) → HasUnusedWalk held.walked finding → IsWalkFor script H held.hart p held.rings (rings_of (tlb script H held.hart)) finding
  walk_is finding walked = walk_for script H held.hart held.ended fits.counts l next p asks held.rings finding held.walked walked fits.walk fits.rings

  -- a walk that found none left the rings without the page
  pub absent_now : HasUnusedWalk held.walked false → found p held.rings.hosts ≡ None
  absent_now walked =
      let w = walk_is false walked in
      ap (λ (r : HartRings). found p r.hosts) (w.without_it refl) ∙ ring_lacks (tlb script H held.hart).pages p w.absent

  -- the host's pages are told by the words
  host_told : p < script.pages → (is_host (page_at (after script H).pages p) ≡ true) ↔ IsHostWord (get_or words (page_word p) 0)
  host_told below = words_tell_host script.pages script.harts words (after script H) p below stand.stands.owners

  pub reached_rightly : p < script.pages → access_need held (Some p) ≡ needs.Event → (rings : HartRings) (r : Reach) → ComesTo words held p rings r → IsReachedRightly script H held.hart p rings r
  reached_rightly below ready rings reach.Held reaches =
      let T = tlb script H held.hart in
      let same : held.rings ≡ rings_of T = fits.rings ∙ ap (walked_rings (rings_of T)) reaches.0 in
      let named : has p T.pages ≡ true = ring_named T.pages p (ap (λ (x : HartRings). is_some (found p x.hosts)) (sym same) ∙ ready_found held p reaches.0 ready) in
      record {
        right = named;
        may = holds_able (after script H) held.hart T (host_at p) (usable script limits H legal held.hart) named;
        rings_are = reaches.1 ∙ same;
      }
  reached_rightly below ready rings reach.Walked reaches =
      let T = tlb script H held.hart in
      let w = walk_is true reaches.0 in
      record {
        right = (w.absent, w.was refl);
        may = held_since script H held.hart (host_at p) fits.on_board (w.was refl);
        rings_are = reaches.1 ∙ w.with_it refl ∙ sym (rings_filled T p);
      }
  reached_rightly below ready rings reach.Fresh reaches =
      let T = tlb script H held.hart in
      let w = walk_is false reaches.0 in
      let host = (host_told below).1 reaches.1 in
      record {
        right = (w.absent, was_now script H held.hart (host_at p) host);
        may = found_able (after script H) held.hart (host_at p) host;
        rings_are = reaches.2 ∙ ap (λ r. rings_with r (host_at p) (record { 0 = p })) (w.without_it refl) ∙ sym (rings_filled T p);
      }
  reached_rightly below ready rings reach.Absent reaches =
      let w = walk_is false reaches.0 in
      record {
        right = w.absent;
        may = not_true (is_host (page_at (after script H).pages p)) (λ e. reaches.1 ((host_told below).0 e));
        rings_are = reaches.2 ∙ w.without_it refl;
      }

  -- an access that succeeds has its page within reach, and one that faults has none in its ring
  pub told_rightly : access_need held (Some p) ≡ needs.Event → (rings : HartRings) (r : Reach) → ComesTo words held p rings r → IsToldBy words held.rings p r
  told_rightly ready rings reach.Held reaches = inl (ready_found held p reaches.0 ready)
  told_rightly ready rings reach.Walked reaches =
      let T = tlb script H held.hart in
      let w = walk_is true reaches.0 in
      inl (ap (λ (x : HartRings). is_some (found p x.hosts)) (w.with_it refl ∙ sym (rings_filled T p)) ∙ ring_names (filled T.pages p) p (has_brought p T.pages))
  told_rightly ready rings reach.Fresh reaches = inr reaches.1
  told_rightly ready rings reach.Absent reaches = absent_now reaches.0
