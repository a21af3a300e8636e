-- What a walk found since the hart's last entry, and what its translations name, the hart may use.
use Rattle.std.proofs.Common.{◌≡◌, ℕ, ◌<◌, Bool, true, false, eqb, eqb-true, true≢false, ◌&&◌, List, [], ◌∷◌, ◌++◌, refl, sym, ap, subst, ◌∙◌, ⊎_elim, append-nil, append_assoc}
use Rattle.std.specs.Option.{option_map_or}
use Rattle.std.proofs.lemmas.Bool.{and_from, and_parts, cases_eq}
use Rattle.cove_model.specs.Machine.{ScriptValue, Entry, Event, Target, may_use, page_at, WasFound, after, own, is_own, is_present, may_follow, page_under, is_found, is_mapped_for, may_succeed, seat_mapping, IsSound, IsUsable, LeadsTo, Seat, State, after_event, done, Tlb, holds_target, Standing, Present, Blocked, Mapping}
use Rattle.cove_base.specs.declared.walks.Target.TheVariants as target
use Rattle.cove_model.proofs.AtTheEnd.{after_push, from_end, line_pages, own_other, own_same}
use Rattle.cove_model.proofs.EventMoves.{moves, seat_other}
use Rattle.cove_model.proofs.Histories.{after_harts, sound}
use Rattle.cove_model.proofs.KeepingCalls.{keeps_done}
use Rattle.cove_model.proofs.Lists.{all_any}
use Rattle.cove_model.proofs.Usable.{is_mapped, leads_kept, leads_line}
use Rattle.cove_model.proofs.UsingPages.{use_host, use_move}

-- an access of a hart to a target may succeed, by a page that it may use or a mapping that it may follow
abbrev pub Able : State → (h : ℕ) → Target → Type 0
Able S h (target.Host p) = may_use h (page_at S.pages p.0) ≡ true
Able S h (target.Fetch g) = (p : ℕ) × LeadsTo S h true g.0 p
Able S h (target.Access g) = (own : Bool) × ((p : ℕ) × LeadsTo S h own g.0 p)

-- a mapping that leads passes the test of its kind
mapped_from : (S : State) (h g : ℕ) (own : Bool) (p : ℕ) (test : Mapping → Bool) (leads : LeadsTo S h own g p) → test leads.mapping ≡ true → is_mapped_for S h g test ≡ true
mapped_from S h g own p test leads passes =
    ap (λ o. option_map_or (λ (seat : Seat). option_map_or test (seat_mapping S g seat) false) o false) leads.sits
    ∙ ap (λ o. option_map_or test o false) leads.found ∙ passes

pub able_succeeds : (S : State) (h : ℕ) (t : Target) → Able S h t → may_succeed S h t ≡ true
able_succeeds S h (target.Host p) able = able
able_succeeds S h (target.Fetch g) able =
    let l = able.1 in mapped_from S h g.0 true able.0 (λ m. is_own m.backing && may_follow h m.standing) l (and_from (is_own l.mapping.backing) (may_follow h l.mapping.standing) l.kind l.follows)
able_succeeds S h (target.Access g) (own, (p, leads)) = mapped_from S h g.0 own p (λ m. may_follow h m.standing) leads leads.follows

present_follows : (h : ℕ) (s : Standing) → is_present s ≡ true → may_follow h s ≡ true
present_follows h Present e = refl
present_follows h (Blocked held waiting) e = absurd (true≢false (sym e))

pub found_able : (S : State) (h : ℕ) (t : Target) → is_found S h t ≡ true → Able S h t
found_able S h (target.Host p) e = use_host h (page_at S.pages p.0) e
found_able S h (target.Fetch g) e =
    let m = is_mapped S h g.0 (λ k. is_own k.backing && is_present k.standing) e in
    let parts = and_parts (is_own m.mapping.backing) (is_present m.mapping.standing) m.passes in
    (page_under m.mapping.backing, record { seat = m.seat; sits = m.sits; mapping = m.mapping; found = m.found; kind = parts.0; shows = refl; follows = present_follows h m.mapping.standing parts.1 })
found_able S h (target.Access g) e =
    let m = is_mapped S h g.0 (λ k. is_present k.standing) e in (
      is_own m.mapping.backing,
      (page_under m.mapping.backing, record { seat = m.seat; sits = m.sits; mapping = m.mapping; found = m.found; kind = refl; shows = refl; follows = present_follows h m.mapping.standing m.passes }),
    )

-- ---- entries of other harts

leads_other : (S : State) (h k : ℕ) (event : Event) (own : Bool) (g p : ℕ) → IsSound S → h < S.harts → (h ≡ k → ⊥) → LeadsTo S h own g p → LeadsTo (after_event S k event) h own g p
leads_other S h k event own g p sound lt ne leads =
    leads_line k h ((done S k event).seats k) (done S k event) own g p
    (leads_kept S (done S k event) h own g p (seat_other S k h event ne) (λ seat sits. keeps_done S h seat k event sound (record { on_board = lt; sits = sits }) ne) leads)

able_other : (S : State) (h k : ℕ) (event : Event) (t : Target) → IsSound S → h < S.harts → (h ≡ k → ⊥) → Able S h t → Able (after_event S k event) h t
able_other S h k event (target.Host p) sound lt ne able =
    ap (λ ps. may_use h (page_at ps p.0)) (line_pages k ((done S k event).seats k) (done S k event))
    ∙ use_move S (done S k event) k h (page_at S.pages p.0) (page_at (done S k event).pages p.0) (moves S k event p.0) (sound.pages_sound p.0) lt ne able
able_other S h k event (target.Fetch g) sound lt ne able = (able.0, leads_other S h k event true g.0 able.0 sound lt ne able.1)
able_other S h k event (target.Access g) sound lt ne (own, (p, leads)) = (own, (p, leads_other S h k event own g.0 p sound lt ne leads))

pub silent_parts : (since : List Entry) (e : Entry) (h : ℕ) → own (since ++ e ∷ []) h ≡ [] → (own since h ≡ []) × (e.hart.0 ≡ h → ⊥)
silent_parts since e h s = ⊎_elim
    (λ same. absurd (not_nil (own since h) e (sym (own_same since e h same) ∙ s)))
    (λ ne. (sym (own_other since e h ne) ∙ s, ne))
    (cases_eq e.hart.0 h)
  where
    not_nil : (xs : List Entry) (x : Entry) → xs ++ x ∷ [] ≡ [] → ⊥
    not_nil [] x q = cc
    not_nil (y ∷ ys) x q = cc

able_since : (script : ScriptValue) (earlier : List Entry) (h : ℕ) (t : Target) → h < script.harts → Able (after script earlier) h t → (since : List Entry) → own since h ≡ [] → Able (after script (earlier ++ since)) h t
able_since script earlier h t lt able = from_end (λ since. own since h ≡ [] → Able (after script (earlier ++ since)) h t)
    (λ since e more s.
    let parts = silent_parts since e h s in
    let H = earlier ++ since in
    let whole : earlier ++ (since ++ e ∷ []) ≡ H ++ e ∷ [] = sym (append_assoc earlier since (e ∷ [])) in
    subst (λ (T : State). Able T h t) (sym (ap (after script) whole ∙ after_push script H e))
    (able_other (after script H) h e.hart.0 e.event t (sound script H) (subst (λ n. h < n) (sym (after_harts script H)) lt) (λ q. parts.1 (sym q)) (more parts.0)))
    (λ s. subst (λ H. Able (after script H) h t) (sym (append-nil earlier)) able)

-- what was found since the hart's last entry it may use
pub held_since : (script : ScriptValue) (H : List Entry) (h : ℕ) (t : Target) → h < script.harts → WasFound script H h t → may_succeed (after script H) h t ≡ true
held_since script H h t lt was =
    able_succeeds (after script H) h t
    (subst (λ k. Able (after script k) h t) (sym was.split)
    (able_since script was.earlier h t lt (found_able (after script was.earlier) h t was.found) was.since was.silent))

-- ---- what is held

pub holds_able : (S : State) (h : ℕ) (held : Tlb) (t : Target) → IsUsable S h held → holds_target held t ≡ true → Able S h t
holds_able S h held (target.Host p) usable e =
    let f = all_any (λ q. may_use h (page_at S.pages q) ≡ true) (λ q. eqb q p.0) held.pages e usable.pages in
    subst (λ q. may_use h (page_at S.pages q) ≡ true) (eqb-true f.0 p.0 f.2) f.1
holds_able S h held (target.Fetch g) usable e =
    let f = all_any (λ (pair : ℕ × ℕ). LeadsTo S h true pair.0 pair.1) (λ (pair : ℕ × ℕ). eqb pair.0 g.0) held.fetches e usable.fetches in
    (f.0.1, subst (λ q. LeadsTo S h true q f.0.1) (eqb-true f.0.0 g.0 f.2) f.1)
holds_able S h held (target.Access g) usable e =
    let f = all_any (λ (pair : ℕ × ℕ). (own : Bool) × LeadsTo S h own pair.0 pair.1) (λ (pair : ℕ × ℕ). eqb pair.0 g.0) held.accesses e usable.accesses in
    (f.1.0, (f.0.1, subst (λ q. LeadsTo S h f.1.0 q f.0.1) (eqb-true f.0.0 g.0 f.2) f.1.1))
